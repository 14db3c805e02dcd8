-- Digits after a number that is too large leave it so.
use Rattle.std.proofs.Common.{◌≡◌, ℕ, ◌+◌, ◌-◌, ◌*◌, ◌<◌, ◌≤◌, cond, leb, List, [], ◌∷◌, length, get_or, drop, Some, None, refl, arith}
use Rattle.std.proofs.lemmas.Bool.{lt-leb}
use Rattle.std.proofs.lemmas.List.{at_drop_more}
use Rattle.lexer.specs.Numerals.{decimal}

grows : (n : ℕ) (bs : List ℕ) → n ≤ decimal n bs
grows n [] = omega arith
grows n (b ∷ bs) = let h = grows (10 * n + (b - 48)) bs in omega arith

-- after i digits with the value v, the next one makes it too large
pub too_large : (digits : List ℕ) (i v : ℕ) → i < length digits → decimal v (drop i digits) ≡ decimal 0 digits → 2147483647 < v * 10 + (get_or digits i 0 - 48) → None ≡ (cond (leb (decimal 0 digits) 2147483647) (Some (decimal 0 digits)) None)
too_large digits i v within so_far large =
    let b = get_or digits i 0 in
    let step : decimal v (drop i digits) ≡ decimal (10 * v + (b - 48)) (drop (i + 1) digits) = at_drop_more (decimal v) digits i 0 within in
    let least = grows (10 * v + (b - 48)) (drop (i + 1) digits) in
    rw (lt-leb (decimal 0 digits) 2147483647 (omega arith)) refl
