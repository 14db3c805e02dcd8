-- Cells with a row written into them, read place by place.
use Rattle.std.proofs.Common.{◌≡◌, ℕ, ◌+◌, ◌-◌, ◌<◌, ◌≤◌, ltb, List, length, get_or, arith, rules, ltb-false, ltb-true}
use lib.Seq.{paste}
use Rattle.std.proofs.lemmas.List.{places}
use Rattle.std.proofs.lemmas.List.Edits.{length-paste}
use Rattle.coverage.proofs.Bools.{by_test}

pub paste_in : {X : Type 0} (d : List X) (at : ℕ) (s : List X) (k : ℕ) (z : X) → at + length s ≤ length d → k < length s → get_or (paste d at s (length s)) (at + k) z ≡ get_or s k z
paste_in d at s k z h l = search (rules, places)

pub paste_below : {X : Type 0} (d : List X) (at : ℕ) (s : List X) (i : ℕ) (z : X) → at + length s ≤ length d → i < at → get_or (paste d at s (length s)) i z ≡ get_or d i z
paste_below d at s i z h l = search (rules, places)

pub paste_above : {X : Type 0} (d : List X) (at : ℕ) (s : List X) (i : ℕ) (z : X) → at + length s ≤ length d → at + length s ≤ i → get_or (paste d at s (length s)) i z ≡ get_or d i z
paste_above d at s i z h l = search (rules, places)

pub paste_long : {X : Type 0} (d : List X) (at : ℕ) (s : List X) → at + length s ≤ length d → length (paste d at s (length s)) ≡ length d
paste_long d at s h = length-paste d at s (length s) h (omega arith)

-- a place before, in or after a part
pub by_place : {G : Type 0} (from m i : ℕ) → (i < from → G) → ((k : ℕ) → k < m → from + k ≡ i → G) → (from + m ≤ i → G) → G
by_place from m i f g h =
    by_test (ltb i from) (λ e. f (ltb-true _ _ e))
    (λ e. let a = ltb-false _ _ e in by_test (ltb i (from + m))
    (λ b. let c = ltb-true _ _ b in g (i - from) (omega arith) (omega arith))
    (λ b. h (ltb-false _ _ b)))
