-- How far fixed bytes stand at the start of a text.
use Rattle.std.proofs.Common.{◌≡◌, ◌≢◌, ℕ, zero, suc, ◌<◌, ◌≤◌, List, [], ◌∷◌, length, take, get_or, sym, arith}
use Rattle.std.proofs.lemmas.Grind.{common_steps}
use Rattle.std.proofs.lemmas.List.Prefix.{front_from_reads}
use Rattle.cursor.specs.Words.{stand}

-- the bytes before n are alike, and those at n aren't, unless a list ends there
pub stand_is : (word bytes : List ℕ) (n : ℕ) → n ≤ length word → n ≤ length bytes → ((k : ℕ) → k < n → get_or word k 0 ≡ get_or bytes k 0) → (n < length word → n < length bytes → get_or word n 0 ≢ get_or bytes n 0) → stand word bytes ≡ n
stand_is [] bytes n w b alike apart = omega arith
stand_is (x ∷ word) [] n w b alike apart = omega arith
stand_is (x ∷ word) (y ∷ bytes) zero w b alike apart = let e = apart (omega arith) (omega arith) in grind arith
stand_is (x ∷ word) (y ∷ bytes) (suc n) w b alike apart =
    let e = alike 0 (omega arith) in
    let r = stand_is word bytes n (omega arith) (omega arith) (λ k h. alike (suc k) (omega arith)) (λ p q. apart (omega arith) (omega arith)) in
    grind (arith, e, r)

-- all of the word stands there
pub word_stands : (word bytes : List ℕ) → length word ≤ length bytes → ((k : ℕ) → k < length word → get_or word k 0 ≡ get_or bytes k 0) → take (length word) bytes ≡ word
word_stands word bytes n alike = let e = front_from_reads 0 bytes word n (λ k h. sym (alike k h)) in grind (arith, common_steps, e)
