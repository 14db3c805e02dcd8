-- Two numerals of any length, compared by how many digits they have and then digit after digit.
use Rattle.std.proofs.Common.{◌≡◌, ◌≢◌, ℕ, suc, ◌+◌, ◌<◌, ◌≤◌, Bool, true, cond, eqb, List, [], ◌∷◌, length, get_or, drop, Some, Option, sym, refl, ap, ◌∙◌, subst, one-add, arith, eqb-true, nat_lt, lt-ltb, le-ltb}
use Rattle.std.specs.List.{fold, prefix_len}
use Rattle.std.specs.Cmp.{nat_cmp_is}
use Rattle.std.specs.Cmp.Lexicographic.{slice_partial_cmp}
use Rattle.std.specs.Ordering.{nat_cmp, partial_ordering_then, is_some_and, is_gt}
use Rattle.std.specs.declared.cmp.Ordering.{Ordering}
use Rattle.std.specs.declared.cmp.Ordering.TheVariants.{Less, Equal, Greater}
use Rattle.std.proofs.lemmas.Bool.{eqb-false}
use Rattle.std.proofs.lemmas.Cmp.{ranked, by_ranked}
use Rattle.coverage.proofs.Bools.{by_test, and_left, and_right}
use Rattle.lines.specs.Numerals.{is_digit, all_digits, digit_onto, worth}
use Rattle.lines.proofs.Words.{digit_low, digit_high}

-- what is larger stays larger with further digits, where the other has no more of them
below : (xs ys : List ℕ) (m n : ℕ) → m < n → length xs ≤ length ys → all_digits xs ≡ true → fold digit_onto m xs < fold digit_onto n ys
below [] [] m n h l d = h
below [] (y ∷ ys) m n h l d = below [] ys m (digit_onto n y) (omega arith) (omega arith) d
below (x ∷ xs) [] m n h l d = absurd (omega arith)
below (x ∷ xs) (y ∷ ys) m n h l d = below xs ys (digit_onto m x) (digit_onto n y) (let e = digit_high x (and_left (is_digit x) (all_digits xs) d) in omega arith) (omega arith) (and_right (is_digit x) (all_digits xs) d)

-- how slices of numbers compare
abbrev pub order : List ℕ → List ℕ → Option Ordering
order xs ys = slice_partial_cmp (λ x y. Some (nat_cmp x y)) xs ys

-- as many digits are worth as they compare
as_long : (xs ys : List ℕ) (m : ℕ) → length xs ≡ length ys → all_digits xs ≡ true → all_digits ys ≡ true → order xs ys ≡ Some (nat_cmp (fold digit_onto m xs) (fold digit_onto m ys))
as_long [] [] m l d e = ap (λ (o : Ordering). Some o) (nat_cmp_is m m Equal refl)
as_long [] (y ∷ ys) m l d e = absurd (omega arith)
as_long (x ∷ xs) [] m l d e = absurd (omega arith)
as_long (x ∷ xs) (y ∷ ys) m l d e =
    let dx = and_right (is_digit x) (all_digits xs) d in
    let dy = and_right (is_digit y) (all_digits ys) e in
    let lx = digit_low x (and_left (is_digit x) (all_digits xs) d) in
    let ly = digit_low y (and_left (is_digit y) (all_digits ys) e) in
    let step = λ (o : Ordering) (h : nat_cmp x y ≡ o) (k : o ≡ nat_cmp (fold digit_onto (digit_onto m x) xs) (fold digit_onto (digit_onto m y) ys)) (f : partial_ordering_then (Some o) (order xs ys) ≡ Some o). ap (λ (c : Ordering). partial_ordering_then (Some c) (order xs ys)) h ∙ f ∙ ap (λ (c : Ordering). Some c) k in
    by_ranked _ _ _ (nat_cmp x y) (ranked x y (nat_cmp x y) refl)
    (λ o h. step Less o (nat_cmp_is _ _ Less (below xs ys (digit_onto m x) (digit_onto m y) (omega arith) (omega arith) dx)) refl)
    (λ o h. ap (λ (c : Ordering). partial_ordering_then (Some c) (order xs ys)) o ∙ as_long xs ys (digit_onto m x) (omega arith) dx dy ∙ ap (λ (c : ℕ). Some (nat_cmp (fold digit_onto (digit_onto m x) xs) (fold digit_onto (digit_onto m c) ys))) h)
    (λ o h. step Greater o (nat_cmp_is _ _ Greater (below ys xs (digit_onto m y) (digit_onto m x) (omega arith) (omega arith) dy)) refl)

-- the digits of a number from the first that is not 0 on: they are worth the same
pub record Significant (ds s : List ℕ) : Type 0 where
  pub digits : all_digits s ≡ true
  pub first : 0 < length s → 48 < get_or s 0 0
  pub same : worth s ≡ worth ds

pub significant : (ds : List ℕ) → all_digits ds ≡ true → Significant ds (drop (prefix_len (λ b. eqb b 48) ds) ds)
significant [] h = record { digits = h; first = λ l. absurd (omega arith); same = refl }
significant (d ∷ ds) h =
    let n = and_right (is_digit d) (all_digits ds) h in
    let l = digit_low d (and_left (is_digit d) (all_digits ds) h) in
    by_test (eqb d 48)
    (λ e.
    let i = significant ds n in
    let z : prefix_len (λ b. eqb b 48) (d ∷ ds) ≡ suc (prefix_len (λ b. eqb b 48) ds) = ap (λ (c : Bool). cond c (1 + prefix_len (λ b. eqb b 48) ds) 0) e ∙ one-add _ in
    let w : 0 ≡ digit_onto 0 d = let k = eqb-true d 48 e in omega arith in
    subst (λ (k : ℕ). Significant (d ∷ ds) (drop k (d ∷ ds))) (sym z) record { digits = i.digits; first = i.first; same = i.same ∙ ap (λ (k : ℕ). fold digit_onto k ds) w })
    (λ e.
    let z : prefix_len (λ b. eqb b 48) (d ∷ ds) ≡ 0 = ap (λ (c : Bool). cond c (1 + prefix_len (λ b. eqb b 48) ds) 0) e in
    let k : d ≢ 48 = eqb-false d 48 e in
    subst (λ (k : ℕ). Significant (d ∷ ds) (drop k (d ∷ ds))) (sym z) record { digits = h; first = λ j. omega arith; same = refl })

longer : (s t : List ℕ) → length s < length t → all_digits s ≡ true → 48 < get_or t 0 0 → worth s < worth t
longer s [] h d f = absurd (omega arith)
longer s (y ∷ t) h d f = below s t 0 (digit_onto 0 y) (omega arith) (omega arith) d

module _ {a b s t : List ℕ} (p : Significant a s) (q : Significant b t) where
  compared : partial_ordering_then (Some (nat_cmp (length s) (length t))) (order s t) ≡ Some (nat_cmp (worth s) (worth t))
  compared =
      let step = λ (o : Ordering) (h : nat_cmp (length s) (length t) ≡ o) (k : o ≡ nat_cmp (worth s) (worth t)) (f : partial_ordering_then (Some o) (order s t) ≡ Some o). ap (λ (c : Ordering). partial_ordering_then (Some c) (order s t)) h ∙ f ∙ ap (λ (c : Ordering). Some c) k in
      by_ranked _ _ _ (nat_cmp (length s) (length t)) (ranked (length s) (length t) (nat_cmp (length s) (length t)) refl)
      (λ o h. step Less o (nat_cmp_is _ _ Less (longer s t h p.digits (q.first (omega arith)))) refl)
      (λ o h. ap (λ (c : Ordering). partial_ordering_then (Some c) (order s t)) o ∙ as_long s t 0 h p.digits q.digits)
      (λ o h. step Greater o (nat_cmp_is _ _ Greater (longer t s h q.digits (p.first (omega arith)))) refl)

  above : (m n : ℕ) → is_some_and is_gt (Some (nat_cmp m n)) ≡ nat_lt n m
  above m n = by_ranked _ _ _ (nat_cmp m n) (ranked m n (nat_cmp m n) refl)
      (λ o h. ap is_gt o ∙ sym (le-ltb n m (omega arith)))
      (λ o h. ap is_gt o ∙ sym (le-ltb n m (omega arith)))
      (λ o h. ap is_gt o ∙ sym (lt-ltb n m h))

  -- the longer is more, and of two as long the one that compares as more
  pub more : is_some_and is_gt (partial_ordering_then (Some (nat_cmp (length s) (length t))) (order s t)) ≡ nat_lt (worth b) (worth a)
  more = ap (is_some_and is_gt) compared ∙ above (worth s) (worth t) ∙ ap (λ (n : ℕ). nat_lt n (worth s)) q.same ∙ ap (nat_lt (worth b)) p.same
