-- The lowest number with a name, in a part of a list and in two lists joined.
use Rattle.std.proofs.Common.{◌≡◌, ℕ, zero, suc, ◌+◌, ◌<◌, ◌≤◌, Bool, true, false, cond, ltb, List, [], ◌∷◌, ◌++◌, length, take, Some, None, Option, sym, refl, ap, ◌∙◌, arith, ltb-false, ltb-true, le-ltb, lt-ltb}
use Rattle.std.specs.Bool.{then_some}
use Rattle.std.specs.Str.{bytes_eq}
use Rattle.coverage.specs.Limits.{name_bytes}
use Rattle.coverage.proofs.Bools.{by_test}
use Rattle.shelf.specs.Meaning.{Coverage, raised, find_answer}
use Rattle.shelf_laws.specs.Join.{joined}

abbrev pub below : Option ℕ → ℕ → Option ℕ
below None n = None
below (Some j) n = cond (ltb j n) (Some j) None

abbrev pub moved : Option ℕ → ℕ → Option ℕ
moved None k = None
moved (Some j) k = Some (k + j)

abbrev pub or_else : Option ℕ → Option ℕ → Option ℕ
or_else None o = o
or_else (Some i) o = Some i

some_cond : (t : Bool) (j n : ℕ) → ltb j n ≡ t → below (Some j) n ≡ cond t (Some j) None
some_cond t j n e = let S : ℕ → Option ℕ = λ i. Some i in ap (λ b. cond b (S j) None) e

raised_below : (o : Option ℕ) (n : ℕ) → raised (below o n) ≡ below (raised o) (suc n)
raised_below None n = refl
raised_below (Some j) n =
    by_test (ltb j n)
    (λ e. ap raised (some_cond true j n e) ∙ sym (some_cond true (suc j) (suc n) (lt-ltb _ _ (let h = ltb-true _ _ e in let g : suc j < suc n = omega arith in g))))
    (λ e. ap raised (some_cond false j n e) ∙ sym (some_cond false (suc j) (suc n) (le-ltb _ _ (let h = ltb-false _ _ e in let g : suc n ≤ suc j = omega arith in g))))

pub find_take : (n : ℕ) (xs : List Coverage) (nm : List ℕ) → find_answer (take n xs) nm ≡ below (find_answer xs nm) n
find_take zero xs nm = none_below (find_answer xs nm)
  where
    none_below : (o : Option ℕ) → None ≡ below o 0
    none_below None = refl
    none_below (Some j) = sym (some_cond false j 0 (le-ltb j 0 (omega arith)))
find_take (suc n) [] nm = refl
find_take (suc n) (x ∷ xs) nm =
    let t = bytes_eq (name_bytes x.about.name) nm in
    let S : ℕ → Option ℕ = λ i. Some i in
    by_test t
    (λ e. ap (λ b. cond b (S 0) (raised (find_answer (take n xs) nm))) e ∙ (sym (some_cond true 0 (suc n) (lt-ltb 0 (suc n) (omega arith))) ∙ sym (ap (λ b. below (cond b (S 0) (raised (find_answer xs nm))) (suc n)) e)))
    (λ e. ap (λ b. cond b (S 0) (raised (find_answer (take n xs) nm))) e ∙ (ap raised (find_take n xs nm) ∙ (raised_below (find_answer xs nm) n ∙ sym (ap (λ b. below (cond b (S 0) (raised (find_answer xs nm))) (suc n)) e))))

raised_or : (o p : Option ℕ) (l : ℕ) → raised (or_else o (moved p l)) ≡ or_else (raised o) (moved p (suc l))
raised_or (Some i) p l = refl
raised_or None None l = refl
raised_or None (Some j) l = let S : ℕ → Option ℕ = λ i. Some i in ap S (let e : suc (l + j) ≡ suc l + j = omega arith in e)

pub find_append : (xs ys : List Coverage) (nm : List ℕ) → find_answer (xs ++ ys) nm ≡ or_else (find_answer xs nm) (moved (find_answer ys nm) (length xs))
find_append [] ys nm = none (find_answer ys nm)
  where
    none : (o : Option ℕ) → o ≡ moved o 0
    none None = refl
    none (Some j) = let S : ℕ → Option ℕ = λ i. Some i in ap S (let e : j ≡ 0 + j = omega arith in e)
find_append (x ∷ xs) ys nm =
    let t = bytes_eq (name_bytes x.about.name) nm in
    let S : ℕ → Option ℕ = λ i. Some i in
    let rest = moved (find_answer ys nm) (suc (length xs)) in
    by_test t
    (λ e. ap (λ b. cond b (S 0) (raised (find_answer (xs ++ ys) nm))) e ∙ sym (ap (λ b. or_else (cond b (S 0) (raised (find_answer xs nm))) rest) e))
    (λ e. ap (λ b. cond b (S 0) (raised (find_answer (xs ++ ys) nm))) e ∙ (ap raised (find_append xs ys nm) ∙ (raised_or (find_answer xs nm) (find_answer ys nm) (length xs) ∙ sym (ap (λ b. or_else (cond b (S 0) (raised (find_answer xs nm))) rest) e))))

-- what is found is on the list
pub find_lt : (xs : List Coverage) (nm : List ℕ) (j : ℕ) → find_answer xs nm ≡ Some j → j < length xs
find_lt [] nm j e = cc
find_lt (x ∷ xs) nm j e =
    let S : ℕ → Option ℕ = λ i. Some i in
    by_test (bytes_eq (name_bytes x.about.name) nm)
    (λ t. let q : S 0 ≡ S j = sym (ap (λ b. cond b (S 0) (raised (find_answer xs nm))) t) ∙ e in let z : 0 ≡ j = cc in omega arith)
    (λ t. lower (find_answer xs nm) (λ i f. find_lt xs nm i f) refl (sym (ap (λ b. cond b (S 0) (raised (find_answer xs nm))) t) ∙ e))
  where
    lower : (o : Option ℕ) → ((i : ℕ) → find_answer xs nm ≡ Some i → i < length xs) → find_answer xs nm ≡ o → raised o ≡ Some j → j < suc (length xs)
    lower None r f g = cc
    lower (Some i) r f g = let h = r i f in let z : suc i ≡ j = cc in omega arith

-- the lowest number with a name in a join
pub find_joined : (a b : List Coverage) (nm : List ℕ) → find_answer (joined a b) nm ≡ below (or_else (find_answer a nm) (moved (find_answer b nm) (length a))) 8
find_joined a b nm = find_take 8 (a ++ b) nm ∙ ap (λ o. below o 8) (find_append a b nm)

pub then_cond : (b : Bool) (n : ℕ) → then_some b n ≡ cond b (Some n) None
then_cond true n = refl
then_cond false n = refl
