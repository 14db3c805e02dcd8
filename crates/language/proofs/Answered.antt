-- An answer holds its cells in their order.
use Rattle.std.proofs.Common.{◌≡◌, ℕ, zero, suc, ◌<◌, eqb, List, [], ◌∷◌, ◌++◌, length, ℤ, Some, Option, sym, refl, ap, ◌∙◌, arith, eqb-true}
use borrow.Author.Tests.{eqb-false}
use Rattle.std.specs.List.{slice_get}
use Rattle.coverage.specs.Axes.{cells}
use Rattle.coverage.proofs.Bools.{by_test}
use Rattle.language.specs.Queries.{query_domain, first_of, cell_at}
use Rattle.language.specs.Laws.{AnswersHoldTheirCells}

snoc_length : (xs : List (Option ℤ)) (x : Option ℤ) → length (xs ++ (x ∷ [])) ≡ suc (length xs)
snoc_length [] x = refl
snoc_length (y ∷ ys) x = ap suc (snoc_length ys x)

snoc_before : (xs : List (Option ℤ)) (x : Option ℤ) (n : ℕ) → n < length xs → slice_get (xs ++ (x ∷ [])) n ≡ slice_get xs n
snoc_before [] x n l = absurd (omega arith)
snoc_before (y ∷ ys) x zero l = refl
snoc_before (y ∷ ys) x (suc n) l = snoc_before ys x n (omega arith)

snoc_last : (xs : List (Option ℤ)) (x : Option ℤ) → slice_get (xs ++ (x ∷ [])) (length xs) ≡ Some x
snoc_last [] x = refl
snoc_last (y ∷ ys) x = snoc_last ys x

first_length : (f : ℕ → Option ℤ) (n : ℕ) → length (first_of f n) ≡ n
first_length f zero = refl
first_length f (suc n) = snoc_length (first_of f n) (f n) ∙ ap suc (first_length f n)

first_nth : (f : ℕ → Option ℤ) (n i : ℕ) → i < n → slice_get (first_of f n) i ≡ Some (f i)
first_nth f zero i l = absurd (omega arith)
first_nth f (suc n) i l =
    by_test (eqb i n)
    (λ h. let e : i ≡ n = eqb-true i n h in rw e (ap (slice_get (first_of f n ++ (f n ∷ []))) (sym (first_length f n)) ∙ snoc_last (first_of f n) (f n)))
    (λ h. let k : i < n = omega (arith, eqb-false i n h) in snoc_before (first_of f n) (f n) i (rw (first_length f n) k) ∙ first_nth f n i k)

pub answers_hold_their_cells : AnswersHoldTheirCells
answers_hold_their_cells = record {
  as_many = λ find look q. first_length (cell_at find look q) (cells (query_domain find q));
  each_in_place = λ find look q n l. first_nth (cell_at find look q) (cells (query_domain find q)) n l;
}
