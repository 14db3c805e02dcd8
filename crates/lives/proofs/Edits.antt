-- A list of coverages with one of them changed.
use Rattle.std.proofs.Common.{◌≡◌, ℕ, zero, suc, cond, List, [], ◌∷◌, length, Some, None, Option, refl, ap, arith}
use Rattle.std.specs.List.{slice_get}
use Rattle.std.specs.Str.{bytes_eq}
use Rattle.coverage.specs.Limits.{name_bytes}
use Rattle.shelf.specs.Meaning.{Coverage, edited, find_answer, raised}
use Rattle.syntax.specs.Tree.{Word}

pub none_some : {A : Type 0} {B : Type 0} {x : A} → ◌≡◌ {A = Option A} None (Some x) → B
none_some e = let z : ◌≡◌ {A = ℕ} 0 1 = cc in absurd (omega arith)

pub edited_here : (m : List Coverage) (c : ℕ) (f : Coverage → Coverage) (k : Coverage) → slice_get m c ≡ Some k → slice_get (edited m c f) c ≡ Some (f k)
edited_here [] zero f k e = none_some e
edited_here [] (suc c) f k e = none_some e
edited_here (j ∷ m) zero f k e = let h : j ≡ k = cc in ap (λ (x : Coverage). Some (f x)) h
edited_here (j ∷ m) (suc c) f k e = edited_here m c f k e

pub edited_there : (m : List Coverage) (c i : ℕ) (f : Coverage → Coverage) → (c ≡ i → ⊥) → slice_get (edited m c f) i ≡ slice_get m i
edited_there [] c i f n = refl
edited_there (j ∷ m) zero zero f n = absurd (n refl)
edited_there (j ∷ m) zero (suc i) f n = refl
edited_there (j ∷ m) (suc c) zero f n = refl
edited_there (j ∷ m) (suc c) (suc i) f n = edited_there m c i f (λ e. n (ap suc e))

pub edited_long : (m : List Coverage) (c : ℕ) (f : Coverage → Coverage) → length (edited m c f) ≡ length m
edited_long [] c f = refl
edited_long (j ∷ m) zero f = refl
edited_long (j ∷ m) (suc c) f = ap suc (edited_long m c f)

-- names are found as before where names stay
pub edited_find : (m : List Coverage) (c : ℕ) (f : Coverage → Coverage) → ((k : Coverage) → (f k).about ≡ k.about) → (w : Word) → find_answer (edited m c f) w ≡ find_answer m w
edited_find [] c f h w = refl
edited_find (j ∷ m) zero f h w = ap (λ a. cond (bytes_eq (name_bytes a.name) w) (Some 0) (raised (find_answer m w))) (h j)
edited_find (j ∷ m) (suc c) f h w = ap (λ o. cond (bytes_eq (name_bytes j.about.name) w) (Some 0) (raised o)) (edited_find m c f h w)
