-- What several readings answer together.
use Rattle.std.proofs.Common.{◌≡◌, ℕ, List, [], ◌∷◌, Some, None, Ok, Err, Option, Result, sym, refl, ap, ◌∙◌, subst, arith}
use Rattle.std.specs.List.{fold}
use Rattle.lines.specs.declared.command.Command.{Command}
use Rattle.lines.specs.Forms.{either, farther, placed, stop_over}
use Rattle.lines.specs.Pieces.{Piece, stop}
use Rattle.lines.specs.Says.{Said}

farther_assoc : (a b c : Option ℕ) → farther (farther a b) c ≡ farther a (farther b c)
farther_assoc None b c = refl
farther_assoc (Some p) None c = refl
farther_assoc (Some p) (Some q) None = refl
farther_assoc (Some p) (Some q) (Some r) = ap (λ (n : ℕ). Some n) (omega arith)

farther_start : (a : Option ℕ) → farther (Some 0) a ≡ a
farther_start None = refl
farther_start (Some p) = ap (λ (n : ℕ). Some n) (omega arith)

farther_none : (a : Option ℕ) → a ≡ farther a (Some 0)
farther_none None = refl
farther_none (Some p) = ap (λ (n : ℕ). Some n) (omega arith)

either_place : {A : Type 0} (one other : Result A ℕ) → placed (either one other) ≡ farther (placed one) (placed other)
either_place (Ok c) other = refl
either_place (Err p) (Ok c) = refl
either_place (Err p) (Err q) = refl

module _ (line : List ℕ) where
  -- a reading of each form: where the line stops being it, and what the line says
  abbrev pub Readings : List (List Piece) → List (Result Command ℕ) → Type 0
  Readings [] [] = Unit {0}
  Readings [] (r ∷ rs) = ⊥
  Readings (f ∷ fs) [] = ⊥
  Readings (f ∷ fs) (r ∷ rs) = (placed r ≡ stop 0 f line) × Said line r × Readings fs rs

  either_says : (one other : Result Command ℕ) → Said line one → Said line other → Said line (either one other)
  either_says (Ok c) other h k = h
  either_says (Err p) (Ok c) h k = k
  either_says (Err p) (Err q) h k = tt

  after : (one : Result Command ℕ) (fs : List (List Piece)) (rs : List (Result Command ℕ)) → Said line one → Readings fs rs → (placed (fold either one rs) ≡ farther (placed one) (stop_over fs line)) × Said line (fold either one rs)
  after one [] [] k h = (farther_none (placed one), k)
  after one [] (r ∷ rs) k h = elim h [ ]
  after one (f ∷ fs) [] k h = elim h [ ]
  after one (f ∷ fs) (r ∷ rs) k h =
      let i = after (either one r) fs rs (either_says one r k h.1) h.2 in (
        i.0 ∙ ap (λ (p : Option ℕ). farther p (stop_over fs line)) (either_place one r)
            ∙ farther_assoc (placed one) (placed r) (stop_over fs line) ∙ ap (λ (p : Option ℕ). farther (placed one) (farther p (stop_over fs line))) h.0,
        i.1,
      )

  -- together they answer the command of one, or stop where the farthest stops
  pub any_reads : (fs : List (List Piece)) (rs : List (Result Command ℕ)) (r : Result Command ℕ) → r ≡ fold either (Err 0) rs → Readings fs rs → (placed r ≡ stop_over fs line) × Said line r
  any_reads fs rs r e h = let i = after (Err 0) fs rs tt h in (ap placed e ∙ i.0 ∙ farther_start (stop_over fs line), subst (Said line) (sym e) i.1)
