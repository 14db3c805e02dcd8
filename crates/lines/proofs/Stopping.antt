-- Over all forms: a line is accepted just where it is one, and else stops where no form goes on.
use Rattle.std.proofs.Common.{◌≡◌, ℕ, ◌+◌, ◌-◌, ◌<◌, ◌≤◌, max, Bool, true, false, ◌&&◌, ltb, ◌⊎◌, List, [], ◌∷◌, ◌++◌, length, take, Some, None, Ok, Err, Option, Result, sym, refl, ◌∙◌, subst, inl, inr, arith, ltb-false, ltb-true}
use Rattle.coverage.proofs.Bools.{by_test, and_left, and_right}
use Rattle.lines.specs.Pieces.{Piece, stop}
use Rattle.lines.specs.Forms.{forms, grid_form, farther, stop_over, placed}
use Rattle.lines.specs.Grammar.{Made, OneOf, Begins, StopsAt, Parsed}
use Rattle.lines.proofs.Viable.{fills, sound, reached, fronted, some_none, none_some, same_some}
use Rattle.lines.proofs.Whole.{clear, accepts}

abbrev all_clear : List (List Piece) → Bool
all_clear [] = true
all_clear (f ∷ fs) = clear f && all_clear fs

record Halt (fs : List (List Piece)) (line : List ℕ) (p : ℕ) : Type 0 where
  pub within : p ≤ length line
  pub before : (p ≡ 0) ⊎ ((r : List ℕ) × OneOf fs (take p line ++ r))
  pub later : (k : ℕ) (r : List ℕ) → p < k → k ≤ length line → OneOf fs (take k line ++ r) → ⊥
  pub none : OneOf fs line → ⊥

not_later : (f : List Piece) (line : List ℕ) (a : ℕ) → clear f ≡ true → stop 0 f line ≡ Some a → (k : ℕ) (r : List ℕ) → a < k → k ≤ length line → Made f (take k line ++ r) → ⊥
not_later f line a c e k r h l m = some_none a (sym (fronted 0 f line r k a e (omega arith) l) ∙ accepts 0 f (take k line ++ r) m c)

join : (f : List Piece) (fs : List (List Piece)) (line : List ℕ) (a b p : ℕ) → clear f ≡ true → stop 0 f line ≡ Some a → Halt fs line b → max a b ≡ p → Halt (f ∷ fs) line p
join f fs line a b p c e h q =
    let r = reached 0 f line a e in
    let rh = r.high in
    let hw = h.within in
    record {
      within = omega arith;
      before = by_test (ltb a b)
          (λ t. let l = ltb-true a b t in let x : b ≡ p = omega arith in elim h.before [ inl z ↦ inl (sym x ∙ z) | inr z ↦ inr (z.0, inr (subst (λ (n : ℕ). OneOf fs (take n line ++ z.0)) x z.1)) ])
          (λ t. let l = ltb-false a b t in let x : a - 0 ≡ p = omega arith in inr (r.rest, inl (subst (λ (n : ℕ). Made f (take n line ++ r.rest)) x r.front)));
      later = λ k s l w o. elim o [ inl m ↦ not_later f line a c e k s (omega arith) w m | inr m ↦ h.later k s (omega arith) w m ];
      none = λ o. elim o [ inl m ↦ some_none a (sym e ∙ accepts 0 f line m c) | inr m ↦ h.none m ];
    }

halts : (fs : List (List Piece)) (line : List ℕ) (p : ℕ) → all_clear fs ≡ true → stop_over fs line ≡ Some p → Halt fs line p
halts [] line p c e =
    let z = same_some 0 p e in
    record { within = omega arith; before = inl (sym z); later = λ k r l w o. o; none = λ o. o }
halts (f ∷ fs) line p c e = cases (stop 0 f line) refl (stop_over fs line) (λ b x. halts fs line b (and_right (clear f) (all_clear fs) c) x) refl e
  where
    cases : (x : Option ℕ) → stop 0 f line ≡ x → (y : Option ℕ) → ((b : ℕ) → stop_over fs line ≡ Some b → Halt fs line b) → stop_over fs line ≡ y → farther x y ≡ Some p → Halt (f ∷ fs) line p
    cases None u y g v k = absurd (none_some p k)
    cases (Some a) u None g v k = absurd (none_some p k)
    cases (Some a) u (Some b) g v k = join f fs line a b p (and_left (clear f) (all_clear fs) c) u (g b v) (same_some (max a b) p k)

one_of : (fs : List (List Piece)) (line : List ℕ) → stop_over fs line ≡ None → OneOf fs line
one_of [] line e = some_none 0 e
one_of (f ∷ fs) line e = cases (stop 0 f line) refl (stop_over fs line) (λ x. one_of fs line x) refl e
  where
    cases : (x : Option ℕ) → stop 0 f line ≡ x → (y : Option ℕ) → (stop_over fs line ≡ None → OneOf fs line) → stop_over fs line ≡ y → farther x y ≡ None → OneOf (f ∷ fs) line
    cases None u y g v k = inl (sound 0 f line u)
    cases (Some a) u None g v k = inr (g v)
    cases (Some a) u (Some b) g v k = absurd (some_none (max a b) k)

begins_nothing : Begins []
begins_nothing = let r = fills (grid_form false false false) in (r.0, inl r.1)

stops_at : (line : List ℕ) (p : ℕ) → Halt forms line p → StopsAt line p
stops_at line p h = record {
  within = h.within;
  before = elim h.before [ inl z ↦ subst (λ (n : ℕ). Begins (take n line)) (sym z) begins_nothing | inr z ↦ z ];
  there = λ l b. h.later (p + 1) b.0 (omega arith) (omega arith) b.1;
  none = h.none;
}

pub parsed : {A : Type 0} (line : List ℕ) (r : Result A ℕ) → placed r ≡ stop_over forms line → Parsed line r
parsed line (Ok c) e = one_of forms line (sym e)
parsed line (Err p) e = stops_at line p (halts forms line p refl (sym e))
