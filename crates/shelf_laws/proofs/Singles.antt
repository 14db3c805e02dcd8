-- A shelf of one coverage or none: its calls by the description, the laws of a fixed one, and its making.
use Rattle.std.proofs.Common.{◌≡◌, ℕ, zero, suc, Bool, true, false, cond, List, [], ◌∷◌, ℤ, Some, None, Ok, Err, Option, Result, sym, refl, ap, ◌∙◌, subst}
use Rattle.std.specs.Option.{option_map_or}
use Rattle.std.specs.Result.{result_ok}
use borrow.Author.Tests.{clash, not-true}
use Rattle.coverage.specs.declared.kind.Kind.{Kind}
use Rattle.coverage.specs.declared.description.Description.{Description}
use Rattle.coverage.specs.Axes.{Domain, Coordinates, extents, inside_b}
use Rattle.coverage.specs.Kinds.{Within}
use Rattle.coverage.specs.Limits.{describable}
use Rattle.coverage.proofs.Bools.{and_left, and_right, by_test}
use Rattle.shelf.specs.declared.fault.MakingFault.{MakingFault}
use Rattle.shelf.specs.declared.fault.ShelfFault.{ShelfFault}
use Rattle.shelf.specs.declared.fault.ShelfFault.TheVariants.{Outside}
use Rattle.shelf.specs.Meaning.{Coverage, look_answer, settled, strip_fault}
use Rattle.shelf.specs.Laws.{Lawful, LawfulCoverage}
use Rattle.shelf.proofs.Single.{none_lawful, one_lawful}
use Rattle.shelf_laws.specs.Single.{CellsOf, Described, MadeFixed, fixed_fault, fixed_ok, reached, single}

-- ---- calls

-- what is seen of the coverage that a look reaches
abbrev pub seen : CellsOf → Result Description ShelfFault → Coordinates → Result (Option ℤ) ShelfFault
seen cell (Err f) p = Err f
seen cell (Ok a) p = Ok (cell (extents a.domain) (settled (extents a.domain) p))

pub look_reached : (o : Option Description) (cell : CellsOf) (c : ℕ) (p : Coordinates) → look_answer (single o cell) c p ≡ seen cell (reached o c p) p
look_reached None cell zero p = refl
look_reached None cell (suc c) p = refl
look_reached (Some a) cell zero p =
    let d = extents a.domain in
    let ok : Result (Option ℤ) ShelfFault = Ok (cell d (settled d p)) in
    let there : Result Description ShelfFault = Ok a in
    by_test (inside_b d p)
    (λ e. ap (λ b. cond b ok (Err (Outside 0))) e ∙ sym (ap (λ b. seen cell (cond b there (Err (Outside 0))) p) e))
    (λ e. ap (λ b. cond b ok (Err (Outside 0))) e ∙ sym (ap (λ b. seen cell (cond b there (Err (Outside 0))) p) e))
look_reached (Some a) cell (suc c) p = refl

-- a look that reaches a coverage has its point inside it
pub reached_in_lem : (o : Option Description) (c : ℕ) (p : Coordinates) (a : Description) → reached o c p ≡ Ok a → (o ≡ Some a) × (inside_b (extents a.domain) p ≡ true)
reached_in_lem None c p a e = cc
reached_in_lem (Some b) zero p a e =
    let d = extents b.domain in
    let there : Result Description ShelfFault = Ok b in
    let some : Description → Option Description = λ x. Some x in
    by_test (inside_b d p)
    (λ t.
    let q : there ≡ Ok a = sym (ap (λ x. cond x there (Err (Outside 0))) t) ∙ e in
    let same : b ≡ a = cc in
    (ap some same, subst (λ (x : Description). inside_b (extents x.domain) p ≡ true) same t))
    (λ t.
    let q : ◌≡◌ {A = Result Description ShelfFault} (Err (Outside 0)) (Ok a) = sym (ap (λ x. cond x there (Err (Outside 0))) t) ∙ e in
    cc)
reached_in_lem (Some b) (suc c) p a e = cc

fixed_fault_lem : (o : Option Description) (cell : CellsOf) (c n : ℕ) (row : List ℤ) → ((a : Description) → o ≡ Some a → a.receives ≡ false) → strip_fault (single o cell) c n row ≡ Some (fixed_fault o c n)
fixed_fault_lem None cell zero n row h = refl
fixed_fault_lem None cell (suc c) n row h = refl
fixed_fault_lem (Some a) cell zero n row h = rw (h a refl) refl
fixed_fault_lem (Some a) cell (suc c) n row h = refl

-- ---- laws

pub described_by : (a : Description) → fixed_ok (Some a) ≡ true → describable a ≡ true
described_by a h = and_left (describable a) _ h

pub fixed_by : (a : Description) → fixed_ok (Some a) ≡ true → a.receives ≡ false
fixed_by a h = not-true a.receives (and_right (describable a) _ h)

-- a fixed coverage is lawful whose cells are of its kind
pub fixed_lawful : (a : Description) (cell : CellsOf) → fixed_ok (Some a) ≡ true →
    ((p : Coordinates) → inside_b (extents a.domain) p ≡ true → Within a.kind (cell (extents a.domain) (settled (extents a.domain) p))) →
    LawfulCoverage (record { about = a; cell = cell (extents a.domain) })
fixed_lawful a cell h f = record {
  described = described_by a h;
  cells_fit = f;
  strips_whole = λ r n l p q e g. absurd (clash (sym (fixed_by a h) ∙ r));
}

-- what a shelf keeps where it has a coverage
pub kept_by : (test : Description → Bool) (o : Option Description) (a : Description) → option_map_or test o true ≡ true → o ≡ Some a → test a ≡ true
kept_by test o a h e = ap (λ x. option_map_or test x true) (sym e) ∙ h

-- a shelf is lawful whose coverage is, where it has one
pub single_lawful : (o : Option Description) (cell : CellsOf) → ((a : Description) → o ≡ Some a → LawfulCoverage (record { about = a; cell = cell (extents a.domain) })) → Lawful (single o cell)
single_lawful None cell h = none_lawful
single_lawful (Some a) cell h = one_lawful _ (h a refl)

-- ---- makings

-- an allowed making has what is described, and a refused one nothing
pub made_fixed : (f : Option MakingFault) (name : List ℕ) (d : Domain) (k : Kind) (cell : CellsOf) (r : Result Description MakingFault) →
    Described f name d k false r → MadeFixed f name d k cell (single (result_ok r) cell)
made_fixed None name d k cell r h =
    let make : Domain → List Coverage = λ x. (record { about = h.0; cell = cell (extents x) }) ∷ [] in
    record { about = h.0; asked = h.2; only = ap (λ x. single (result_ok x) cell) h.1 ∙ ap make h.2.domained }
made_fixed (Some f) name d k cell r h = ap (λ x. single (result_ok x) cell) h
