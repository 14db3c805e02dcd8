-- The calls before a making, and what an allowed making may rely on.
use Rattle.std.proofs.Common.{◌≡◌, ℕ, Bool, true, false, cond, ◌&&◌, eqb, List, Some, None, Ok, Err, Option, Result, refl, ap, ◌∙◌, subst, eqb-true}
use borrow.Author.Tests.{clash}
use Rattle.std.specs.Option.{option_map_or}
use Rattle.std.specs.Result.{is_ok, result_ok, MatchResult}
use Rattle.coverage.specs.declared.kind.Kind.{Kind}
use Rattle.coverage.specs.declared.description.Description.{Description}
use Rattle.coverage.specs.Axes.{Domain, Extents, cells, extents}
use Rattle.coverage.specs.Limits.{bounded, describable, few, is_name, kind_narrow, kind_ordered, name_bytes}
use Rattle.coverage.proofs.Bools.{and_left, and_right, and_both}
use Rattle.shelf.specs.declared.fault.MakingFault.{MakingFault}
use Rattle.shelf.specs.declared.fault.MakingFault.TheVariants.{NoName, OutOfBounds, WideSpan, ManyCells, WrongLength}
use Rattle.shelf.specs.Meaning.{answer_of}
use Rattle.shelf.proofs.Answering.{cond_none}
use Rattle.shelf_laws.specs.Making.{grid_fault}
use Rattle.shelf_laws.specs.Single.{AskedFor, Described}

-- the call before a making answers the fault, if any
pub answer_by : {X : Type 0} (P : X → Type 0) (f : Option MakingFault) (r : Result X MakingFault) (s : Result (Unit {0}) MakingFault) →
    (f ≡ None → is_ok r ≡ true) → ((g : MakingFault) → f ≡ Some g → r ≡ Err g) → is_ok s ≡ is_ok r → MatchResult r P (λ e. s ≡ Err e) → s ≡ answer_of f
answer_by P None r s ok err v m = allowed s (v ∙ ok refl)
  where
    allowed : (t : Result (Unit {0}) MakingFault) → is_ok t ≡ true → t ≡ Ok tt
    allowed (Ok x) e = refl
    allowed (Err f) e = absurd (clash e)
answer_by P (Some f) r s ok err v m = subst (λ x. MatchResult x P (λ e. s ≡ Err e)) (err f refl) m

pub described_answer : (P : Description → Type 0) (f : Option MakingFault) (name : List ℕ) (d : Domain) (k : Kind) (receives : Bool) (r : Result Description MakingFault) (s : Result (Unit {0}) MakingFault) →
    Described f name d k receives r → is_ok s ≡ is_ok r → MatchResult r P (λ e. s ≡ Err e) → s ≡ answer_of f
described_answer P None name d k receives r s h v m = answer_by P None r s (λ _. ap is_ok h.1) (λ g e. cc) v m
described_answer P (Some f) name d k receives r s h v m = answer_by P (Some f) r s (λ e. cc) (λ g e. let same : f ≡ g = cc in h ∙ (let err : MakingFault → Result Description MakingFault = λ x. Err x in ap err same)) v m

-- what is described passes a test that each description passes which is asked for and allowed
pub described_passes : (test : Description → Bool) (f : Option MakingFault) (name : List ℕ) (d : Domain) (k : Kind) (receives : Bool) (r : Result Description MakingFault) →
    Described f name d k receives r → ((a : Description) → f ≡ None → AskedFor name d k receives a → test a ≡ true) → option_map_or test (result_ok r) true ≡ true
described_passes test None name d k receives r h all = ap (λ x. option_map_or test (result_ok x) true) h.1 ∙ all h.0 refl h.2
described_passes test (Some f) name d k receives r h all = ap (λ x. option_map_or test (result_ok x) true) h

-- what counting cells tells
pub counted_err : (b : Bool) (n : ℕ) (g : MakingFault) → ◌≡◌ {A = Result ℕ MakingFault} (Err g) (cond b (Ok n) (Err ManyCells)) → (b ≡ false) × (g ≡ ManyCells)
counted_err true n g e = cc
counted_err false n g e = (refl, cc)

pub counted_ok : (b : Bool) (n m : ℕ) → ◌≡◌ {A = Result ℕ MakingFault} (Ok m) (cond b (Ok n) (Err ManyCells)) → b ≡ true
counted_ok true n m e = refl
counted_ok false n m e = cc

-- what holds of an allowed grid
pub record Allowed (name : List ℕ) (d : Extents) (k : Kind) (length : ℕ) : Type 0 where
  pub named : is_name name ≡ true
  pub axes_bounded : bounded d ≡ true
  pub kind_ordered_holds : kind_ordered k ≡ true
  pub kind_narrow_holds : kind_narrow k ≡ true
  pub cells_few : few d ≡ true
  pub long : length ≡ cells d

pub grid_allowed : (name : List ℕ) (d : Extents) (k : Kind) (length : ℕ) → grid_fault name d k length ≡ None → Allowed name d k length
grid_allowed name d k length e =
    let a = cond_none (is_name name) _ NoName e in
    let b = cond_none (bounded d && kind_ordered k) _ OutOfBounds a.1 in
    let c = cond_none (kind_narrow k) _ WideSpan b.1 in
    let f = cond_none (few d) _ ManyCells c.1 in
    let g = cond_none (eqb length (cells d)) None (WrongLength (cells d)) f.1 in
    record {
      named = a.0;
      axes_bounded = and_left (bounded d) _ b.0;
      kind_ordered_holds = and_right (bounded d) _ b.0;
      kind_narrow_holds = c.0;
      cells_few = f.0;
      long = eqb-true _ _ g.0;
    }

-- the description of an allowed grid is within the limits
pub allowed_describable : (text : List ℕ) (d : Domain) (k : Kind) (length : ℕ) (a : Description) → Allowed text (extents d) k length →
    name_bytes a.name ≡ text → a.domain ≡ d → a.kind ≡ k → describable a ≡ true
allowed_describable text d k length a h n e f =
    and_both (is_name (name_bytes a.name)) _ (ap is_name n ∙ h.named)
    (and_both (bounded (extents a.domain)) _ (ap (λ x. bounded (extents x)) e ∙ h.axes_bounded)
    (and_both (kind_ordered a.kind) _ (ap kind_ordered f ∙ h.kind_ordered_holds)
    (and_both (kind_narrow a.kind) _ (ap kind_narrow f ∙ h.kind_narrow_holds) (ap (λ x. few (extents x)) e ∙ h.cells_few))))
