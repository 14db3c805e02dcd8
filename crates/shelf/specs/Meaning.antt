-- What a shelf means, what its calls answer, and what a strip leaves.
use Rattle.std.specs.Prelude.{ℕ, zero, suc, Bool, cond, ◌&&◌, List, [], ◌∷◌, length, ℤ, pos, is_some, Some, None, Ok, Err, Option, Result, ◌==◌, nat_lt, slice_index_or}
use Rattle.std.specs.List.{list_all, slice_get}
use Rattle.std.specs.Str.{bytes_eq}
use Rattle.coverage.specs.declared.axis.Axis.TheVariants.{X}
use Rattle.coverage.specs.declared.range.Range.{Range}
use Rattle.coverage.specs.declared.kind.Kind.{Kind}
use Rattle.coverage.specs.declared.description.Description.{Description}
use Rattle.coverage.specs.Axes.{Extents, Coordinates, extents, inside_b, step_of}
use Rattle.coverage.specs.Kinds.{fits}
use Rattle.coverage.specs.Limits.{name_bytes}
use Rattle.coverage.specs.Strips.{in_strip, row_width, strip_first, strips}
use Rattle.shelf.specs.declared.fault.ShelfFault.{ShelfFault}
use Rattle.shelf.specs.declared.fault.ShelfFault.TheVariants.{NoCoverage, Outside, Fixed, NoStrip, Unfit, AlreadyThere}

-- a coverage: what is said of it, and its cells, each null (None) or a value
pub record Coverage : Type 0 where
  pub about : Description
  pub cell : Coordinates → Option ℤ

abbrev pub domain_of : Coverage → Extents
domain_of k = extents k.about.domain

-- ---- looking

-- a coordinate counts where its axis is there, and is 0 where it is absent
abbrev pub settled_on : Option Range → ℤ → ℤ
settled_on None v = pos 0
settled_on (Some r) v = v

abbrev pub settled : Extents → Coordinates → Coordinates
settled d p a = settled_on (d a) (p a)

-- the cell at a point
abbrev pub cell_at : Coverage → Coordinates → Option ℤ
cell_at k p = k.cell (settled (domain_of k) p)

abbrev pub described : Option Coverage → ℕ → Result Description ShelfFault
described None c = Err (NoCoverage c 0)
described (Some k) c = Ok k.about

abbrev pub describe_answer : List Coverage → ℕ → Result Description ShelfFault
describe_answer m c = described (slice_get m c) c

abbrev pub raised : Option ℕ → Option ℕ
raised None = None
raised (Some n) = Some (suc n)

-- the lowest number with a name
abbrev pub find_answer : List Coverage → List ℕ → Option ℕ
find_answer [] n = None
find_answer (k ∷ ks) n = cond (bytes_eq (name_bytes k.about.name) n) (Some 0) (raised (find_answer ks n))

abbrev pub looked : Option Coverage → ℕ → Coordinates → Result (Option ℤ) ShelfFault
looked None c p = Err (NoCoverage c 0)
looked (Some k) c p = cond (inside_b (domain_of k) p) (Ok (cell_at k p)) (Err (Outside c))

abbrev pub look_answer : List Coverage → ℕ → Coordinates → Result (Option ℤ) ShelfFault
look_answer m c p = looked (slice_get m c) c p

-- ---- strips

-- each of some cells is a value of a kind
abbrev pub all_fit : Kind → List ℤ → Bool
all_fit k cs = list_all (fits k) cs

-- the cells of a strip put where it stands, and all else left
abbrev pub put_strip : Coverage → ℕ → List ℤ → Coverage
put_strip k n cs = record {
  about = k.about;
  cell = λ p. cond (in_strip (domain_of k) n p) (Some (slice_index_or cs (step_of (domain_of k X) (p X)) (pos 0))) (k.cell p);
}

-- whether strip n has come: its first cell is not null
abbrev pub strip_there : Coverage → ℕ → Bool
strip_there k n = is_some (cell_at k (strip_first (domain_of k) n))

-- why a strip does not fit a coverage, or nothing: fixed, no such strip, wrong length or a cell outside
-- the kind; tested in this order
abbrev pub shape_fault : Description → ℕ → ℕ → List ℤ → Option ShelfFault
shape_fault a c n cs =
    cond a.receives
    (cond (nat_lt n (strips (extents a.domain)))
    (cond (length cs == row_width (extents a.domain) && all_fit a.kind cs)
    None
    (Some (Unfit c n)))
    (Some (NoStrip c n)))
    (Some (Fixed c n))

abbrev pub first : Option ShelfFault → Option ShelfFault → Option ShelfFault
first None g = g
first (Some f) g = Some f

-- why a strip is refused by a coverage, or nothing: it does not fit, or last, it is already there
abbrev pub strip_refused : Coverage → ℕ → ℕ → List ℤ → Option ShelfFault
strip_refused k c n cs = first (shape_fault k.about c n cs) (cond (strip_there k n) (Some (AlreadyThere c n)) None)

abbrev pub fault_at : Option Coverage → ℕ → ℕ → List ℤ → Option ShelfFault
fault_at None c n cs = Some (NoCoverage c n)
fault_at (Some k) c n cs = strip_refused k c n cs

abbrev pub strip_fault : List Coverage → ℕ → ℕ → List ℤ → Option ShelfFault
strip_fault m c n cs = fault_at (slice_get m c) c n cs

-- what is answered to a call that has nothing to tell: the fault, if any
abbrev pub answer_of : {F : Type 0} → Option F → Result (Unit {0}) F
answer_of None = Ok tt
answer_of (Some f) = Err f

abbrev pub strip_answer : List Coverage → ℕ → ℕ → List ℤ → Result (Unit {0}) ShelfFault
strip_answer m c n cs = answer_of (strip_fault m c n cs)

-- one coverage of a list changed, the others left
abbrev pub edited : List Coverage → ℕ → (Coverage → Coverage) → List Coverage
edited [] c f = []
edited (k ∷ ks) zero f = f k ∷ ks
edited (k ∷ ks) (suc c) f = k ∷ edited ks c f

abbrev pub after_of : Option ShelfFault → List Coverage → ℕ → ℕ → List ℤ → List Coverage
after_of None m c n cs = edited m c (λ k. put_strip k n cs)
after_of (Some f) m c n cs = m

-- what a shelf means after a strip: a refusal leaves it as it was
abbrev pub strip_after : List Coverage → ℕ → ℕ → List ℤ → List Coverage
strip_after m c n cs = after_of (strip_fault m c n cs) m c n cs
