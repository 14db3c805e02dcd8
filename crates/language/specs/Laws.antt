-- The laws of queries: for every query that the rules accept, over every shelf whose cells are of their kinds.
use Rattle.std.specs.Prelude.{◌≡◌, ℕ, ◌<◌, ◌≤◌, List, [], ◌∷◌, length, ℤ, Some, None, Ok, Option}
use Rattle.std.specs.List.{slice_get}
use Rattle.coverage.specs.declared.axis.Axis.{Axis}
use Rattle.coverage.specs.Axes.{Extents, Coordinates, cells, number_at, point_at, Inside, Agree, Ordered}
use Rattle.coverage.specs.Kinds.{Within}
use Rattle.syntax.specs.Tree.{Word, Expr, at, numeral, truth, name, iterator, unary, binary, reduce, trim, slice, condense, condense_where, form, Binding, Query}
use Rattle.language.specs.Iterators.{no_ranges}
use Rattle.language.specs.Typing.{About, Described, domain_of, promise_of}
use Rattle.language.specs.Faults.{fault_of}
use Rattle.language.specs.Values.{Looks, value_at}
use Rattle.language.specs.Reads.{reads_at}
use Rattle.language.specs.Queries.{Announced, checked, query_domain, cell_at, cell_reads, answer, reads, bind_about, no_places}

-- ---- what the laws ask of a shelf

-- every described domain has the ends of its ranges in order
abbrev pub OrderedDomains : Described → Type 0
OrderedDomains about = (w : Word) (a : About) → about w ≡ Some a → (x : Axis) → Ordered (a.extents x)

-- every cell inside its domain is null or of its kind
abbrev pub CellsOfTheirKind : Described → Looks → Type 0
CellsOfTheirKind about look = (w : Word) (a : About) → about w ≡ Some a → (p : Coordinates) → Inside a.extents p → Within a.kind (look w p)

-- a shelf as the laws ask for it
pub record SoundShelf (find : Described) (look : Looks) : Type 0 where
  pub ordered : OrderedDomains find
  pub kinds : CellsOfTheirKind find look

-- a later shelf has every known cell of this one
abbrev pub KnownCellsStay : Described → Looks → Looks → Type 0
KnownCellsStay about look later = (w : Word) (a : About) → about w ≡ Some a → (p : Coordinates) → Inside a.extents p → (v : ℤ) → look w p ≡ Some v → later w p ≡ Some v

-- two shelves have the same cells inside their domains, whatever coordinates they get for absent axes
abbrev pub CellsAlike : Described → Looks → Looks → Type 0
CellsAlike about look other = (w : Word) (a : About) → about w ≡ Some a → (p q : Coordinates) → Inside a.extents p → Agree a.extents p q → look w p ≡ other w q

-- ---- the three laws of an answer

-- every cell of the answer is null or a value of the announced kind, within the announced span
abbrev pub ValuesLieInTheirSpan : Type 0
ValuesLieInTheirSpan = (find : Described) (look : Looks) → SoundShelf find look → (q : Query) (t : Announced) → checked find q ≡ Ok t → (n : ℕ) → Within t.kind (cell_at find look q n)

-- the reads of a cell are at most its promise, those of an answer at most the query's
pub record ReadsStayWithinThePromise : Type 0 where
  pub of_a_cell : (find : Described) (look : Looks) (q : Query) (n : ℕ) → cell_reads find look q n ≤ promise_of (bind_about q.bindings find) q.body
  pub of_an_answer : (find : Described) (look : Looks) (q : Query) (t : Announced) → checked find q ≡ Ok t → reads find look q ≤ t.promise

-- where every known cell of one shelf is the same on another, every known cell of the answer is the same
abbrev pub KnownCellsNeverChange : Type 0
KnownCellsNeverChange = (find : Described) (look later : Looks) → SoundShelf find look → KnownCellsStay find look later →
    (q : Query) (t : Announced) → checked find q ≡ Ok t → (n : ℕ) (v : ℤ) → cell_at find look q n ≡ Some v → cell_at find later q n ≡ Some v

-- ---- promises are no looser than they must be

-- not null
abbrev pub Known : Option ℤ → Type 0
Known None = ⊥
Known (Some v) = Unit {0}

-- every cell inside the domains is known
abbrev pub AllKnown : Described → Looks → Type 0
AllKnown about look = (w : Word) (a : About) → about w ≡ Some a → (p : Coordinates) → Inside a.extents p → Known (look w p)

-- no `where` stands that could leave a body unread
abbrev pub NoWhere : Expr → Type 0
NoWhere (at place e) = NoWhere e
NoWhere (numeral n) = Unit {0}
NoWhere (truth b) = Unit {0}
NoWhere (name w) = Unit {0}
NoWhere (iterator w) = Unit {0}
NoWhere (unary o e) = NoWhere e
NoWhere (binary o d e) = NoWhere d × NoWhere e
NoWhere (reduce r e) = NoWhere e
NoWhere (trim twice a r e) = NoWhere e
NoWhere (slice twice a e q) = NoWhere e × NoWhere q
NoWhere (condense o is e) = NoWhere e
NoWhere (condense_where o is w e) = ⊥
NoWhere (form is e) = NoWhere e

-- then every cell of the answer is known, and its reads are the promise exactly
pub record NothingNullReadsThePromise : Type 0 where
  pub known : (find : Described) (look : Looks) → SoundShelf find look → AllKnown find look → (q : Query) → NoWhere q.body → (t : Announced) → checked find q ≡ Ok t → (n : ℕ) → Known (cell_at find look q n)
  pub exact : (find : Described) (look : Looks) → SoundShelf find look → AllKnown find look → (q : Query) → NoWhere q.body → (t : Announced) → checked find q ≡ Ok t → reads find look q ≡ t.promise

-- ---- what an answer depends on

-- only on cells inside the domains: where those are alike, so are all cells of the answer and their reads.
-- And a part's value at a point only on the coordinates of its own axes.
pub record AnswersDependOnlyOnCellsInside : Type 0 where
  pub of_a_cell : (find : Described) (look other : Looks) → SoundShelf find look → CellsAlike find look other →
      (q : Query) (t : Announced) → checked find q ≡ Ok t → (n : ℕ) → (cell_at find look q n ≡ cell_at find other q n) × (cell_reads find look q n ≡ cell_reads find other q n)
  pub at_a_point : (about : Described) (look other : Looks) → SoundShelf about look → CellsAlike about look other →
      (place : ℕ) (e : Expr) → fault_of about no_ranges place e ≡ None → (p q : Coordinates) → Inside (domain_of about e) p → Agree (domain_of about e) p q →
      (value_at about look no_places e p ≡ value_at about other no_places e q) × (reads_at about look no_places e p ≡ reads_at about other no_places e q)

-- a fact of every name that a query binds
abbrev pub EachBound : List Binding → (Word → Type 0) → Type 0
EachBound [] P = Unit {0}
EachBound (b ∷ rest) P = P b.coverage × EachBound rest P

-- a check sees only the descriptions, and a run only the cells, of the coverages that its query binds
pub record QueriesSeeOnlyWhatTheyBind : Type 0 where
  pub in_the_check : (find other : Described) (q : Query) → EachBound q.bindings (λ n. find n ≡ other n) → checked find q ≡ checked other q
  pub in_the_run : (find other : Described) (look seen : Looks) (q : Query) → EachBound q.bindings (λ n. find n ≡ other n) → EachBound q.bindings (λ n. (p : Coordinates) → look n p ≡ seen n p) →
      (n : ℕ) → (cell_at find look q n ≡ cell_at other seen q n) × (cell_reads find look q n ≡ cell_reads other seen q n)

-- an answer has a cell for each point of its domain, in their order
pub record AnswersHoldTheirCells : Type 0 where
  pub as_many : (find : Described) (look : Looks) (q : Query) → length (answer find look q) ≡ cells (query_domain find q)
  pub each_in_place : (find : Described) (look : Looks) (q : Query) (n : ℕ) → n < cells (query_domain find q) → slice_get (answer find look q) n ≡ Some (cell_at find look q n)

-- ---- the order of cells

-- the number of a cell and its point determine each other, x innermost, then y, then t
pub record CellsAndPointsNumberEachOther : Type 0 where
  pub number_of_point : (d : Extents) (n : ℕ) (p : Coordinates) → ((a : Axis) → Ordered (d a)) → n < cells d → number_at d (point_at d n p) ≡ n
  pub number_below_cells : (d : Extents) (p : Coordinates) → Inside d p → number_at d p < cells d
  pub point_of_number : (d : Extents) (p : Coordinates) → Inside d p → (a : Axis) → point_at d (number_at d p) p a ≡ p a
  pub point_inside : (d : Extents) (n : ℕ) (p : Coordinates) → ((a : Axis) → Ordered (d a)) → Inside d (point_at d n p)
