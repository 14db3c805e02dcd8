-- A whole query: its bindings, what the check announces or refuses, and what the run answers.
use Rattle.std.specs.Prelude.{ℕ, zero, suc, ◌*◌, Bool, true, false, cond, not, List, [], ◌∷◌, ◌++◌, ℤ, pos, Some, None, Ok, Err, Option, Result, nat_le}
use Rattle.std.specs.Str.{bytes_eq}
use Rattle.coverage.specs.declared.kind.Kind.{Kind}
use Rattle.coverage.specs.declared.refusal.Refusal.{Refusal}
use Rattle.coverage.specs.Axes.{Extents, Coordinates, origin, cells, point_at}
use Rattle.syntax.specs.Tree.{Word, Binding, Query}
use Rattle.language.specs.Iterators.{Places, no_ranges}
use Rattle.language.specs.Typing.{About, Described, domain_of, kind_of, promise_of}
use Rattle.language.specs.Faults.{most_reads, first, unless, is_bound, fault_of}
use Rattle.language.specs.Values.{Looks, value_at}
use Rattle.language.specs.Reads.{sum_of, reads_at}

-- ---- bindings

-- the coverage's name that a `$` word stands for
abbrev pub stands_for : List Binding → Word → Option Word
stands_for [] w = None
stands_for (b ∷ rest) w = cond (bytes_eq b.word w) (Some b.coverage) (stands_for rest w)

-- the description of what a `$` word stands for, if it stands for anything
abbrev pub described_as : Described → Option Word → Option About
described_as find None = None
described_as find (Some n) = find n

-- the cell of what a `$` word stands for
abbrev pub looked_at : Looks → Option Word → Coordinates → Option ℤ
looked_at look None p = None
looked_at look (Some n) p = look n p

-- what `$` words stand for, by what names stand for on the shelf
abbrev pub bind_about : List Binding → Described → Described
bind_about bs find w = described_as find (stands_for bs w)

-- and their cells
abbrev pub bind_looks : List Binding → Looks → Looks
bind_looks bs look w p = looked_at look (stands_for bs w) p

-- whether a binding has a `$` word
abbrev pub bound_by : List Binding → Word → Bool
bound_by [] w = false
bound_by (b ∷ rest) w = cond (bytes_eq b.word w) true (bound_by rest w)

-- 5 at the `$` word if an earlier binding has it, then 5 at the name if the shelf has no such coverage
unfoldable pub binding_fault : Described → List Binding → Binding → Option Refusal
binding_fault find earlier b =
    first (unless (not (bound_by earlier b.word)) 5 b.word_place) (unless (is_bound (find b.coverage)) 5 b.coverage_place)

-- binding by binding
abbrev pub bindings_fault : Described → List Binding → List Binding → Option Refusal
bindings_fault find earlier [] = None
bindings_fault find earlier (b ∷ rest) = first (binding_fault find earlier b) (bindings_fault find (b ∷ earlier) rest)

-- ---- the check

-- the domain of the answer
abbrev pub query_domain : Described → Query → Extents
query_domain find q = domain_of (bind_about q.bindings find) q.body

-- the query's promise: its cells times the promise for a cell
abbrev pub query_promise : Described → Query → ℕ
query_promise find q = cells (query_domain find q) * promise_of (bind_about q.bindings find) q.body

-- bindings, then constructs, then 11 for the query, at place 0
unfoldable pub query_fault : Described → Query → Option Refusal
query_fault find q =
    first (bindings_fault find [] q.bindings) (
    first (fault_of (bind_about q.bindings find) no_ranges 0 q.body) (
    unless (nat_le (query_promise find q) most_reads) 11 0))

-- what an accepted check tells
pub record Announced : Type 0 where
  pub extents : Extents
  pub kind : Kind
  pub promise : ℕ

-- the domain, kind and promise of a query
abbrev pub announced : Described → Query → Announced
announced find q = record { extents = query_domain find q; kind = kind_of (bind_about q.bindings find) no_ranges q.body; promise = query_promise find q }

-- an announcement, unless there is a refusal
abbrev pub unless_refused : Option Refusal → Announced → Result Announced Refusal
unless_refused None t = Ok t
unless_refused (Some r) t = Err r

-- the answer of the check
abbrev pub checked : Described → Query → Result Announced Refusal
checked find q = unless_refused (query_fault find q) (announced find q)

-- ---- the run

-- around the outermost expression no iterator stands anywhere that counts
abbrev pub no_places : Places
no_places w = pos 0

-- cell n of the answer, x innermost, then y, then t: each is worked out alone
abbrev pub cell_at : Described → Looks → Query → ℕ → Option ℤ
cell_at find look q n = value_at (bind_about q.bindings find) (bind_looks q.bindings look) no_places q.body (point_at (query_domain find q) n origin)

-- the looks that cell n takes
abbrev pub cell_reads : Described → Looks → Query → ℕ → ℕ
cell_reads find look q n = reads_at (bind_about q.bindings find) (bind_looks q.bindings look) no_places q.body (point_at (query_domain find q) n origin)

-- the first n, in order
abbrev pub first_of : (ℕ → Option ℤ) → ℕ → List (Option ℤ)
first_of f zero = []
first_of f (suc n) = first_of f n ++ (f n ∷ [])

-- the cells of the answer
abbrev pub answer : Described → Looks → Query → List (Option ℤ)
answer find look q = first_of (cell_at find look q) (cells (query_domain find q))

-- and all its reads
abbrev pub reads : Described → Looks → Query → ℕ
reads find look q = sum_of (cell_reads find look q) (cells (query_domain find q))
