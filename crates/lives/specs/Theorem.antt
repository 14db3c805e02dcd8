-- What holds at every step of every life of a unit.
use Rattle.std.specs.Prelude.{◌≡◌, ℕ, ◌≤◌, true, List, ◌∷◌, ◌++◌, map, length, take, drop, ℤ, pos, Some, None, Ok, Option, Result, slice_index_or}
use Rattle.std.specs.Option.{option_map}
use Rattle.std.specs.List.{slice_get}
use Rattle.coverage.specs.declared.axis.Axis.TheVariants.{X}
use Rattle.coverage.specs.declared.refusal.Refusal.{Refusal}
use Rattle.coverage.specs.Axes.{Extents, Coordinates, Inside, cells, number_at, step_of}
use Rattle.coverage.specs.Kinds.{Within}
use Rattle.coverage.specs.Strips.{strip_at}
use Rattle.shelf.specs.Meaning.{Coverage, domain_of, cell_at, look_answer}
use Rattle.shelf.specs.Laws.{Lawful}
use Rattle.syntax.specs.Tree.{Query}
use Rattle.language.specs.Values.{value_at}
use Rattle.language.specs.Queries.{bind_about, bind_looks, no_places, Announced, checked, answer, reads}
use Rattle.lives.specs.declared.cell.Cell.{Cell}
use Rattle.parser.specs.Says.{text_says}
use Rattle.lives.specs.Shelves.{describes, looks}
use Rattle.lives.specs.Unit.{State, SwitchedOn, standing}
use Rattle.lives.specs.Entries.{entry}
use Rattle.lives.specs.Calls.{Areas, Answered, Call, strip, run, Step, work_needed}
use Rattle.lives.specs.Life.{Life, Checked, Stands, last_check, strip_in, is_refused, AreasStay}

-- ---- the shelf

-- a cell where a strip may have come: its place along the strip tells which of the strip's cells it is
abbrev pub covered : Option (List ℤ) → ℕ → Option ℤ → Option ℤ
covered None i was = was
covered (Some cs) i was = Some (slice_index_or cs i (pos 0))

-- the shelf is its first content with exactly the accepted strips put in, each in the row that its number names
pub record FirstContentWithStrips (first : List Coverage) (past : List Call) (now : List Coverage) : Type 0 where
  pub as_many_coverages : length now ≡ length first
  pub descriptions_stay : (c : ℕ) → option_map (λ (k : Coverage). k.about) (slice_get now c) ≡ option_map (λ (k : Coverage). k.about) (slice_get first c)
  -- a cell is that of the accepted strip through its point, else the first content
  pub each_cell : (c : ℕ) (k : Coverage) → slice_get first c ≡ Some k → (p : Coordinates) → Inside (domain_of k) p →
      look_answer now c p ≡ Ok (covered (strip_in c (strip_at (domain_of k) p) past) (step_of (domain_of k X) (p X)) (cell_at k p))

-- ---- plans

-- what stands in a plan is the query of the text that was last accepted into it, with what was announced;
-- the rules accept it for the shelf as it is, with the same announcement
pub record HoldsItsText (now : State) (p : ℕ) (c : Checked) : Type 0 where
  pub query : Query
  pub the_text_says_it : text_says c.text ≡ Ok query
  pub stands_in_the_plan : standing now p ≡ Some (record { query = query; announced = c.announced })
  pub accepted_for_this_shelf : checked (describes now.shelf) query ≡ Ok c.announced

-- a plan is empty where no check into it was accepted
abbrev pub PlanHolds : State → ℕ → Option Checked → Type 0
PlanHolds now p None = standing now p ≡ None
PlanHolds now p (Some c) = HoldsItsText now p c

-- ---- an accepted run

-- the entry of an answer at coordinates of its domain
abbrev pub entry_at : Extents → Areas → Coordinates → Option Cell
entry_at d areas p = slice_get areas.answer (number_at d p)

-- the value of a query at a point, from what is on the shelf
abbrev pub value_from : List Coverage → Query → Coordinates → Option ℤ
value_from m q p = value_at (bind_about q.bindings (describes m)) (bind_looks q.bindings (looks m)) no_places q.body p

-- the answer to a text that was announced, over a shelf as it is at that run
pub record RightlyAnswered (m : List Coverage) (c : Checked) (before : Areas) (r : Answered) (after : Areas) : Type 0 where
  pub query : Query
  pub the_text_says_it : text_says c.text ≡ Ok query
  -- the rules accept it for this shelf, with the same announcement
  pub accepted_for_this_shelf : checked (describes m) query ≡ Ok c.announced
  -- it has exactly the cells of the announced domain, in order
  pub as_many_cells : r.cells ≡ cells c.announced.extents
  pub cells_in_order : take (cells c.announced.extents) after.answer ≡ map entry (answer (describes m) (looks m) query)
  -- the entry at each point of the domain is the value there, as defined from the shelf
  pub each_cell_as_defined : (p : Coordinates) → Inside c.announced.extents p → entry_at c.announced.extents after p ≡ Some (entry (value_from m query p))
  -- null, or a value of the announced kind, a number within its span
  pub null_or_of_the_announced_kind : (p : Coordinates) → Inside c.announced.extents p → Within c.announced.kind (value_from m query p)
  pub later_entries_stay : drop (cells c.announced.extents) after.answer ≡ drop (cells c.announced.extents) before.answer
  pub area_as_long : length after.answer ≡ length before.answer
  -- its reads are the defined looks, and at most the promise announced
  pub reads_as_defined : r.reads ≡ reads (describes m) (looks m) query
  pub reads_within_the_promise : r.reads ≤ c.announced.promise

-- areas as long as a run of this text asks for
pub record LongEnough (c : Checked) (areas : Areas) : Type 0 where
  pub work : work_needed ≤ length areas.work
  pub answer : cells c.announced.extents ≤ length areas.answer

-- an earlier run of a text, among these calls, was accepted and answered a value at a point
pub record AnsweredEarlier (past : List Call) (text : List ℕ) (x : Coordinates) (v : ℤ) : Type 0 where
  pub newer : List Call
  pub older : List Call
  pub plan : ℕ
  pub before : Areas
  pub after : Areas
  pub told : Answered
  pub among_the_calls : past ≡ newer ++ (run plan before (Ok told) after ∷ older)
  pub announced : Announced
  pub the_text_stood : Stands plan (record { text = text; announced = announced }) older
  pub inside : Inside announced.extents x
  pub value_there : entry_at announced.extents after x ≡ Some (entry (Some v))

-- a run of a plan, after the calls of `past` and over the shelf as it is
pub record RunKeepsItsPromises (past : List Call) (m : List Coverage) (p : ℕ) (before : Areas) (r : Result Answered Refusal) (after : Areas) : Type 0 where
  -- a query that still stands, run with areas long enough, is accepted and rightly answered
  pub standing_query_is_answered : (c : Checked) → Stands p c past → LongEnough c before → (n : Answered) × (r ≡ Ok n) × RightlyAnswered m c before n after
  -- an accepted run had a query standing in its plan, and answered that
  pub accepted_run_had_a_standing_query : (n : Answered) → r ≡ Ok n → (c : Checked) × Stands p c past × LongEnough c before × RightlyAnswered m c before n after
  -- a cell answered with a value is answered with that value, at the same coordinates, in each later accepted
  -- run of a text equal byte for byte, in whichever plan
  pub known_cells_never_change : (n : Answered) → r ≡ Ok n → (c : Checked) → Stands p c past → (x : Coordinates) (v : ℤ) → AnsweredEarlier past c.text x v →
      Inside c.announced.extents x × (entry_at c.announced.extents after x ≡ Some (entry (Some v)))

-- ---- every step

-- after the calls of `past`, which led from `first` to `now`
pub record KeepsItsPromises (first : State) (past : List Call) (now : State) : Type 0 where
  pub shelf_lawful : Lawful now.shelf
  pub shelf_is_first_content_with_accepted_strips : FirstContentWithStrips first.shelf past now.shelf
  pub no_strip_is_accepted_twice : (c n : ℕ) (cs again : List ℤ) → strip_in c n past ≡ Some cs →
      (r : Result (Unit {0}) Refusal) (then : State) → Step now (strip c n again r) then → is_refused (strip c n again r) ≡ true
  pub plans_hold_what_was_last_accepted : (p : ℕ) → PlanHolds now p (last_check p past)
  pub each_run_keeps_its_promises : (p : ℕ) (before after : Areas) (r : Result Answered Refusal) (then : State) → Step now (run p before r after) then →
      RunKeepsItsPromises past now.shelf p before r after
  -- a refused call leaves shelf, plans and areas as they were
  pub refused_call_changes_nothing : (call : Call) (then : State) → Step now call then → is_refused call ≡ true → (then ≡ now) × AreasStay call

-- every life from here
abbrev pub EveryLifeFrom : State → Type 0
EveryLifeFrom first = (past : List Call) (now : State) → Life first past now → KeepsItsPromises first past now

-- the theorem: from every unit just switched on
abbrev pub EveryLifeKeepsItsPromises : Type 0
EveryLifeKeepsItsPromises = (first : State) → SwitchedOn first → EveryLifeFrom first

-- every life that led here has this very run right
abbrev pub EveryLifeUpTo : State → ℕ → Areas → Result Answered Refusal → Areas → Type 0
EveryLifeUpTo now p before r after = (first : State) → SwitchedOn first → (past : List Call) → Life first past now → RunKeepsItsPromises past now.shelf p before r after

-- the theorem as one run has it: whatever life led to it
abbrev pub EveryRunKeepsItsPromises : Type 0
EveryRunKeepsItsPromises = (now then : State) (p : ℕ) (before after : Areas) (r : Result Answered Refusal) → Step now (run p before r after) then → EveryLifeUpTo now p before r after
