-- The four calls of a unit, each with its answer: what is answered, and what the unit is afterwards.
use Rattle.std.specs.Prelude.{◌≡◌, ℕ, cond, List, ◌++◌, map, length, drop, ℤ, Some, None, Ok, Err, Option, Result, ◌==◌, nat_lt}
use Rattle.coverage.specs.declared.refusal.Refusal.{Refusal}
use Rattle.coverage.specs.declared.refusal.Layer.TheVariants as layer
use Rattle.coverage.specs.Axes.{Coordinates}
use Rattle.shelf.specs.Meaning.{Coverage, strip_answer, strip_after, look_answer}
use Rattle.shelf.specs.Faults.{shelf_refusal}
use Rattle.syntax.specs.Tree.{Query}
use Rattle.parser.specs.declared.fault.TextFault.{TextFault}
use Rattle.parser.specs.Faults.{refusal_of}
use Rattle.language.specs.Queries.{Announced, checked, answer, reads}
use Rattle.lives.specs.declared.cell.Cell.{Cell}
use Rattle.lives.specs.Entries.{entry}
use Rattle.parser.specs.Says.{text_says}
use Rattle.lives.specs.Shelves.{describes, looks}
use Rattle.lives.specs.Unit.{Standing, State, is_plan, standing, cells_of, no_plan, too_short}

-- ---- calls with their answers

-- the two areas that a run is lent: work entries are numbers of any meaning
pub record Areas : Type 0 where
  pub work : List ℤ
  pub answer : List Cell

-- what an accepted run answers: how many cells it wrote, and how many looks at cells it took
pub record Answered : Type 0 where
  pub cells : ℕ
  pub reads : ℕ

-- a call with all its arguments and its answer; a refusal is told by layer, number and returned values
pub data Call : Type 0 where
  -- the coverage, the number of the strip, its cells
  strip : ℕ → ℕ → List ℤ → Result (Unit {0}) Refusal → Call
  -- the coverage and the point
  look : ℕ → Coordinates → Result (Option ℤ) Refusal → Call
  -- the plan and the text
  check : ℕ → List ℕ → Result Announced Refusal → Call
  -- the plan, the areas before, and last the areas after
  run : ℕ → Areas → Result Answered Refusal → Areas → Call

-- an answer with its fault told as a refusal
abbrev pub retold : {V F : Type 0} → (F → Refusal) → Result V F → Result V Refusal
retold told (Ok v) = Ok v
retold told (Err f) = Err (told f)

-- ---- strip and look: by the meaning of the shelf alone

abbrev pub strip_says : List Coverage → ℕ → ℕ → List ℤ → Result (Unit {0}) Refusal
strip_says m c n cs = retold shelf_refusal (strip_answer m c n cs)

abbrev pub after_strip : State → ℕ → ℕ → List ℤ → State
after_strip s c n cs = record { shelf = strip_after s.shelf c n cs; plans = s.plans }

abbrev pub look_says : List Coverage → ℕ → Coordinates → Result (Option ℤ) Refusal
look_says m c p = retold shelf_refusal (look_answer m c p)

-- ---- check: 12, then what the text says, then what its query is announced as

abbrev pub announces : List Coverage → Result Query TextFault → Result Announced Refusal
announces m (Err f) = Err (refusal_of f)
announces m (Ok q) = checked (describes m) q

abbrev pub check_says : List Coverage → ℕ → List ℕ → Result Announced Refusal
check_says m p text = cond (is_plan p) (announces m (text_says text)) (Err (no_plan layer.Check p))

-- one plan filled, the others as they were
abbrev pub filled : (ℕ → Option Standing) → ℕ → Standing → ℕ → Option Standing
filled plans p q other = cond (p == other) (Some q) (plans other)

-- an accepted check puts the query into its plan; a refused one changes nothing
abbrev pub after_check : State → ℕ → Result Query TextFault → Result Announced Refusal → State
after_check s p (Ok q) (Ok a) = record { shelf = s.shelf; plans = filled s.plans p (record { query = q; announced = a }) }
after_check s p (Ok q) (Err r) = s
after_check s p (Err f) r = s

-- ---- run: 12, then 13 for the work area, then 13 for the answer area, then the answer

-- a work area has so many entries at least
abbrev pub work_needed : ℕ
work_needed = 256

abbrev pub answered : List Coverage → Standing → Answered
answered m q = record { cells = cells_of q; reads = reads (describes m) (looks m) q.query }

abbrev pub run_says : List Coverage → ℕ → Option Standing → Areas → Result Answered Refusal
run_says m p None areas = Err (no_plan layer.Run p)
run_says m p (Some q) areas =
    cond (nat_lt (length areas.work) work_needed) (Err (too_short work_needed)) (
    cond (nat_lt (length areas.answer) (cells_of q)) (Err (too_short (cells_of q))) (
    Ok (answered m q)))

-- the cells of the answer stand first, and later entries stay; of the work area only the length is told
pub record Written (m : List Coverage) (q : Standing) (before after : Areas) : Type 0 where
  pub cells_then_rest : after.answer ≡ map entry (answer (describes m) (looks m) q.query) ++ drop (cells_of q) before.answer
  pub work_as_long : length after.work ≡ length before.work

-- a refused run leaves both areas as they were
abbrev pub AreasAfter : List Coverage → Option Standing → Areas → Result Answered Refusal → Areas → Type 0
AreasAfter m None before r after = after ≡ before
AreasAfter m (Some q) before (Err f) after = after ≡ before
AreasAfter m (Some q) before (Ok n) after = Written m q before after

-- ---- one step: the state before, a call with its answer, the state after

abbrev pub Step : State → Call → State → Type 0
Step s (strip c n cs r) u = (r ≡ strip_says s.shelf c n cs) × (u ≡ after_strip s c n cs)
Step s (look c p r) u = (r ≡ look_says s.shelf c p) × (u ≡ s)
Step s (check p text r) u = (r ≡ check_says s.shelf p text) × (u ≡ after_check s p (text_says text) r)
Step s (run p before r after) u = (r ≡ run_says s.shelf p (standing s p) before) × AreasAfter s.shelf (standing s p) before r after × (u ≡ s)
