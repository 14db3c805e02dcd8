-- A unit in any state answers every call, and in one way.
use Rattle.std.specs.Prelude.{◌≡◌, ℕ, List, ℤ, Option, Result}
use Rattle.coverage.specs.declared.refusal.Refusal.{Refusal}
use Rattle.coverage.specs.Axes.{Coordinates}
use Rattle.language.specs.Queries.{Announced}
use Rattle.lives.specs.Unit.{State}
use Rattle.lives.specs.Calls.{Areas, Answered, strip, look, check, run, Step}

-- two answers to a call are the same, and so are the states after it
abbrev pub SameEnd : {A : Type 0} → A → State → A → State → Type 0
SameEnd r u s v = (r ≡ s) × (u ≡ v)

pub record EveryCallHasOneAnswer : Type 0 where
  -- whatever the state and the arguments
  pub strip_is_answered : (s : State) (c n : ℕ) (cs : List ℤ) → (r : Result (Unit {0}) Refusal) × (u : State) × Step s (strip c n cs r) u
  pub look_is_answered : (s : State) (c : ℕ) (x : Coordinates) → (r : Result (Option ℤ) Refusal) × (u : State) × Step s (look c x r) u
  pub check_is_answered : (s : State) (p : ℕ) (text : List ℕ) → (r : Result Announced Refusal) × (u : State) × Step s (check p text r) u
  pub run_is_answered : (s : State) (p : ℕ) (before : Areas) → (r : Result Answered Refusal) × (after : Areas) × (u : State) × Step s (run p before r after) u
  -- in one way; of the work area after an accepted run only the length is told
  pub strip_in_one_way : (s u v : State) (c n : ℕ) (cs : List ℤ) (r q : Result (Unit {0}) Refusal) → Step s (strip c n cs r) u → Step s (strip c n cs q) v → SameEnd r u q v
  pub look_in_one_way : (s u v : State) (c : ℕ) (x : Coordinates) (r q : Result (Option ℤ) Refusal) → Step s (look c x r) u → Step s (look c x q) v → SameEnd r u q v
  pub check_in_one_way : (s u v : State) (p : ℕ) (text : List ℕ) (r q : Result Announced Refusal) → Step s (check p text r) u → Step s (check p text q) v → SameEnd r u q v
  pub run_in_one_way : (s u v : State) (p : ℕ) (before after other : Areas) (r q : Result Answered Refusal) → Step s (run p before r after) u → Step s (run p before q other) v →
      SameEnd r u q v × (after.answer ≡ other.answer)
