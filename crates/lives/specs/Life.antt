-- Lives of a unit: its calls, and what can be read off them.
use Rattle.std.specs.Prelude.{◌≡◌, ℕ, Bool, true, false, cond, ◌&&◌, List, [], ◌∷◌, ℤ, Some, None, Ok, Err, Option, Result, ◌==◌}
use Rattle.language.specs.Queries.{Announced}
use Rattle.lives.specs.Unit.{State}
use Rattle.lives.specs.Calls.{Call, strip, look, check, run, Step}

-- a life: from a first state, these calls, the newest first, lead to a last state
pub data Life (first : State) : List Call → State → Type 0 where
  begins : Life first [] first
  goes_on : {past : List Call} {before : State} {after : State} (call : Call) → Life first past before → Step before call after → Life first (call ∷ past) after

-- some life led from one state to another
abbrev pub Led : State → State → Type 0
Led first now = (past : List Call) × Life first past now

-- a text that was checked, and what was announced for it
pub record Checked : Type 0 where
  pub text : List ℕ
  pub announced : Announced

-- the last accepted check into a plan
abbrev pub last_check : ℕ → List Call → Option Checked
last_check p [] = None
last_check p (strip c n cs r ∷ past) = last_check p past
last_check p (look c x r ∷ past) = last_check p past
last_check p (check q text (Ok a) ∷ past) = cond (q == p) (Some (record { text = text; announced = a })) (last_check p past)
last_check p (check q text (Err f) ∷ past) = last_check p past
last_check p (run q before r after ∷ past) = last_check p past

-- the text that stands in a plan after these calls, with what was announced
abbrev pub Stands : ℕ → Checked → List Call → Type 0
Stands p c past = last_check p past ≡ Some c

-- the cells of the strip with a number of a coverage, where such a strip was accepted
abbrev pub strip_in : ℕ → ℕ → List Call → Option (List ℤ)
strip_in c n [] = None
strip_in c n (strip d k cs (Ok u) ∷ past) = cond (d == c && k == n) (Some cs) (strip_in c n past)
strip_in c n (strip d k cs (Err f) ∷ past) = strip_in c n past
strip_in c n (look d x r ∷ past) = strip_in c n past
strip_in c n (check p text r ∷ past) = strip_in c n past
strip_in c n (run p before r after ∷ past) = strip_in c n past

-- a call that was refused
abbrev pub refused_result : {V F : Type 0} → Result V F → Bool
refused_result (Ok v) = false
refused_result (Err f) = true

abbrev pub is_refused : Call → Bool
is_refused (strip c n cs r) = refused_result r
is_refused (look c x r) = refused_result r
is_refused (check p text r) = refused_result r
is_refused (run p before r after) = refused_result r

-- the areas of a call, where it has any, are after it as they were before it
abbrev pub AreasStay : Call → Type 0
AreasStay (strip c n cs r) = Unit {0}
AreasStay (look c x r) = Unit {0}
AreasStay (check p text r) = Unit {0}
AreasStay (run p before r after) = after ≡ before
