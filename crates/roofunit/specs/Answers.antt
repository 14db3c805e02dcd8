-- What a line does to a shelf, and what it is answered.
use Rattle.std.specs.Prelude.{◌≡◌, ℕ, ◌⊎◌, List, None, Ok, Err, codes, Result}
use Rattle.std.specs.declared.alloc.AllocError.{AllocError}
use Rattle.coverage.specs.Axes.{coordinates}
use Rattle.shelf.specs.Meaning.{Coverage, describe_answer, look_answer, strip_answer, strip_after}
use Rattle.lines.specs.declared.command.Command.{Command}
use Rattle.lines.specs.declared.command.Command.TheVariants.{Grid, Strip, Look, Show, Check, Run, Help}
use Rattle.lines.specs.Numerals.{cells_of}
use Rattle.lines.specs.Grammar.{StopsAt}
use Rattle.written.specs.Format.{not_a_form}
use Rattle.lines.specs.Says.{Says}
use Rattle.roofunit.specs.declared.reply.Reply.{Reply}
use Rattle.roofunit.specs.Replies.{Plain, StripTold, LookTold, ShowTold}

-- what a shelf means after a command: a strip is put, all else leaves it
abbrev pub after_command : List Coverage → Command → List Coverage
after_command m (Grid name d k) = m
after_command m (Strip c n text) = strip_after m c n (cells_of text.now)
after_command m (Look c p) = m
after_command m (Show c) = m
after_command m (Check p text) = m
after_command m (Run p) = m
after_command m Help = m

-- what a command is told: forms that do nothing to a shelf get a fixed text
abbrev pub Told : List Coverage → Command → Reply → Type 0
Told m (Grid name d k) p = Plain (codes "(not now: only the first grid line makes a grid)") p
Told m (Strip c n text) p = StripTold c n (strip_answer m c n (cells_of text.now)) p
Told m (Look c at) p = LookTold (look_answer m c (coordinates at)) p
Told m (Show c) p = ShowTold (describe_answer m c) p
Told m (Check q text) p = Plain (codes "(not there yet: check)") p
Told m (Run q) p = Plain (codes "(not there yet: run)") p
Told m Help p = p.refused ≡ None

-- a command is served: where memory for the reply fails, it was done or not done
abbrev pub Served : List Coverage → Command → List Coverage → Result Reply AllocError → Type 0
Served m c m' (Ok p) = (m' ≡ after_command m c) × Told m c p
Served m c m' (Err e) = (m' ≡ m) ⊎ (m' ≡ after_command m c)

-- a line that is no form is told where it stops being one, and leaves the shelf
abbrev pub Stopped : List Coverage → List ℕ → List Coverage → Result Reply AllocError → Type 0
Stopped m line m' (Ok r) = (p : ℕ) × StopsAt line p × (m' ≡ m) × Plain (not_a_form p) r
Stopped m line m' (Err e) = m' ≡ m

-- a line is answered as the command that it says, or as no form
abbrev pub Answered : List Coverage → List ℕ → List Coverage → Result Reply AllocError → Type 0
Answered m line m' r = ((c : Command) × Says line c × Served m c m' r) ⊎ Stopped m line m' r

-- some commands, one after the other, lead from one meaning to another
pub data Led (m : List Coverage) : List Coverage → Type 0 where
  at_first : Led m m
  then_by : {n k : List Coverage} → Led m n → (c : Command) → k ≡ after_command n c → Led m k
