-- How the faults of a text are told: number and place, by the layer that reads texts.
use Rattle.std.specs.Prelude.{ℕ}
use Rattle.coverage.specs.declared.refusal.Refusal.{Refusal}
use Rattle.coverage.specs.declared.refusal.Layer.TheVariants.{Text}
use Rattle.coverage.specs.declared.refusal.Returned.TheVariants.{One}
use Rattle.parser.specs.declared.fault.TextFault.{TextFault}
use Rattle.parser.specs.declared.fault.TextFault.TheVariants.{TooLong, NoToken, NoQuery, TooLarge}

abbrev pub told : ℕ → ℕ → Refusal
told n p = record { layer = Text; number = n; returned = One p }

abbrev pub refusal_of : TextFault → Refusal
refusal_of TooLong = told 1 0
refusal_of (NoToken p) = told 2 p
refusal_of (NoQuery p) = told 3 p
refusal_of TooLarge = told 4 0
