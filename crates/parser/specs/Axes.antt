-- Axes in the text: how they are written, and which stand earlier in a square bracket.
use Rattle.std.specs.Prelude.{ℕ, Bool, true, false, cond, List, Some, None, codes, Option}
use Rattle.std.specs.Str.{bytes_eq}
use Rattle.coverage.specs.declared.axis.Axis.{Axis}
use Rattle.coverage.specs.declared.axis.Axis.TheVariants.{X, Y, T}
use Rattle.lexer.specs.Tokens.{Tok, word, variable, numeral, symbol, bad, end}
use Rattle.coverage.specs.declared.per_axis.PerAxis.{PerAxis}
use Rattle.coverage.specs.Entries.{entry}

-- the words `x`, `y` and `t`
abbrev pub axis_named : List ℕ → Option Axis
axis_named w =
    cond (bytes_eq w (codes "x")) (Some X)
    (cond (bytes_eq w (codes "y")) (Some Y)
    (cond (bytes_eq w (codes "t")) (Some T)
    None))

abbrev pub axis_of : Tok → Option Axis
axis_of (word w) = axis_named w
axis_of (variable w) = None
axis_of (numeral n) = None
axis_of (symbol s) = None
axis_of bad = None
axis_of end = None

-- the axes that stand earlier in a square bracket
abbrev pub Seen : Type 0
Seen = PerAxis Bool

abbrev pub none_seen : Seen
none_seen = record { x = false; y = false; t = false }

abbrev pub holds : Seen → Axis → Bool
holds = entry

abbrev pub marks : Seen → Axis → Seen
marks s X = record { x = true; y = s.y; t = s.t }
marks s Y = record { x = s.x; y = true; t = s.t }
marks s T = record { x = s.x; y = s.y; t = true }
