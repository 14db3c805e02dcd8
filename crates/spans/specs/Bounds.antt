-- Spans within the bounds.
use Rattle.coverage.specs.declared.range.Range.{Range}
use Rattle.coverage.specs.declared.kind.Kind.TheVariants.{Number}
use Rattle.language.specs.Limits.{InBounds}

-- a span within the widest, its lowest not above its highest
abbrev pub Bounded : Range → Type 0
Bounded r = InBounds (Number r)
