-- Iterators as the code takes them up.
use Rattle.std.specs.Prelude.{◌≡◌, List, Ok, Err, Result}
use Rattle.coverage.specs.declared.refusal.Refusal.{Refusal}
use Rattle.coverage.specs.Axes.{Domain, Extents, extents}
use Rattle.syntax.specs.Tree.{Iterator}
use Rattle.language.specs.Iterators.{iterator_extents, own_axes}
use Rattle.checking.specs.declared.fault.CheckFault.{CheckFault}
use Rattle.checking.specs.declared.reach.Reach.{Reach}
use Rattle.checking.specs.Told.{refusal_of}

-- these iterators reach so far
pub record Goes (is : List Iterator) (r : Reach) : Type 0 where
  pub through : extents r.domain ≡ iterator_extents is
  pub own_axes_holds : r.own ≡ own_axes is

-- the answer of the iterators' rule, as the language speaks of it
abbrev pub told_domain : Result Domain CheckFault → Result Extents Refusal
told_domain (Ok d) = Ok (extents d)
told_domain (Err f) = Err (refusal_of f)
