-- Tests in turn: the first that fails refuses.
use Rattle.std.proofs.Common.{◌≡◌, ℕ, Bool, true, Option, refl}
use mathlib.Core.Path.{fun_ext}
use Rattle.coverage.specs.declared.refusal.Refusal.{Refusal}
use Rattle.coverage.specs.declared.axis.Axis.TheVariants.{X, Y, T}
use Rattle.coverage.specs.Axes.{Extents, extents, no_extents}
use Rattle.coverage.specs.declared.kind.Kind.{Kind}
use Rattle.language.specs.Faults.{unless, first, limits_fault}
use Rattle.checking.specs.declared.domains.TheConstants.{NO_AXES}
use Rattle.checking.specs.Rules.{accepts, announce}

-- a test that holds leaves the rest to be tested
pub passed : {V : Type 0} (b : Bool) (n place : ℕ) (rest : Option Refusal) (v : V) → b ≡ true → accepts rest v ≡ accepts (first (unless b n place) rest) v
passed b n place rest v h = rw h refl

-- a domain without axes is that of a single value
pub no_extents_lem : extents NO_AXES ≡ no_extents
no_extents_lem = fun_ext (elim [ X ↦ refl | Y ↦ refl | T ↦ refl ])

-- the limits of what has been worked out are those of what it is
pub limited_as : (place : ℕ) (d d' : Extents) (k k' : Kind) (n n' : ℕ) → d ≡ d' → k ≡ k' → n ≡ n' →
    accepts (limits_fault k n place) (announce d k n) ≡ accepts (limits_fault k' n' place) (announce d' k' n')
limited_as place d d' k k' n n' p q r = rw (p, q, r) refl
