-- The rule of each construct: from what is worked out of its operands, its own domain, kind and promise, or its refusal.
use Rattle.std.specs.Prelude.{ℕ, ◌+◌, ◌*◌, Bool, pos, Some, None, Ok, Err, Option, Result, nat_le}
use Rattle.coverage.specs.declared.axis.Axis.{Axis}
use Rattle.coverage.specs.declared.range.Range.{Range}
use Rattle.coverage.specs.declared.kind.Kind.{Kind}
use Rattle.coverage.specs.declared.kind.Kind.TheVariants.{Truth}
use Rattle.coverage.specs.declared.refusal.Refusal.{Refusal}
use Rattle.coverage.specs.Axes.{Extents, no_extents, set_axis, cells}
use Rattle.syntax.specs.declared.Unary.{Unary}
use Rattle.syntax.specs.declared.Binary.{Binary}
use Rattle.syntax.specs.declared.Fold.{Fold}
use Rattle.syntax.specs.declared.Reduce.{Reduce}
use Rattle.language.specs.Spans.{number, unary_kind, binary_kind, fold_kind, widened, reduce_kind}
use Rattle.language.specs.Typing.{About, named_extents, named_kind, iterator_kind, joint_extents}
use Rattle.language.specs.Faults.{most_reads, unless, name_fault, iterator_fault, unary_fault, binary_fault, reduce_fault, trim_fault, slice_fault, condense_fault, condense_where_fault, form_fault}
use Rattle.language.specs.Queries.{Announced}

-- a domain, a kind and a promise
abbrev pub announce : Extents → Kind → ℕ → Announced
announce d k n = record { extents = d; kind = k; promise = n }

-- a value, unless there is a refusal
abbrev pub accepts : {V : Type 0} → Option Refusal → V → Result V Refusal
accepts None v = Ok v
accepts (Some r) v = Err r

-- a numeral spans its value
abbrev pub numeral_rule : ℕ → Result Announced Refusal
numeral_rule n = Ok (announce no_extents (number (pos n) (pos n)) 0)

-- a truth word
abbrev pub truth_rule : Result Announced Refusal
truth_rule = Ok (announce no_extents Truth 0)

-- a `$` name is its coverage, and takes one look
abbrev pub name_rule : Option About → ℕ → Result Announced Refusal
name_rule a place = accepts (name_fault a place) (announce (named_extents a) (named_kind a) 1)

-- an iterator is a number of the span that it goes through
abbrev pub iterator_rule : Option Range → ℕ → Result Announced Refusal
iterator_rule r place = accepts (iterator_fault r place) (announce no_extents (iterator_kind r) 0)

-- a prefix, or `abs`
abbrev pub unary_rule : Unary → Announced → ℕ → Result Announced Refusal
unary_rule o p place = accepts (unary_fault o p.kind p.promise place) (announce p.extents (unary_kind o p.kind) p.promise)

-- two operands: both are read
abbrev pub binary_rule : Binary → Announced → Announced → ℕ → Result Announced Refusal
binary_rule o p q place =
    accepts (binary_fault o p.extents p.kind q.extents q.kind (p.promise + q.promise) place)
    (announce (joint_extents p.extents q.extents) (binary_kind o p.kind q.kind) (p.promise + q.promise))

-- a function over all cells of its operand
abbrev pub reduce_rule : Reduce → Announced → ℕ → Result Announced Refusal
reduce_rule r p place =
    accepts (reduce_fault r (cells p.extents) p.kind (cells p.extents * p.promise) place)
    (announce no_extents (reduce_kind r (cells p.extents) p.kind) (cells p.extents * p.promise))

-- a trim shortens its axis
abbrev pub trim_rule : Bool → Axis → Range → Announced → ℕ → Result Announced Refusal
trim_rule twice a r p place = accepts (trim_fault twice (p.extents a) r place) (announce (set_axis p.extents a (Some r)) p.kind p.promise)

-- a slice takes its axis away; the position is read too
abbrev pub slice_rule : Bool → Axis → Announced → Announced → ℕ → Result Announced Refusal
slice_rule twice a p q place =
    accepts (slice_fault twice (p.extents a) q.extents q.kind (p.promise + q.promise) place)
    (announce (set_axis p.extents a None) p.kind (p.promise + q.promise))

-- condense over n points
abbrev pub condense_rule : Fold → ℕ → Announced → ℕ → Result Announced Refusal
condense_rule o n p place =
    accepts (condense_fault o n p.extents p.kind (n * p.promise) place)
    (announce no_extents (fold_kind o n p.kind) (n * p.promise))

-- condense over those of n points where the first part holds
abbrev pub condense_where_rule : Fold → ℕ → Announced → Announced → ℕ → Result Announced Refusal
condense_where_rule o n w p place =
    accepts (condense_where_fault o n w.extents w.kind p.extents p.kind (n * (w.promise + p.promise)) place)
    (announce no_extents (widened o (fold_kind o n p.kind)) (n * (w.promise + p.promise)))

-- condense, without a `where` or with one
abbrev pub either_condense_rule : Fold → ℕ → Option Announced → Announced → ℕ → Result Announced Refusal
either_condense_rule o n None p place = condense_rule o n p place
either_condense_rule o n (Some w) p place = condense_where_rule o n w p place

-- a coverage form has its iterators' domain
abbrev pub form_rule : Extents → Announced → ℕ → Result Announced Refusal
form_rule d p place = accepts (form_fault p.extents place) (announce d p.kind p.promise)

-- a whole query promises its cells times the promise for a cell; 11 is told at place 0
abbrev pub query_rule : Announced → Result Announced Refusal
query_rule p =
    accepts (unless (nat_le (cells p.extents * p.promise) most_reads) 11 0)
    (announce p.extents p.kind (cells p.extents * p.promise))
