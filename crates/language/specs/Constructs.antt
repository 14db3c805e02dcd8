-- Every construct by small cases, over the roof of Worked with both strips: 10 20 30 and 40 50 60.
-- Places are left out where nothing is refused.
use Rattle.std.specs.Prelude.{◌≡◌, ℕ, Bool, true, false, List, [], ◌∷◌, ℤ, pos, negsuc, Some, None, codes, Option}
use Rattle.coverage.specs.declared.axis.Axis.{Axis}
use Rattle.coverage.specs.declared.axis.Axis.TheVariants.{X, Y, T}
use Rattle.coverage.specs.Axes.{no_extents, set_axis}
use Rattle.syntax.specs.declared.Unary.TheVariants.{Minus, Not, Abs}
use Rattle.syntax.specs.declared.Arithmetic.TheVariants.{Subtract, Multiply, Divide}
use Rattle.syntax.specs.declared.Comparison.TheVariants.{Equal, Unequal, Less, AtMost, Greater, AtLeast}
use Rattle.syntax.specs.declared.Logic.TheVariants.{And, Or, Xor}
use Rattle.syntax.specs.declared.Binary.{Binary}
use Rattle.syntax.specs.declared.Binary.TheVariants.{Numbers, Overlay, Compares, Truths}
use Rattle.syntax.specs.declared.Fold.TheVariants.{Sum, Least, Greatest, Every, Any}
use Rattle.syntax.specs.declared.Reduce.TheVariants.{Whole, Count}
use Rattle.syntax.specs.Tree.{Iterator, Expr, at, numeral, truth, name, iterator, unary, binary, reduce, trim, slice, condense, condense_where, form}
use Rattle.language.specs.Spans.{span}
use Rattle.language.specs.Queries.{checked, answer, reads}
use Rattle.language.specs.Worked.{roof_extents, roof, both, strip1, c, query, accepts, refuses}

-- six known cells
abbrev pub cells6 : ℤ → ℤ → ℤ → ℤ → ℤ → ℤ → List (Option ℤ)
cells6 u v w x y z = Some u ∷ Some v ∷ Some w ∷ Some x ∷ Some y ∷ Some z ∷ []

-- the answer of an expression, its cells all there
abbrev pub gives : Expr → List (Option ℤ) → Type 0
gives e list = answer roof both (query e) ≡ list

-- the same of an answer of one known cell
abbrev pub gives_one : Expr → ℤ → Type 0
gives_one e v = answer roof both (query e) ≡ Some v ∷ []

-- a numeral
abbrev pub n : ℕ → Expr
n k = numeral k

-- of two numerals, or of two truth words
abbrev pub of_numbers : Binary → ℕ → ℕ → Expr
of_numbers o x y = binary o (n x) (n y)

-- of two truth words
abbrev pub of_truths : Binary → Bool → Bool → Expr
of_truths o x y = binary o (truth x) (truth y)

-- `$c - k`
abbrev pub less : ℕ → Expr
less k = binary (Numbers Subtract) (name c) (n k)

-- `$c > k`
abbrev pub above : ℕ → Expr
above k = binary (Compares Greater) (name c) (n k)

-- `i` over an axis (l:h)
abbrev pub over : Axis → ℕ → ℕ → Iterator
over a l h = record { word = codes "i"; axis = a; range = span (pos l) (pos h) }

-- `coverage k over a y (0:1), b x (0:2) values $c[x(2-b),y(a)]`
abbrev pub mirrored : Expr
mirrored =
    form (record { word = codes "a"; axis = Y; range = span (pos 0) (pos 1) } ∷ record { word = codes "b"; axis = X; range = span (pos 0) (pos 2) } ∷ [])
    (slice false Y (slice false X (name c) (binary (Numbers Subtract) (n 2) (iterator (codes "b")))) (iterator (codes "a")))

-- `j x (1:k)`
abbrev pub another : ℕ → List Iterator
another k = record { word = codes "j"; axis = X; range = span (pos 1) (pos k) } ∷ []

-- `$c[x(0),y(0)]`
abbrev pub corner : Expr
corner = slice false Y (slice false X (name c) (n 0)) (n 0)

-- `$c[x(0),y($c[x(0),y(0)] / 100)]`: the position is 10 / 100, so 0; without strip 0 it is null
abbrev pub by_position : Expr
by_position = slice false Y (slice false X (name c) (n 0)) (binary (Numbers Divide) corner (n 100))

-- what comes of them
pub record ConstructsByExample : Type 0 where
  -- operators
  pub minus : gives (unary Minus (name c)) (cells6 (negsuc 9) (negsuc 19) (negsuc 29) (negsuc 39) (negsuc 49) (negsuc 59))
  pub minus_span : checked roof (query (unary Minus (name c))) ≡ accepts roof_extents (negsuc 99) (pos 0) 6
  pub magnitude : gives (unary Abs (less 40)) (cells6 (pos 30) (pos 20) (pos 10) (pos 0) (pos 10) (pos 20))
  pub magnitude_span : checked roof (query (unary Abs (less 40))) ≡ accepts roof_extents (pos 0) (pos 60) 6
  pub magnitude_apart : checked roof (query (unary Abs (less 140))) ≡ accepts roof_extents (pos 40) (pos 140) 6
  pub overlay_zero : gives (binary Overlay (less 10) (n 7)) (cells6 (pos 7) (pos 10) (pos 20) (pos 30) (pos 40) (pos 50))
  pub overlay_reads : reads roof both (query (binary Overlay (less 10) (n 7))) ≡ 6
  pub overlay_span : checked roof (query (binary Overlay (less 10) (n 95))) ≡ accepts roof_extents (negsuc 9) (pos 95) 6
  pub difference : gives_one (of_numbers (Numbers Subtract) 3 5) (negsuc 1)
  pub quotient_span : checked roof (query (binary (Numbers Divide) (less 50) (n 7))) ≡ accepts roof_extents (negsuc 6) (pos 7) 6
  pub equal : gives_one (of_numbers (Compares Equal) 2 2) (pos 1)
  pub unequal : gives_one (of_numbers (Compares Unequal) 2 2) (pos 0)
  pub less_than : gives_one (of_numbers (Compares Less) 2 2) (pos 0)
  pub at_most : gives_one (of_numbers (Compares AtMost) 2 2) (pos 1)
  pub greater : gives_one (of_numbers (Compares Greater) 3 2) (pos 1)
  pub at_least : gives_one (of_numbers (Compares AtLeast) 2 3) (pos 0)
  pub conjunction : gives_one (of_truths (Truths And) true false) (pos 0)
  pub disjunction : gives_one (of_truths (Truths Or) true false) (pos 1)
  pub exclusive : gives_one (of_truths (Truths Xor) true true) (pos 0)
  pub negation : gives_one (unary Not (truth false)) (pos 1)
  -- functions
  pub least : gives_one (reduce (Whole Least) (name c)) (pos 10)
  pub greatest : gives_one (reduce (Whole Greatest) (name c)) (pos 60)
  pub counted : gives_one (reduce Count (above 30)) (pos 3)
  pub counted_reads : reads roof both (query (reduce Count (above 30))) ≡ 6
  pub counted_span : checked roof (query (reduce Count (above 30))) ≡ accepts no_extents (pos 0) (pos 6) 6
  pub some_above : gives_one (reduce (Whole Any) (above 60)) (pos 0)
  pub all_above : gives_one (reduce (Whole Every) (above 0)) (pos 1)
  pub all_null : answer roof strip1 (query (reduce (Whole Any) (above 0))) ≡ None ∷ []
  pub add_of_one : gives_one (reduce (Whole Sum) (n 5)) (pos 5)
  -- subsets and forms; cells stand x innermost
  pub trimmed : gives (trim false X (span (pos 1) (pos 2)) (name c)) (Some (pos 20) ∷ Some (pos 30) ∷ Some (pos 50) ∷ Some (pos 60) ∷ [])
  pub trim_outside : checked roof (query (trim false X (span (pos 1) (pos 3)) (name c))) ≡ refuses 6 0
  pub axis_twice : checked roof (query (slice true X (trim false X (span (pos 0) (pos 1)) (name c)) (n 0))) ≡ refuses 6 0
  pub axis_missing : checked roof (query (slice false T (name c) (n 0))) ≡ refuses 6 0
  pub form_cells : gives mirrored (cells6 (pos 30) (pos 20) (pos 10) (pos 60) (pos 50) (pos 40))
  pub form_reads : reads roof both (query mirrored) ≡ 6
  pub form_far_out : checked roof (query (form (over T 2000000 2000002 ∷ []) (iterator (codes "i")))) ≡ accepts (set_axis no_extents T (Some (span (pos 2000000) (pos 2000002)))) (pos 2000000) (pos 2000002) 0
  -- a position outside is 6 even where it has axes too; a truth has no span, so it is 7 unless the axis is missing
  pub position_with_axes : checked roof (query (slice false X (name c) (name c))) ≡ refuses 6 0
  pub position_of_truth : checked roof (query (slice false X (name c) (truth true))) ≡ refuses 7 0
  pub position_of_truth_axis_missing : checked roof (query (slice false T (name c) (truth true))) ≡ refuses 6 0
  -- a null position gives null, and its operand is unread
  pub position_known : gives_one by_position (pos 10)
  pub position_known_reads : reads roof both (query by_position) ≡ 2
  pub position_null : answer roof strip1 (query by_position) ≡ None ∷ []
  pub position_null_reads : reads roof strip1 (query by_position) ≡ 1
  -- nothing picked
  pub sum_of_none : gives_one (condense_where Sum (over X 0 2 ∷ []) (truth false) (n 5)) (pos 0)
  pub sum_of_none_span : checked roof (query (condense_where Sum (over X 0 2 ∷ []) (truth false) (n 5))) ≡ accepts no_extents (pos 0) (pos 15) 0
  pub every_of_none : gives_one (condense_where Every (over X 0 2 ∷ []) (truth false) (truth false)) (pos 1)
  pub any_of_none : gives_one (condense_where Any (over X 0 2 ∷ []) (truth false) (truth true)) (pos 0)
  pub least_of_none : answer roof both (query (condense_where Least (over X 0 2 ∷ []) (truth false) (n 5))) ≡ None ∷ []
  -- iterators: 5 before 6 before 10, and all before the body
  pub word_twice : checked roof (query (condense Sum (over X 1 0 ∷ over Y 0 0 ∷ []) (iterator (codes "z")))) ≡ refuses 5 0
  pub ends_out_of_order : checked roof (query (condense Sum (over X 1 0 ∷ []) (iterator (codes "z")))) ≡ refuses 6 0
  pub too_many_points : checked roof (query (condense Sum (over X 0 65536 ∷ []) (iterator (codes "z")))) ≡ refuses 10 0
  pub unbound_in_body : checked roof (query (condense Sum (over X 0 65535 ∷ []) (iterator (codes "z")))) ≡ refuses 5 0
  pub body_with_axes : checked roof (query (condense Sum (over X 0 1 ∷ []) (name c))) ≡ refuses 7 0
  pub word_in_use_around : checked roof (query (condense Sum (over X 0 1 ∷ []) (condense Sum (over Y 0 1 ∷ []) (n 1)))) ≡ refuses 5 0
  -- bodies before their form: 5 of the body before 7 of the `where`
  pub where_no_truth : checked roof (query (condense_where Sum (over X 0 1 ∷ []) (n 1) (n 1))) ≡ refuses 7 0
  pub body_before_where_kind : checked roof (query (condense_where Sum (over X 0 1 ∷ []) (n 1) (iterator (codes "z")))) ≡ refuses 5 0
  -- kinds before the divisor, and the divisor before the span
  pub kinds_before_divisor : checked roof (query (binary (Numbers Divide) (truth true) (name c))) ≡ refuses 7 0
  pub divisor_before_span : checked roof (query (binary (Numbers Divide) (n 1) (binary (Numbers Multiply) (name c) (n 0)))) ≡ refuses 8 0
  -- the promise for a cell, and last the query's, at place 0
  pub promise_too_high : checked roof (query (at 40 (condense Sum (over X 0 65535 ∷ []) (at 50 (condense Sum (another 245) corner))))) ≡ refuses 11 40
  pub promise_just_in : checked roof (query (at 40 (condense Sum (over X 0 65535 ∷ []) (at 50 (condense Sum (another 244) corner))))) ≡ accepts no_extents (pos 0) (pos 1599078400) 15990784
  pub query_promise_too_high : checked roof (query (at 40 (form (over X 0 65535 ∷ []) (at 50 (condense Sum (another 245) corner))))) ≡ refuses 11 0
