-- The worked cases, by computing.
use Rattle.std.proofs.Common.{refl}
use Rattle.coverage.specs.Axes.{point_at}
use Rattle.language.specs.Operators.{quotient}
use Rattle.language.specs.Spans.{corners}
use Rattle.language.specs.Faults.{limits_fault, name_fault, iterator_fault, unary_fault, binary_fault, reduce_fault, trim_fault, slice_fault, iterators_fault, condense_fault, condense_where_fault, form_fault}
use Rattle.language.specs.Queries.{binding_fault, query_fault}
use Rattle.language.specs.Worked.{WorkedCases}
use Rattle.language.specs.Constructs.{ConstructsByExample}

pub worked_cases : WorkedCases
unfolding point_at quotient corners limits_fault name_fault iterator_fault unary_fault binary_fault reduce_fault trim_fault slice_fault iterators_fault condense_fault condense_where_fault form_fault binding_fault query_fault
worked_cases = record { plus_one_holds = refl; plus_one_cells = refl; plus_one_reads = refl; add_all_holds = refl; add_all_null = refl; add_all_known = refl; add_all_reads = refl; minus_seven_halves_holds = refl; one_over_holds = refl; equals_true_holds = refl; column_2 = refl; column_3 = refl; next_in_row_holds = refl; next_in_row_sum = refl; next_in_row_reads = refl; next_outside = refl; highest_null = refl; highest_reads = refl; highest_promise = refl; product_inside = refl; product_beyond = refl; one_plus_one_holds = refl; one_plus_one_reads = refl; bound_twice_holds = refl; unknown_coverage_holds = refl }

pub constructs_by_example : ConstructsByExample
unfolding point_at quotient corners limits_fault name_fault iterator_fault unary_fault binary_fault reduce_fault trim_fault slice_fault iterators_fault condense_fault condense_where_fault form_fault binding_fault query_fault
constructs_by_example = record { minus = refl; minus_span = refl; magnitude = refl; magnitude_span = refl; magnitude_apart = refl; overlay_zero = refl; overlay_reads = refl; overlay_span = refl; difference = refl; quotient_span = refl; equal = refl; unequal = refl; less_than = refl; at_most = refl; greater = refl; at_least = refl; conjunction = refl; disjunction = refl; exclusive = refl; negation = refl; least = refl; greatest = refl; counted = refl; counted_reads = refl; counted_span = refl; some_above = refl; all_above = refl; all_null = refl; add_of_one = refl; trimmed = refl; trim_outside = refl; axis_twice = refl; axis_missing = refl; form_cells = refl; form_reads = refl; form_far_out = refl; position_with_axes = refl; position_of_truth = refl; position_of_truth_axis_missing = refl; position_known = refl; position_known_reads = refl; position_null = refl; position_null_reads = refl; sum_of_none = refl; sum_of_none_span = refl; every_of_none = refl; any_of_none = refl; least_of_none = refl; word_twice = refl; ends_out_of_order = refl; too_many_points = refl; unbound_in_body = refl; body_with_axes = refl; word_in_use_around = refl; where_no_truth = refl; body_before_where_kind = refl; kinds_before_divisor = refl; divisor_before_span = refl; promise_too_high = refl; promise_just_in = refl; query_promise_too_high = refl }
