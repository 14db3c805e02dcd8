-- The worked cases and the example life, by computing.
use Rattle.std.proofs.Common.{pos, Err, codes, refl}
use Rattle.coverage.specs.declared.refusal.Layer.TheVariants as layer
use Rattle.coverage.specs.Axes.{extents, no_extents, point_at}
use Rattle.coverage.specs.Strips.{strip_point}
use Rattle.language.specs.Operators.{quotient}
use Rattle.language.specs.Spans.{corners}
use Rattle.language.specs.Faults.{limits_fault, name_fault, iterator_fault, unary_fault, binary_fault, reduce_fault, trim_fault, slice_fault, iterators_fault, condense_fault, condense_where_fault, form_fault}
use Rattle.language.specs.Queries.{binding_fault, query_fault}
use Rattle.lexer.specs.Toks.{toks, toks_by}
use Rattle.parser.specs.Machine.{verdict}
use Rattle.parser.specs.Says.{text_says}
use Rattle.shelf.specs.Laws.{LawfulCoverage}
use Rattle.shelf.proofs.Single.{one_lawful}
use Rattle.lives.specs.Unit.{State, SwitchedOn, no_plan}
use Rattle.lives.specs.Calls.{after_strip, after_check}
use Rattle.lives.specs.Life.{begins, goes_on}
use Rattle.lives.specs.Worked.{WorkedCasesOnTheirTexts, roof, roof_domain, strip0, strip1, around, accepts}
use Rattle.lives.specs.Refusals.{RefusalsComeInTurn}
use Rattle.lives.specs.Example.{SuchALifeIsLed, switched_on}

pub worked_cases : WorkedCasesOnTheirTexts
unfolding point_at quotient corners limits_fault name_fault iterator_fault unary_fault binary_fault reduce_fault trim_fault slice_fault iterators_fault condense_fault condense_where_fault form_fault binding_fault query_fault strip_point toks toks_by verdict text_says
worked_cases = record {
  plus_one = refl;
  plus_one_cells = record { query = _; says = refl; cells_are = refl; reads_are = refl };
  add_all_holds = refl;
  add_all_null = record { query = _; says = refl; cells_are = refl; reads_are = refl };
  add_all_known = record { query = _; says = refl; cells_are = refl; reads_are = refl };
  minus_seven_halves_holds = record { query = _; says = refl; cells_are = refl; reads_are = refl };
  one_over_holds = refl;
  equals_true_holds = refl;
  column_2 = refl;
  column_3 = refl;
  next_in_row_holds = record { query = _; says = refl; cells_are = refl; reads_are = refl };
  next_outside = refl;
  highest = refl;
  highest_null = record { query = _; says = refl; cells_are = refl; reads_are = refl };
  product_inside = refl;
  product_beyond = refl;
  strip_1_first = refl;
  strip_0_then = refl;
  strip_1_again = refl;
  one_plus_one_holds = record { query = _; says = refl; cells_are = refl; reads_are = refl };
  condense_after_plus = refl;
}

pub refusals_come_in_turn_lem : RefusalsComeInTurn
unfolding point_at quotient corners limits_fault name_fault iterator_fault unary_fault binary_fault reduce_fault trim_fault slice_fault iterators_fault condense_fault condense_where_fault form_fault binding_fault query_fault strip_point toks toks_by verdict text_says
refusals_come_in_turn_lem = record {
  no_such_plan = refl;
  plan_five = refl;
  too_long = refl;
  ends_early = refl;
  no_token = refl;
  dollar_alone = refl;
  largest_numeral = refl;
  numeral_too_large = refl;
  word_too_long = refl;
  token_before_grammar = refl;
  grammar_before_size = refl;
  most_constructs_holds = refl;
  too_many_constructs = refl;
  deepest_expression = refl;
  too_deep = refl;
  unknown_coverage_holds = refl;
  unbound_word = refl;
}

-- ---- the life

roof_lawful : LawfulCoverage roof
roof_lawful = record { described = refl; cells_fit = λ p e. tt; strips_whole = λ r n h p q e f. refl }

switched_on_lem : SwitchedOn switched_on
switched_on_lem = record { all_plans_empty = λ p. refl; shelf_lawful = one_lawful roof roof_lawful }

-- the states between
abbrev stripped : State
stripped = after_strip (after_strip switched_on 0 1 strip1) 0 1 strip1

abbrev planned : State
planned = after_check stripped 1 (text_says (around (codes "$c + 1"))) (accepts (extents roof_domain) (pos 1) (pos 101) 6)

abbrev refused : State
refused = after_check planned 5 (text_says (around (codes "add($c)"))) (Err (no_plan layer.Check 5))

abbrev added : State
added = after_check refused 2 (text_says (around (codes "add($c)"))) (accepts no_extents (pos 0) (pos 600) 6)

abbrev whole : State
whole = after_strip added 0 0 strip0

pub such_a_life_is_led_lem : SuchALifeIsLed
unfolding point_at quotient corners limits_fault name_fault iterator_fault unary_fault binary_fault reduce_fault trim_fault slice_fault iterators_fault condense_fault condense_where_fault form_fault binding_fault query_fault strip_point toks toks_by verdict text_says
such_a_life_is_led_lem = record {
  on = switched_on_lem;
  now = whole;
  life =
      goes_on {before = whole} {after = whole} _ (
      goes_on {before = whole} {after = whole} _ (
      goes_on {before = whole} {after = whole} _ (
      goes_on {before = whole} {after = whole} _ (
      goes_on {before = added} {after = whole} _ (
      goes_on {before = added} {after = added} _ (
      goes_on {before = refused} {after = added} _ (
      goes_on {before = planned} {after = refused} _ (
      goes_on {before = planned} {after = planned} _ (
      goes_on {before = planned} {after = planned} _ (
      goes_on {before = stripped} {after = planned} _ (
      goes_on {before = after_strip switched_on 0 1 strip1} {after = stripped} _ (
      goes_on {before = switched_on} {after = after_strip switched_on 0 1 strip1} _
      begins
      (refl, refl))
      (refl, refl))
      (refl, refl))
      (refl, record { cells_then_rest = refl; work_as_long = refl }, refl))
      (refl, refl, refl))
      (refl, refl))
      (refl, refl))
      (refl, record { cells_then_rest = refl; work_as_long = refl }, refl))
      (refl, refl))
      (refl, record { cells_then_rest = refl; work_as_long = refl }, refl))
      (refl, refl, refl))
      (refl, refl, refl))
      (refl, record { cells_then_rest = refl; work_as_long = refl }, refl);
}
