-- The laws of queries.
use Rattle.std.proofs.Common.{◌≡◌, ℕ, ◌≤◌, leb, [], ℤ, Some, None, Ok, Err, Option, Result, refl, ◌∙◌, subst, arith as linear, leb-true}
use Rattle.coverage.specs.declared.refusal.Refusal.{Refusal}
use Rattle.coverage.specs.declared.range.Range.{Range}
use Rattle.coverage.specs.Axes.{Extents, Coordinates, cells, point_at, Inside, AgreeAt, Agree, origin}
use Rattle.coverage.specs.Kinds.{Within}
use Rattle.coverage.proofs.Points.{point_inside}
use Rattle.coverage.proofs.Numbers.{number_point, number_below, point_number}
use Rattle.syntax.specs.Tree.{Query}
use Rattle.language.specs.Operators.{arithmetic}
use Rattle.language.specs.Iterators.{no_ranges}
use Rattle.language.specs.Typing.{Described, promise_of}
use Rattle.language.specs.Faults.{most_reads, first, unless, fault_of}
use Rattle.language.specs.Values.{Looks}
use Rattle.language.specs.Queries.{bind_about, bind_looks, bindings_fault, query_domain, query_promise, query_fault, Announced, announced, unless_refused, checked, no_places, cell_at, cell_reads, reads}
use Rattle.language.specs.Limits.{most_cells, InBounds, AcceptedKeepsTheLimits}
use Rattle.language.specs.Laws.{SoundShelf, KnownCellsStay, CellsAlike, ValuesLieInTheirSpan, ReadsStayWithinThePromise, KnownCellsNeverChange, Known, AllKnown, NoWhere, NothingNullReadsThePromise, AnswersDependOnlyOnCellsInside, CellsAndPointsNumberEachOther}
use Rattle.language.specs.Results.{FourPairsBoundEveryResult, QuotientsDropTheFraction}
use Rattle.language.proofs.Rules.{one, two, passes}
use Rattle.language.proofs.Quotients.{quotient_left, quotient_right, drops_less, drops_toward_zero}
use Rattle.language.proofs.Operands.{arithmetic_in}
use Rattle.language.proofs.Reached.{lowest_reached, highest_reached}
use Rattle.language.proofs.Within.{domain_ordered, within}
use Rattle.language.proofs.Promised.{promised, sum_of_le}
use Rattle.language.proofs.Grows.{Grown, grown}
use Rattle.language.proofs.Exact.{exact, sum_exact}
use Rattle.language.proofs.Local.{same}
use Rattle.language.proofs.Sizes.{few_cells}
use Rattle.language.proofs.Limits.{few_reads, in_bounds}
use Rattle.language.proofs.Shelves.{bind_ordered, bind_sound, bind_stay, bind_known, bind_alike, bind_bounded}

-- ---- what acceptance of a query says

refused_accepts : {B : Type 0} {r : Refusal} {t : Announced} → ◌≡◌ {A = Result Announced Refusal} (Err r) (Ok t) → B
refused_accepts e = let z : ◌≡◌ {A = ℕ} 0 1 = cc in absurd (omega linear)

accepted : (x : Option Refusal) (u t : Announced) → unless_refused x u ≡ Ok t → (x ≡ None) × (u ≡ t)
accepted None u t e = (refl, cc)
accepted (Some r) u t e = refused_accepts e

pub record QueryAccepted (find : Described) (q : Query) (t : Announced) : Type 0 where
  pub bindings : bindings_fault find [] q.bindings ≡ None
  pub body : fault_of (bind_about q.bindings find) no_ranges 0 q.body ≡ None
  pub few : query_promise find q ≤ most_reads
  pub told : announced find q ≡ t

pub query_accepted : (find : Described) (q : Query) (t : Announced) → checked find q ≡ Ok t → QueryAccepted find q t
unfolding query_fault
query_accepted find q t e =
    let h = accepted (query_fault find q) (announced find q) t e in
    let b = bindings_fault find [] q.bindings in
    let f = fault_of (bind_about q.bindings find) no_ranges 0 q.body in
    let l = unless (leb (query_promise find q) most_reads) 11 0 in
    let r = two b (first f l) h.0 in
    record { bindings = one b (first f l) h.0; body = one f l r; few = leb-true _ _ (passes (leb (query_promise find q) most_reads) 11 0 (two f l r)); told = h.1 }

agree_refl : (r : Option Range) (x : ℤ) → AgreeAt r x x
agree_refl None x = tt
agree_refl (Some r) x = refl

self_agree : (d : Extents) (p : Coordinates) → Agree d p p
self_agree d p a = agree_refl (d a) (p a)

of_grown : (x y : Option ℤ) (v : ℤ) → Grown x y → x ≡ Some v → y ≡ Some v
of_grown None y v h e = let z : ◌≡◌ {A = ℕ} 0 1 = cc in absurd (omega linear)
of_grown (Some w) y v h e = h ∙ e

-- ---- the laws

module _ (find : Described) (q : Query) (t : Announced) (e : checked find q ≡ Ok t) where
  abbrev about : Described
  about = bind_about q.bindings find

  body_accepted : fault_of (bind_about q.bindings find) no_ranges 0 q.body ≡ None
  body_accepted = (query_accepted find q t e).body

  -- every cell of the answer is worked out at a point of its domain
  inside_answer : (look : Looks) → SoundShelf find look → (n : ℕ) → Inside (query_domain find q) (point_at (query_domain find q) n origin)
  inside_answer look s n = point_inside (query_domain find q) n origin (domain_ordered about (bind_ordered q.bindings find s.ordered) no_ranges 0 q.body body_accepted)

  span_law : (look : Looks) → SoundShelf find look → (n : ℕ) → Within t.kind (cell_at find look q n)
  span_law look s n =
      let b = bind_sound q.bindings find look s in
      subst (λ (u : Announced). Within u.kind (cell_at find look q n)) (query_accepted find q t e).told
      (within about b.ordered (bind_looks q.bindings look) b.kinds no_ranges no_places (λ w. tt) 0 q.body body_accepted (point_at (query_domain find q) n origin) (inside_answer look s n))

  reads_law : (look : Looks) → reads find look q ≤ t.promise
  reads_law look =
      subst (λ (u : Announced). reads find look q ≤ u.promise) (query_accepted find q t e).told
      (sum_of_le (cell_reads find look q) (promise_of about q.body) (λ n. promised about (bind_looks q.bindings look) no_places q.body (point_at (query_domain find q) n origin)) (cells (query_domain find q)))

  local_law : (look other : Looks) → SoundShelf find look → CellsAlike find look other → (n : ℕ) → (cell_at find look q n ≡ cell_at find other q n) × (cell_reads find look q n ≡ cell_reads find other q n)
  local_law look other s h n =
      let b = bind_sound q.bindings find look s in
      let p = point_at (query_domain find q) n origin in
      same about b.ordered (bind_looks q.bindings look) (bind_looks q.bindings other) b.kinds (bind_alike q.bindings find look other h) no_ranges no_places no_places (λ w. tt) (λ w. tt) 0 q.body body_accepted p p (inside_answer look s n) (self_agree (query_domain find q) p)

  grows_law : (look later : Looks) → SoundShelf find look → KnownCellsStay find look later → (n : ℕ) → Grown (cell_at find look q n) (cell_at find later q n)
  grows_law look later s h n =
      let b = bind_sound q.bindings find look s in
      grown about b.ordered (bind_looks q.bindings look) (bind_looks q.bindings later) b.kinds (bind_stay q.bindings find look later h) no_ranges no_places (λ w. tt) 0 q.body body_accepted
      (point_at (query_domain find q) n origin) (inside_answer look s n)

  exact_law : (look : Looks) → SoundShelf find look → AllKnown find look → NoWhere q.body → (n : ℕ) → Known (cell_at find look q n) × (cell_reads find look q n ≡ promise_of (bind_about q.bindings find) q.body)
  exact_law look s k m n =
      let b = bind_sound q.bindings find look s in
      exact about b.ordered (bind_looks q.bindings look) b.kinds (bind_known q.bindings find look k) no_ranges no_places (λ w. tt) 0 q.body body_accepted m (point_at (query_domain find q) n origin) (inside_answer look s n)

pub values_lie_in_their_span : ValuesLieInTheirSpan
values_lie_in_their_span find look s q t e n = span_law find q t e look s n

pub reads_stay_within_the_promise_lem : ReadsStayWithinThePromise
reads_stay_within_the_promise_lem = record {
  of_a_cell = λ find look q n. promised (bind_about q.bindings find) (bind_looks q.bindings look) no_places q.body (point_at (query_domain find q) n origin);
  of_an_answer = λ find look q t e. reads_law find q t e look;
}

pub known_cells_never_change_lem : KnownCellsNeverChange
known_cells_never_change_lem find look later s h q t e n v a = of_grown (cell_at find look q n) (cell_at find later q n) v (grows_law find q t e look later s h n) a

pub nothing_null_reads_the_promise : NothingNullReadsThePromise
nothing_null_reads_the_promise = record {
  known = λ find look s k q m t e n. (exact_law find q t e look s k m n).0;
  exact = λ find look s k q m t e.
      subst (λ (u : Announced). reads find look q ≡ u.promise) (query_accepted find q t e).told
      (sum_exact (cell_reads find look q) (promise_of (bind_about q.bindings find) q.body) (λ n. (exact_law find q t e look s k m n).1) (cells (query_domain find q)));
}

pub answers_depend_only_on_cells_inside_lem : AnswersDependOnlyOnCellsInside
answers_depend_only_on_cells_inside_lem = record {
  of_a_cell = λ find look other s h q t e n. local_law find q t e look other s h n;
  at_a_point = λ about look other s h place e f p q i k. same about s.ordered look other s.kinds h no_ranges no_places no_places (λ w. tt) (λ w. tt) place e f p q i k;
}

pub accepted_keeps_the_limits : AcceptedKeepsTheLimits
accepted_keeps_the_limits = record {
  span_of_a_part = λ about s g r place e m f. in_bounds about s g r place e m f;
  cells_of_a_part = λ about s g place e f. few_cells about s g place e f;
  promise_of_a_part = few_reads;
  span_of_a_query = λ find s q m t e.
      let a = query_accepted find q t e in
      subst (λ (u : Announced). InBounds u.kind) a.told (in_bounds (bind_about q.bindings find) (bind_bounded q.bindings find s) no_ranges (λ w. tt) 0 q.body m a.body);
  cells_of_a_query = λ find s q t e.
      let a = query_accepted find q t e in
      subst (λ (u : Announced). cells u.extents ≤ most_cells) a.told (few_cells (bind_about q.bindings find) (bind_bounded q.bindings find s) no_ranges 0 q.body a.body);
  promise_of_a_query = λ find q t e.
      let a = query_accepted find q t e in
      subst (λ (u : Announced). u.promise ≤ most_reads) a.told a.few;
}

pub four_pairs_bound_every_result : FourPairsBoundEveryResult
four_pairs_bound_every_result = record {
  bounded = arithmetic_in;
  lowest_reached = λ o a b h k. lowest_reached (arithmetic o) a b h k;
  highest_reached = λ o a b h k. highest_reached (arithmetic o) a b h k;
  by_dividend = quotient_left;
  by_divisor = quotient_right;
}

pub quotients_drop_the_fraction_lem : QuotientsDropTheFraction
quotients_drop_the_fraction_lem = record { less_than_one = drops_less; toward_zero = drops_toward_zero }

pub cells_and_points_number_each_other_lem : CellsAndPointsNumberEachOther
cells_and_points_number_each_other_lem = record { number_of_point = number_point; number_below_cells = number_below; point_of_number = point_number; point_inside = point_inside }
