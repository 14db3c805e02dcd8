-- A query sees only the coverages that it binds.
use Rattle.std.proofs.Common.{◌≡◌, ℕ, ◌*◌, Bool, true, false, cond, leb, List, [], ◌∷◌, ℤ, Some, None, Option, Result, refl}
use Rattle.std.specs.Str.{bytes_eq}
use Rattle.coverage.specs.declared.refusal.Refusal.{Refusal}
use Rattle.coverage.specs.Axes.{Coordinates, origin, cells, point_at}
use Rattle.syntax.specs.Tree.{Word, Binding, Query}
use Rattle.language.specs.Iterators.{no_ranges}
use Rattle.language.specs.Typing.{Described, domain_of, kind_of, promise_of}
use Rattle.language.specs.Faults.{most_reads, first, unless, fault_of}
use Rattle.language.specs.Values.{Looks, value_at}
use Rattle.language.specs.Reads.{reads_at}
use Rattle.language.specs.Queries.{stands_for, described_as, looked_at, bind_about, bind_looks, binding_fault, bindings_fault, Announced, unless_refused, query_fault, checked, no_places}
use Rattle.language.specs.Laws.{EachBound, QueriesSeeOnlyWhatTheyBind}

-- a fact of every bound name holds of the name that a `$` word stands for
bound_name : (bs : List Binding) (P : Word → Type 0) (Q : Option Word → Type 0) → EachBound bs P → Q None → ((n : Word) → P n → Q (Some n)) → (w : Word) → Q (stands_for bs w)
bound_name [] P Q h none some w = none
bound_name (b ∷ rest) P Q h none some w = go (bytes_eq b.word w) (bound_name rest P Q h.1 none some w)
  where
    go : (s : Bool) → Q (stands_for rest w) → Q (cond s (Some b.coverage) (stands_for rest w))
    go true k = some b.coverage h.0
    go false k = k

module _ (find other : Described) where
  same_about : (bs : List Binding) → EachBound bs (λ n. find n ≡ other n) → bind_about bs find ≡ bind_about bs other
  same_about bs h = λ i w. bound_name bs (λ n. find n ≡ other n) (λ o. described_as find o ≡ described_as other o) h refl (λ n k. k) w i

  same_bindings : (bs earlier : List Binding) → EachBound bs (λ n. find n ≡ other n) → bindings_fault find earlier bs ≡ bindings_fault other earlier bs
  unfolding binding_fault
  same_bindings [] earlier h = refl
  same_bindings (b ∷ rest) earlier h = rw (h.0, same_bindings rest (b ∷ earlier) h.1) refl

same_looks : (look seen : Looks) (bs : List Binding) → EachBound bs (λ n. (p : Coordinates) → look n p ≡ seen n p) → bind_looks bs look ≡ bind_looks bs seen
same_looks look seen bs h = λ i w p. bound_name bs (λ n. (p : Coordinates) → look n p ≡ seen n p) (λ o. (p : Coordinates) → looked_at look o p ≡ looked_at seen o p) h (λ p. refl) (λ n k. k) w p i

-- the answer of the check, by what the bindings say and what `$` words stand for
abbrev checked_by : Query → Option Refusal → Described → Result Announced Refusal
checked_by q x about =
    unless_refused (first x (first (fault_of about no_ranges 0 q.body) (unless (leb (cells (domain_of about q.body) * promise_of about q.body) most_reads) 11 0)))
    (record { extents = domain_of about q.body; kind = kind_of about no_ranges q.body; promise = cells (domain_of about q.body) * promise_of about q.body })

check_sees : (find other : Described) (q : Query) → EachBound q.bindings (λ n. find n ≡ other n) → checked find q ≡ checked other q
unfolding query_fault
check_sees find other q h = λ i. checked_by q (same_bindings find other q.bindings [] h i) (same_about find other q.bindings h i)

-- a cell's value and its reads, by what `$` words stand for and their cells
abbrev value_by : Query → ℕ → Described → Looks → Option ℤ
value_by q n about look = value_at about look no_places q.body (point_at (domain_of about q.body) n origin)

abbrev reads_by : Query → ℕ → Described → Looks → ℕ
reads_by q n about look = reads_at about look no_places q.body (point_at (domain_of about q.body) n origin)

pub queries_see_only_what_they_bind_lem : QueriesSeeOnlyWhatTheyBind
queries_see_only_what_they_bind_lem = record {
  in_the_check = check_sees;
  in_the_run = λ find other look seen q h k n. (
    λ i. value_by q n (same_about find other q.bindings h i) (same_looks look seen q.bindings k i),
    λ i. reads_by q n (same_about find other q.bindings h i) (same_looks look seen q.bindings k i),
  );
}
