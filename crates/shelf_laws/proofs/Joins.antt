-- The calls of a join, by those of its two shelves, and its laws.
use Rattle.std.proofs.Common.{◌≡◌, ℕ, ◌-◌, ◌<◌, ◌≤◌, ltb, List, ◌++◌, length, take, ℤ, Some, None, Option, sym, refl, ap, ◌∙◌, arith, length-take, ltb-false, ltb-true}
use Rattle.std.specs.List.{slice_get}
use Rattle.std.proofs.lemmas.Option.{slice_get_past}
use Rattle.coverage.specs.Axes.{Coordinates}
use Rattle.coverage.proofs.Bools.{by_test}
use Rattle.shelf.specs.declared.fault.ShelfFault.{ShelfFault}
use Rattle.shelf.specs.Faults.{told}
use Rattle.shelf.specs.Meaning.{Coverage, after_of, answer_of, describe_answer, described, fault_at, look_answer, looked, put_strip, strip_after, strip_answer, strip_fault}
use Rattle.shelf.specs.Laws.{Lawful}
use Rattle.shelf.proofs.Numbers.{answer_told, described_told, fault_told, looked_told, told_fault}
use Rattle.shelf_laws.specs.Join.{joined}
use Rattle.shelf_laws.proofs.Lists.{nth_take, nth_left, nth_right, edited_take, edited_left, edited_right}

-- which coverage of a join a number means
at_left : (a b : List Coverage) (c : ℕ) → length a ≤ 8 → c < length a → slice_get (joined a b) c ≡ slice_get a c
at_left a b c l h = nth_take 8 (a ++ b) c (omega arith) ∙ nth_left a b c h

at_right : (a b : List Coverage) (c : ℕ) → c < 8 → length a ≤ c → slice_get (joined a b) c ≡ slice_get b (c - length a)
at_right a b c l h = nth_take 8 (a ++ b) c l ∙ nth_right a b c h

at_past : (a b : List Coverage) (c : ℕ) → 8 ≤ c → slice_get (joined a b) c ≡ None
at_past a b c h = slice_get_past (joined a b) c (omega (arith, length-take 8 (a ++ b)))

pub describe_left : (a b : List Coverage) (c : ℕ) → length a ≤ 8 → c < length a → describe_answer (joined a b) c ≡ describe_answer a c
describe_left a b c l h = ap (λ o. described o c) (at_left a b c l h)

pub describe_right : (a b : List Coverage) (c : ℕ) → c < 8 → length a ≤ c → describe_answer (joined a b) c ≡ told (describe_answer b (c - length a)) c 0
describe_right a b c l h = ap (λ o. described o c) (at_right a b c l h) ∙ described_told (slice_get b (c - length a)) c (c - length a)

pub look_left : (a b : List Coverage) (c : ℕ) (p : Coordinates) → length a ≤ 8 → c < length a → look_answer (joined a b) c p ≡ look_answer a c p
look_left a b c p l h = ap (λ o. looked o c p) (at_left a b c l h)

pub look_right : (a b : List Coverage) (c : ℕ) (p : Coordinates) → c < 8 → length a ≤ c → look_answer (joined a b) c p ≡ told (look_answer b (c - length a) p) c 0
look_right a b c p l h = ap (λ o. looked o c p) (at_right a b c l h) ∙ looked_told (slice_get b (c - length a)) c (c - length a) p

after_left : (o : Option ShelfFault) (a b : List Coverage) (c n : ℕ) (cs : List ℤ) → c < length a → after_of o (joined a b) c n cs ≡ joined (after_of o a c n cs) b
after_left None a b c n cs h = edited_take 8 (a ++ b) c (λ k. put_strip k n cs) ∙ ap (take 8) (edited_left a b c (λ k. put_strip k n cs) h)
after_left (Some f) a b c n cs h = refl

after_right : (o : Option ShelfFault) (a b : List Coverage) (c n : ℕ) (cs : List ℤ) → length a ≤ c → after_of (told_fault o c n) (joined a b) c n cs ≡ joined a (after_of o b (c - length a) n cs)
after_right None a b c n cs h = edited_take 8 (a ++ b) c (λ k. put_strip k n cs) ∙ ap (take 8) (edited_right a b c (λ k. put_strip k n cs) h)
after_right (Some f) a b c n cs h = refl

pub strip_left : (a b : List Coverage) (c n : ℕ) (cs : List ℤ) → length a ≤ 8 → c < length a →
    (strip_answer (joined a b) c n cs ≡ strip_answer a c n cs) × (strip_after (joined a b) c n cs ≡ joined (strip_after a c n cs) b)
strip_left a b c n cs l h =
    let e : strip_fault (joined a b) c n cs ≡ strip_fault a c n cs = ap (λ o. fault_at o c n cs) (at_left a b c l h) in
    (ap answer_of e, ap (λ o. after_of o (joined a b) c n cs) e ∙ after_left (strip_fault a c n cs) a b c n cs h)

pub strip_right : (a b : List Coverage) (c n : ℕ) (cs : List ℤ) → c < 8 → length a ≤ c →
    (strip_answer (joined a b) c n cs ≡ told (strip_answer b (c - length a) n cs) c n) × (strip_after (joined a b) c n cs ≡ joined a (strip_after b (c - length a) n cs))
strip_right a b c n cs l h =
    let f = strip_fault b (c - length a) n cs in
    let e : strip_fault (joined a b) c n cs ≡ told_fault f c n = ap (λ o. fault_at o c n cs) (at_right a b c l h) ∙ fault_told (slice_get b (c - length a)) c (c - length a) n cs in
    (ap answer_of e ∙ answer_told f c n, ap (λ o. after_of o (joined a b) c n cs) e ∙ after_right f a b c n cs h)

pub joined_lawful : (a b : List Coverage) → Lawful a → Lawful b → Lawful (joined a b)
joined_lawful a b la lb = record {
  at_most_eight = omega (arith, length-take 8 (a ++ b));
  each = λ c k e.
      by_test (ltb c 8)
      (λ t. by_test (ltb c (length a))
      (λ u. let p = ltb-true _ _ u in la.each c k (sym (at_left a b c la.at_most_eight p) ∙ e))
      (λ u. lb.each (c - length a) k (sym (at_right a b c (ltb-true _ _ t) (ltb-false _ _ u)) ∙ e)))
      (λ t. let n = at_past a b c (ltb-false _ _ t) in cc);
}
