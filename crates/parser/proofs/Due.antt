-- What a stack is due: how many values stand under it at each point, so that no action lacks one, and that
-- the words that it holds are spelt by the text and its numbers are not too large.
use Rattle.std.proofs.Common.{◌≡◌, ℕ, zero, suc, ◌+◌, ◌<◌, ◌≤◌, Bool, eqb, List, [], ◌∷◌, ◌++◌, length, take, drop, ℤ, pos, neg_ℤ, ◌≤ℤ◌, arith, length-append}
use borrow.Author.Differences.{ints}
use Rattle.std.specs.List.{AllByRecursion as All}
use Rattle.std.proofs.ByRecursion.{All-push}
use Rattle.std.proofs.lemmas.Bool.{cond_both}
use Rattle.coverage.specs.declared.axis.Axis.{Axis}
use Rattle.syntax.specs.Tree.{Word, Binding}
use Rattle.syntax.specs.declared.Unary.{Unary}
use Rattle.lexer.specs.declared.symbol.Symbol.TheVariants as the
use Rattle.parser.specs.Actions.{Placing, Leaf, number, truth, named, iterating, Action, leaf, prefix, apply, join, trim, slice, condense, pick, cover, wrap, placing, spanning}
use Rattle.parser.specs.Machine as m
use Rattle.parser.specs.Machine.{Item, Use, trims, iterates, Edge, lower, upper, levels, ladder, again, follows}

-- ---- what items hold

-- the word stands at p
abbrev pub Written : List ℕ → Word → ℕ → Type 0
Written bs w p = take (length w) (drop p bs) ≡ w

-- no further than 2147483647 on both sides
abbrev pub Within : ℤ → Type 0
Within z = (neg_ℤ (pos 2147483647) ≤ℤ z) × (z ≤ℤ pos 2147483647)

pub above_within : (n : ℕ) → n ≤ 2147483647 → Within (pos n)
above_within n h = (omega (arith, ints), omega (arith, ints))

pub below_within : (n : ℕ) → n ≤ 2147483647 → Within (neg_ℤ (pos n))
below_within n h = (omega (arith, ints), omega (arith, ints))

abbrev pub PlacingWritten : List ℕ → Placing → Type 0
PlacingWritten bs i = Written bs i.iterator.word i.place × Within i.iterator.range.lo × Within i.iterator.range.hi

abbrev pub BindingWritten : List ℕ → Binding → Type 0
BindingWritten bs b = Written bs b.word (b.word_place + 1) × Written bs b.coverage b.coverage_place

-- one to three iterators
pub record PlacingsWritten (bs : List ℕ) (is : List Placing) : Type 0 where
  pub some : 0 < length is
  pub few : length is ≤ 3
  pub each : All (PlacingWritten bs) is

-- one to four bindings
pub record BindingsWritten (bs : List ℕ) (cs : List Binding) : Type 0 where
  pub some : 0 < length cs
  pub few : length cs ≤ 4
  pub each : All (BindingWritten bs) cs

-- k iterators more after this one
pub record PlacingsSoFar (bs : List ℕ) (k : ℕ) (is : List Placing) : Type 0 where
  pub few : length is + k ≤ 2
  pub each : All (PlacingWritten bs) is

pub record BindingsSoFar (bs : List ℕ) (k : ℕ) (cs : List Binding) : Type 0 where
  pub few : length cs + k ≤ 3
  pub each : All (BindingWritten bs) cs

-- ---- actions

abbrev pub LeafWritten : List ℕ → ℕ → Leaf → Type 0
LeafWritten bs p (number n) = n ≤ 2147483647
LeafWritten bs p (truth b) = Unit {0}
LeafWritten bs p (named w) = Written bs w (p + 1)
LeafWritten bs p (iterating w) = Written bs w p

-- an action over v values
abbrev pub Ready : List ℕ → Action → ℕ → Type 0
Ready bs (leaf p l) v = LeafWritten bs p l
Ready bs (prefix p u) v = 0 < v
Ready bs (apply p f) v = 0 < v
Ready bs (join o) v = 1 < v
Ready bs (trim g a r) v = 0 < v
Ready bs (slice g a) v = 1 < v
Ready bs (condense p f is) v = PlacingsWritten bs is × (0 < v)
Ready bs (pick p f is) v = PlacingsWritten bs is × (1 < v)
Ready bs (cover p is) v = PlacingsWritten bs is × (0 < v)
Ready bs (wrap p) v = 0 < v

-- one less
abbrev pub fewer : ℕ → ℕ
fewer zero = zero
fewer (suc v) = v

-- how many values there are after it
abbrev pub after : Action → ℕ → ℕ
after (leaf p l) v = suc v
after (prefix p u) v = v
after (apply p f) v = v
after (join o) v = fewer v
after (trim g a r) v = v
after (slice g a) v = fewer v
after (condense p f is) v = v
after (pick p f is) v = fewer v
after (cover p is) v = v
after (wrap p) v = v

-- ---- ranges

abbrev pub UseDue : List ℕ → Use → ℕ → Type 0
UseDue bs (trims g a) v = 0 < v
UseDue bs (iterates k h js w p a) v = PlacingsSoFar bs k js × Written bs w p

abbrev pub after_use : Use → ℕ → ℕ
after_use (trims g a) v = v
after_use (iterates k h js w p a) v = suc v

abbrev pub EdgeDue : List ℕ → Edge → ℕ → Type 0
EdgeDue bs (lower u) v = UseDue bs u v
EdgeDue bs (upper u z) v = Within z × UseDue bs u v

abbrev pub after_edge : Edge → ℕ → ℕ
after_edge (lower u) v = after_use u v
after_edge (upper u z) v = after_use u v

-- ---- stacks

-- after an entry's argument its bracket closes, and it is a slice
pub data Closing : List Item → Type 0 where
  closing : {g : Bool} {a : Axis} {s : List Item} → Closing (m.must the.Close ∷ m.acts (slice g a) ∷ s)

-- the items that are not due any more after a colon
pub data Undone : ℕ → List Item → Type 0 where
  plain : {g : Bool} {a : Axis} {s : List Item} → Undone 9 (m.subsets ∷ (levels ++ (m.must the.Close ∷ m.acts (slice g a) ∷ s)))
  minus : {p : ℕ} {u : Unary} {g : Bool} {a : Axis} {s : List Item} → Undone 10 (m.subsets ∷ m.acts (prefix p u) ∷ (levels ++ (m.must the.Close ∷ m.acts (slice g a) ∷ s)))

-- a stack over v values; at the query's end there is one
abbrev pub Due : List ℕ → List Item → ℕ → Type 0
Due bs [] v = ⊥
Due bs (m.expr ∷ s) v = Due bs s (suc v)
Due bs (m.operand ∷ s) v = Due bs s (suc v)
Due bs (m.tail n ∷ s) v = (0 < v) × Due bs s v
Due bs (m.subsets ∷ s) v = (0 < v) × Due bs s v
Due bs (m.entry e ∷ s) v = (0 < v) × Due bs s v
Due bs (m.entries e ∷ s) v = (0 < v) × Due bs s v
Due bs (m.arg g a ∷ s) v = (0 < v) × Due bs s v
Due bs (m.arg_minus g a q ∷ s) v = Closing s × Due bs s (suc v)
Due bs (m.arg_numeral g a z n q k ∷ s) v = Within z × (n ≤ 2147483647) × Undone k s × Due bs s (suc v)
Due bs (m.bound e ∷ s) v = EdgeDue bs e v × Due bs s (after_edge e v)
Due bs (m.bound_minus e ∷ s) v = EdgeDue bs e v × Due bs s (after_edge e v)
Due bs (m.sign q ∷ s) v = Due bs s (suc v)
Due bs (m.iterator k h js ∷ s) v = PlacingsSoFar bs k js × Due bs s (suc v)
Due bs (m.iterator_axis k h js w q ∷ s) v = PlacingsSoFar bs k js × Written bs w q × Due bs s (suc v)
Due bs (m.iterators k h js ∷ s) v = PlacingsWritten bs js × (length js + k ≤ 3) × Due bs s (suc v)
Due bs (m.binding k cs ∷ s) v = BindingsSoFar bs k cs × (v ≡ 0)
Due bs (m.binding_name k cs w q ∷ s) v = BindingsSoFar bs k cs × Written bs w (q + 1) × (v ≡ 0)
Due bs (m.bindings k cs ∷ s) v = BindingsWritten bs cs × (length cs + k ≤ 4) × (v ≡ 0)
Due bs (m.must x ∷ s) v = Due bs s v
Due bs (m.any_word ∷ s) v = Due bs s v
Due bs (m.acts a ∷ s) v = Ready bs a v × Due bs s (after a v)
Due bs (m.ends cs ∷ s) v = BindingsWritten bs cs × (v ≡ 1)

-- further operators may follow a value
pub ladder_due : (bs : List ℕ) (k n : ℕ) (s : List Item) (v : ℕ) → 0 < v → Due bs s v → Due bs (ladder k n ++ s) v
ladder_due bs zero n s v h d = d
ladder_due bs (suc k) n s v h d = (h, ladder_due bs k (suc n) s v h d)

pub again_due : (bs : List ℕ) (n : ℕ) (s : List Item) (v : ℕ) → 0 < v → Due bs s v → Due bs (again n s) v
again_due bs n s v h d = cond_both (eqb n 2) s (m.tail n ∷ s) (λ r. Due bs r v) (λ _. d) (λ _. (h, d))

-- without the position of a slice, the rest is due over what was sliced
pub undone_due : (bs : List ℕ) {k : ℕ} {s : List Item} (v : ℕ) → Undone k s → Due bs s (suc v) → (0 < v) × Due bs (drop k s) v
undone_due bs v plain d = let e = d.1.1.1.1.1.1.1 in (omega (arith, e.0), e.1)
undone_due bs v minus d = let e = d.1.1.1.1.1.1.1.1 in (omega (arith, e.0), e.1)

-- an end of a range was read
pub follows_due : (bs : List ℕ) (e : Edge) (z : ℤ) (s : List Item) (v : ℕ) → Within z → EdgeDue bs e v → Due bs s (after_edge e v) → Due bs (follows e z s) v
follows_due bs (lower u) z s v w h d = ((w, h), d)
follows_due bs (upper (trims g a) lo) z s v w h d = (h.1, d)
follows_due bs (upper (iterates k f js x p a) lo) z s v w h d =
    let i = placing x p a (spanning lo z) in
    let e : length (js ++ (i ∷ [])) ≡ length js + 1 = length-append js (i ∷ []) in
    let far = h.1.0.few in (
      record { some = omega arith; few = omega arith; each = All-push (PlacingWritten bs) js i h.1.0.each (h.1.1, h.0, w) },
      omega arith,
      d,
    )
