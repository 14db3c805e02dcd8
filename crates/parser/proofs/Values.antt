-- The table of nodes and the trees, after the same actions: each value is the node of its tree.
use Rattle.std.proofs.Common.{◌≡◌, ℕ, suc, ◌+◌, ◌<◌, ◌≤◌, min, max, List, [], ◌∷◌, length, get_or, drop, set, sym, refl, ap, ◌∙◌, subst, ap₂, ⊎_elim, arith, length-set}
use Rattle.std.proofs.lemmas.List.{get_or-set_same, get_or-set_other, get_or_push, take-set}
use Rattle.std.proofs.lemmas.Bool.{cases_eq}
use Rattle.syntax.specs.Tree.{Iterator, Expr}
use Rattle.syntax.specs.Tree as tree
use Rattle.parser.specs.declared.roles.Function.TheVariants.{Abs, Over}
use Rattle.parser.specs.declared.node.Construct.{Construct}
use Rattle.parser.specs.declared.node.Construct.TheVariants as construct
use Rattle.parser.specs.declared.node.Node.{Node}
use Rattle.syntax.specs.declared.Unary.TheVariants as unary
use Rattle.parser.specs.Actions.{Placing, number, truth, named, iterating, Action, leaf, prefix, apply, join, trim, slice, condense, pick, cover, wrap, Val, val, St, state, node, iteration, iterations_of, build}
use Rattle.parser.specs.Yields.{Yield, begun, last, before, iterators, mean}
use Rattle.parser.specs.Tables.{iterator_of, iterators_of, tree_of, trees, constructs, node_at, trees_in, tree_in, Earlier, SmallIteration, SmallIterations, SmallConstruct, WellFormed}
use Rattle.parser.proofs.Tables.{grown, length_trees_in, trees_in_more, tree_stays}
use Rattle.parser.proofs.Due.{PlacingWritten, PlacingsWritten, Ready, fewer, after}

-- no more nodes than 64, and a table with room for them
pub record Roomy (n : ℕ) (table : List Node) : Type 0 where
  pub few : n ≤ 64
  pub room : 64 ≤ length table

-- a value of the table is what the text yields
pub record ValueIs (bs : List ℕ) (n : ℕ) (table : List Node) (v : Val) (y : Yield) : Type 0 where
  pub place : v.place ≡ y.place
  pub inner : v.inner ≡ min y.inner 12
  pub there : Roomy n table → v.root < n
  pub tree : Roomy n table → tree_in bs table n v.root ≡ y.tree

abbrev pub ValuesAre : List ℕ → ℕ → List Node → List Val → List Yield → Type 0
ValuesAre bs n table [] [] = Unit {0}
ValuesAre bs n table [] (y ∷ ys) = ⊥
ValuesAre bs n table (v ∷ vs) [] = ⊥
ValuesAre bs n table (v ∷ vs) (y ∷ ys) = ValueIs bs n table v y × ValuesAre bs n table vs ys

-- how many constructs there are in all
abbrev pub total : List Yield → ℕ
total [] = 0
total (y ∷ ys) = constructs y.tree + total ys

-- a state of the table is what was read so far
pub record TableIs (bs : List ℕ) (st : St) (ys : List Yield) : Type 0 where
  pub values : ValuesAre bs st.count st.table st.vals ys
  pub counted : st.count ≡ total ys
  pub formed : Roomy st.count st.table → WellFormed st.table st.count

-- ---- one more node

less_room : (n : ℕ) (table : List Node) (x : Node) → Roomy (n + 1) (set table n x) → Roomy n table
less_room n table x r = let e = length-set table n x in record { few = omega arith; room = omega arith }

value_stays : (bs : List ℕ) (n : ℕ) (table : List Node) (x : Node) (v : Val) (y : Yield) → ValueIs bs n table v y → ValueIs bs (n + 1) (set table n x) v y
value_stays bs n table x v y h = record {
  place = h.place;
  inner = h.inner;
  there = λ r. let l = h.there (less_room n table x r) in omega arith;
  tree = λ r.
      let q = less_room n table x r in
      let e = length-set table n x in
      let far : n + 1 ≤ length (set table n x) = omega arith in
      tree_stays bs (set table n x) n (n + 1) (omega arith) far v.root (h.there q)
      ∙ (ap (λ ns. get_or (trees bs [] ns) v.root (tree.numeral 0)) (take-set table n x) ∙ h.tree q);
}

values_stay : (bs : List ℕ) (n : ℕ) (table : List Node) (x : Node) (vs : List Val) (ys : List Yield) → ValuesAre bs n table vs ys → ValuesAre bs (n + 1) (set table n x) vs ys
values_stay bs n table x [] [] h = tt
values_stay bs n table x [] (y ∷ ys) h = absurd h
values_stay bs n table x (v ∷ vs) [] h = absurd h
values_stay bs n table x (v ∷ vs) (y ∷ ys) h = (value_stays bs n table x v y h.0, values_stay bs n table x vs ys h.1)

one_more : (P : ℕ → Type 0) (i : ℕ) → ((k : ℕ) → k < i → P k) → P i → (k : ℕ) → k < i + 1 → P k
one_more P i h p k l = ⊎_elim (λ e. subst P (sym e) p) (λ d. h k (omega arith)) (cases_eq k i)

formed_more : (table : List Node) (n p : ℕ) (c : Construct) → n < length table → WellFormed table n → Earlier n c → SmallConstruct c → WellFormed (set table n (node p c)) (n + 1)
formed_more table n p c h w e s =
    let x = node p c in
    let last-is : node_at (set table n x) n ≡ x = get_or-set_same table n x _ h in
    let others : (k : ℕ) → k < n → node_at (set table n x) k ≡ node_at table k = λ k l. get_or-set_other table n k x _ (λ q. omega arith) in
    record {
      earlier = one_more (λ k. Earlier k (node_at (set table n x) k).construct) n (λ k l. subst (λ (z : Node). Earlier k z.construct) (sym (others k l)) (w.earlier k l)) (subst (λ (z : Node). Earlier n z.construct) (sym last-is) e);
      small = one_more (λ k. SmallConstruct (node_at (set table n x) k).construct) n (λ k l. subst (λ (z : Node). SmallConstruct z.construct) (sym (others k l)) (w.small k l)) (subst (λ (z : Node). SmallConstruct z.construct) (sym last-is) s);
    }

-- the tree of the node that was added
new_tree : (bs : List ℕ) (n : ℕ) (table : List Node) (p : ℕ) (c : Construct) → n < length table → tree_in bs (set table n (node p c)) (n + 1) n ≡ tree.at p (tree_of bs (trees_in bs table n) c)
new_tree bs n table p c h =
    let x = node p c in
    let e = length-set table n x in
    let t = set table n x in
    let last-is : node_at t n ≡ x = get_or-set_same table n x _ h in
    ap (λ es. get_or es n (tree.numeral 0)) (trees_in_more bs t n (omega arith))
    ∙ (get_or_push (trees_in bs t n) (grown bs (trees_in bs t n) (node_at t n)) (tree.numeral 0) n (length_trees_in bs t n (omega arith))
    ∙ (ap (grown bs (trees_in bs t n)) last-is
    ∙ ap (λ ns. tree.at p (tree_of bs (trees bs [] ns) c)) (take-set table n x)))

-- a construct over some of the values
adds : (bs : List ℕ) (n : ℕ) (table : List Node) (p : ℕ) (c : Construct) (d : ℕ) (e : Expr) (deep : ℕ) (vs : List Val) (ys : List Yield) → ValuesAre bs n table vs ys → (Roomy n table → WellFormed table n) → (Roomy n table → tree_of bs (trees_in bs table n) c ≡ e) → (Roomy n table → Earlier n c) → SmallConstruct c → d ≡ min deep 12 → n + 1 ≡ constructs e + total ys → TableIs bs (state (val n p d ∷ vs) (n + 1) (set table n (node p c))) (begun p e deep ∷ ys)
adds bs n table p c d e deep vs ys values formed is earlier small deepness counts =
    let x = node p c in
    let more : Roomy (n + 1) (set table n x) → n < length table = λ r. let q = less_room n table x r in omega arith in
    record {
      values = (
        record {
          place = refl;
          inner = deepness;
          there = λ r. omega arith;
          tree = λ r. new_tree bs n table p c (more r) ∙ ap (tree.at p) (is (less_room n table x r));
        },
        values_stay bs n table x vs ys values,
      );
      counted = counts;
      formed = λ r. formed_more table n p c (more r) (formed (less_room n table x r)) (earlier (less_room n table x r)) small;
    }

-- ---- operands

pub record Operand (bs : List ℕ) (n : ℕ) (table : List Node) (vs : List Val) (ys : List Yield) : Type 0 where
  pub top : ValueIs bs n table (get_or vs 0 (val 0 0 0)) (last ys)
  pub rest : ValuesAre bs n table (drop 1 vs) (drop 1 ys)
  pub counted : total ys ≡ constructs (last ys).tree + total (drop 1 ys)

pub operand_of : (bs : List ℕ) (n : ℕ) (table : List Node) (vs : List Val) (ys : List Yield) → ValuesAre bs n table vs ys → 0 < length ys → Operand bs n table vs ys
operand_of bs n table [] [] h l = absurd (omega arith)
operand_of bs n table [] (y ∷ ys) h l = absurd h
operand_of bs n table (v ∷ vs) [] h l = absurd h
operand_of bs n table (v ∷ vs) (y ∷ ys) h l = record { top = h.0; rest = h.1; counted = refl }

pub record Operands (bs : List ℕ) (n : ℕ) (table : List Node) (vs : List Val) (ys : List Yield) : Type 0 where
  pub top : ValueIs bs n table (get_or vs 0 (val 0 0 0)) (last ys)
  pub under : ValueIs bs n table (get_or vs 1 (val 0 0 0)) (before ys)
  pub rest : ValuesAre bs n table (drop 2 vs) (drop 2 ys)
  pub counted : total ys ≡ constructs (last ys).tree + (constructs (before ys).tree + total (drop 2 ys))

operands_of : (bs : List ℕ) (n : ℕ) (table : List Node) (vs : List Val) (ys : List Yield) → ValuesAre bs n table vs ys → 1 < length ys → Operands bs n table vs ys
operands_of bs n table [] [] h l = absurd (omega arith)
operands_of bs n table [] (y ∷ ys) h l = absurd h
operands_of bs n table (v ∷ vs) [] h l = absurd h
operands_of bs n table (v ∷ []) (y ∷ []) h l = absurd (omega arith)
operands_of bs n table (v ∷ []) (y ∷ z ∷ ys) h l = absurd h.1
operands_of bs n table (v ∷ w ∷ vs) (y ∷ []) h l = absurd h.1
operands_of bs n table (v ∷ w ∷ vs) (y ∷ z ∷ ys) h l = record { top = h.0; under = h.1.0; rest = h.1.1; counted = refl }

-- ---- iterators

iterator_is : (bs : List ℕ) (i : Placing) → PlacingWritten bs i → iterator_of bs (iteration i) ≡ i.iterator
iterator_is bs i h =
    let spelling : List ℕ → Iterator = λ w. record { word = w; axis = i.iterator.axis; range = i.iterator.range } in
    ap spelling h.0

iterators_are : (bs : List ℕ) (is : List Placing) → PlacingsWritten bs is → iterators_of bs (iterations_of is) ≡ iterators is
iterators_are bs [] h = absurd (omega arith)
iterators_are bs (a ∷ []) h = ap (λ x. x ∷ []) (iterator_is bs a h.each.0)
iterators_are bs (a ∷ b ∷ []) h = ap₂ (λ x y. x ∷ y ∷ []) (iterator_is bs a h.each.0) (iterator_is bs b h.each.1.0)
iterators_are bs (a ∷ b ∷ c ∷ []) h = λ j. iterator_is bs a h.each.0 j ∷ iterator_is bs b h.each.1.0 j ∷ iterator_is bs c h.each.1.1.0 j ∷ []
iterators_are bs (a ∷ b ∷ c ∷ d ∷ is) h = absurd (omega arith)

small_one : (bs : List ℕ) (i : Placing) → PlacingWritten bs i → SmallIteration (iteration i)
small_one bs i x = (x.1.0, x.2.1)

small_iterations : (bs : List ℕ) (is : List Placing) → PlacingsWritten bs is → SmallIterations (iterations_of is)
small_iterations bs [] h = absurd (omega arith)
small_iterations bs (a ∷ []) h = (small_one bs a h.each.0, tt)
small_iterations bs (a ∷ b ∷ []) h = (small_one bs a h.each.0, (small_one bs b h.each.1.0, tt))
small_iterations bs (a ∷ b ∷ c ∷ []) h = (small_one bs a h.each.0, (small_one bs b h.each.1.0, (small_one bs c h.each.1.1.0, tt)))
small_iterations bs (a ∷ b ∷ c ∷ d ∷ is) h = absurd (omega arith)

-- ---- actions

-- each action keeps it
pub action_keeps : (bs : List ℕ) (a : Action) (st : St) (ys : List Yield) → Ready bs a (length ys) → TableIs bs st ys → TableIs bs (build a st) (mean a ys)
action_keeps bs (leaf p (number m)) st ys h t = adds bs st.count st.table p (construct.Numeral m) 0 (tree.numeral m) 0 st.vals ys t.values t.formed (λ r. refl) (λ r. tt) h refl (omega arith)
action_keeps bs (leaf p (truth b)) st ys h t = adds bs st.count st.table p (construct.Truth b) 0 (tree.truth b) 0 st.vals ys t.values t.formed (λ r. refl) (λ r. tt) tt refl (omega arith)
action_keeps bs (leaf p (named w)) st ys h t = adds bs st.count st.table p _ 0 (tree.name w) 0 st.vals ys t.values t.formed (λ r. ap (λ x. tree.name x) h) (λ r. tt) tt refl (omega arith)
action_keeps bs (leaf p (iterating w)) st ys h t = adds bs st.count st.table p _ 0 (tree.iterator w) 0 st.vals ys t.values t.formed (λ r. ap (λ x. tree.iterator x) h) (λ r. tt) tt refl (omega arith)
action_keeps bs (prefix p u) st ys h t =
    let o = operand_of bs st.count st.table st.vals ys t.values h in
    adds bs st.count st.table p _ _ (tree.unary u (last ys).tree) (last ys).inner _ (drop 1 ys) o.rest t.formed (λ r. ap (λ x. tree.unary u x) (o.top.tree r)) (λ r. o.top.there r) tt o.top.inner (omega (arith, o.counted, t.counted))
action_keeps bs (apply p Abs) st ys h t =
    let o = operand_of bs st.count st.table st.vals ys t.values h in
    adds bs st.count st.table p _ _ (tree.unary unary.Abs (last ys).tree) ((last ys).inner + 1) _ (drop 1 ys) o.rest t.formed (λ r. ap (λ x. tree.unary unary.Abs x) (o.top.tree r)) (λ r. o.top.there r) tt (omega (arith, o.top.inner)) (omega (arith, o.counted, t.counted))
action_keeps bs (apply p (Over f)) st ys h t =
    let o = operand_of bs st.count st.table st.vals ys t.values h in
    adds bs st.count st.table p _ _ (tree.reduce f (last ys).tree) ((last ys).inner + 1) _ (drop 1 ys) o.rest t.formed (λ r. ap (λ x. tree.reduce f x) (o.top.tree r)) (λ r. o.top.there r) tt (omega (arith, o.top.inner)) (omega (arith, o.counted, t.counted))
action_keeps bs (join f) st ys h t =
    let o = operands_of bs st.count st.table st.vals ys t.values h in
    subst (λ q. TableIs bs (build (join f) st) (begun q (tree.binary f (before ys).tree (last ys).tree) (max (before ys).inner (last ys).inner) ∷ drop 2 ys)) o.under.place
    (adds bs st.count st.table _ _ _ (tree.binary f (before ys).tree (last ys).tree) (max (before ys).inner (last ys).inner) _ (drop 2 ys) o.rest t.formed (λ r. ap₂ (λ x y. tree.binary f x y) (o.under.tree r) (o.top.tree r)) (λ r. (o.under.there r, o.top.there r)) tt (omega (arith, o.under.inner, o.top.inner)) (omega (arith, o.counted, t.counted)))
action_keeps bs (trim g a x) st ys h t =
    let o = operand_of bs st.count st.table st.vals ys t.values h in
    subst (λ q. TableIs bs (build (trim g a x) st) (begun q (tree.trim g a x (last ys).tree) (last ys).inner ∷ drop 1 ys)) o.top.place
    (adds bs st.count st.table _ _ _ (tree.trim g a x (last ys).tree) (last ys).inner _ (drop 1 ys) o.rest t.formed (λ r. ap (λ y. tree.trim g a x y) (o.top.tree r)) (λ r. o.top.there r) tt o.top.inner (omega (arith, o.counted, t.counted)))
action_keeps bs (slice g a) st ys h t =
    let o = operands_of bs st.count st.table st.vals ys t.values h in
    subst (λ q. TableIs bs (build (slice g a) st) (begun q (tree.slice g a (before ys).tree (last ys).tree) (max (before ys).inner ((last ys).inner + 1)) ∷ drop 2 ys)) o.under.place
    (adds bs st.count st.table _ _ _ (tree.slice g a (before ys).tree (last ys).tree) (max (before ys).inner ((last ys).inner + 1)) _ (drop 2 ys) o.rest t.formed (λ r. ap₂ (λ x y. tree.slice g a x y) (o.under.tree r) (o.top.tree r)) (λ r. (o.under.there r, o.top.there r)) tt (omega (arith, o.under.inner, o.top.inner)) (omega (arith, o.counted, t.counted)))
action_keeps bs (condense p f is) st ys h t =
    let o = operand_of bs st.count st.table st.vals ys t.values h.1 in
    adds bs st.count st.table p _ _ (tree.condense f (iterators is) (last ys).tree) ((last ys).inner + 1) _ (drop 1 ys) o.rest t.formed (λ r. ap₂ (λ x y. tree.condense f x y) (iterators_are bs is h.0) (o.top.tree r)) (λ r. o.top.there r) (small_iterations bs is h.0) (omega (arith, o.top.inner)) (omega (arith, o.counted, t.counted))
action_keeps bs (pick p f is) st ys h t =
    let o = operands_of bs st.count st.table st.vals ys t.values h.1 in
    adds bs st.count st.table p _ _ (tree.condense_where f (iterators is) (before ys).tree (last ys).tree) (max (before ys).inner (last ys).inner + 1) _ (drop 2 ys) o.rest t.formed (λ r. λ j. tree.condense_where f (iterators_are bs is h.0 j) (o.under.tree r j) (o.top.tree r j)) (λ r. (o.under.there r, o.top.there r)) (small_iterations bs is h.0) (omega (arith, o.under.inner, o.top.inner)) (omega (arith, o.counted, t.counted))
action_keeps bs (cover p is) st ys h t =
    let o = operand_of bs st.count st.table st.vals ys t.values h.1 in
    adds bs st.count st.table p _ _ (tree.form (iterators is) (last ys).tree) ((last ys).inner + 1) _ (drop 1 ys) o.rest t.formed (λ r. ap₂ (λ x y. tree.form x y) (iterators_are bs is h.0) (o.top.tree r)) (λ r. o.top.there r) (small_iterations bs is h.0) (omega (arith, o.top.inner)) (omega (arith, o.counted, t.counted))
action_keeps bs (wrap p) st ys h t =
    let o = operand_of bs st.count st.table st.vals ys t.values h in
    record {
      values = (record { place = refl; inner = omega (arith, o.top.inner); there = o.top.there; tree = o.top.tree }, o.rest);
      counted = t.counted ∙ o.counted;
      formed = t.formed;
    }

-- how many values are left
one_left : (ys : List Yield) → 0 < length ys → length ys ≡ suc (length (drop 1 ys))
one_left [] h = absurd (omega arith)
one_left (y ∷ ys) h = refl

two_left : (ys : List Yield) → 1 < length ys → fewer (length ys) ≡ suc (length (drop 2 ys))
two_left [] h = absurd (omega arith)
two_left (y ∷ []) h = absurd (omega arith)
two_left (y ∷ z ∷ ys) h = refl

pub length_mean : (bs : List ℕ) (a : Action) (ys : List Yield) → Ready bs a (length ys) → after a (length ys) ≡ length (mean a ys)
length_mean bs (leaf p l) ys h = refl
length_mean bs (prefix p u) ys h = one_left ys h
length_mean bs (apply p f) ys h = one_left ys h
length_mean bs (join o) ys h = two_left ys h
length_mean bs (trim g a r) ys h = one_left ys h
length_mean bs (slice g a) ys h = two_left ys h
length_mean bs (condense p f is) ys h = one_left ys h.1
length_mean bs (pick p f is) ys h = two_left ys h.1
length_mean bs (cover p is) ys h = one_left ys h.1
length_mean bs (wrap p) ys h = one_left ys h
