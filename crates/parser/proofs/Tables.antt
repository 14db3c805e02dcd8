-- The trees of a table's nodes, one by one.
use Rattle.std.proofs.Common.{◌≡◌, ℕ, ◌+◌, ◌<◌, ◌≤◌, List, [], ◌∷◌, ◌++◌, length, take, drop, sym, refl, ap, ◌∙◌, ap₂, arith, length-append, length-take}
use Rattle.std.proofs.lemmas.List.{get_or_append_left, get_or_push, take_more, take-take, take-append-drop}
use Rattle.syntax.specs.Tree.{Expr}
use Rattle.syntax.specs.Tree as tree
use Rattle.parser.specs.declared.node.Construct.{Construct}
use Rattle.parser.specs.declared.node.Construct.TheVariants as construct
use Rattle.parser.specs.declared.node.Node.{Node}
use Rattle.parser.specs.Tables.{iterators_of, tree_at, tree_of, trees, node_at, trees_in, tree_in, Earlier}

-- the tree that a node adds after the trees es
abbrev pub grown : List ℕ → List Expr → Node → Expr
grown bs es n = tree.at n.place (tree_of bs es n.construct)

pub trees_append : (bs : List ℕ) (es : List Expr) (ns ms : List Node) → trees bs es (ns ++ ms) ≡ trees bs (trees bs es ns) ms
trees_append bs es [] ms = refl
trees_append bs es (n ∷ ns) ms = trees_append bs (es ++ (grown bs es n ∷ [])) ns ms

pub length_trees : (bs : List ℕ) (es : List Expr) (ns : List Node) → length (trees bs es ns) ≡ length es + length ns
length_trees bs es [] = omega arith
length_trees bs es (n ∷ ns) = length_trees bs (es ++ (grown bs es n ∷ [])) ns ∙ (let e = length-append es (grown bs es n ∷ []) in omega arith)

-- the trees that are there stay
pub trees_keep : (bs : List ℕ) (es : List Expr) (ns : List Node) (k : ℕ) → k < length es → tree_at (trees bs es ns) k ≡ tree_at es k
trees_keep bs es [] k h = refl
trees_keep bs es (n ∷ ns) k h =
    let e = length-append es (grown bs es n ∷ []) in
    trees_keep bs (es ++ (grown bs es n ∷ [])) ns k (omega arith) ∙ get_or_append_left es (grown bs es n ∷ []) (tree.numeral 0) k h

-- as many trees as nodes
pub length_trees_in : (bs : List ℕ) (table : List Node) (n : ℕ) → n ≤ length table → length (trees_in bs table n) ≡ n
length_trees_in bs table n h = length_trees bs [] (take n table) ∙ (let e = length-take n table in omega arith)

-- one more node, one more tree
pub trees_in_more : (bs : List ℕ) (table : List Node) (k : ℕ) → k < length table → trees_in bs table (k + 1) ≡ trees_in bs table k ++ (grown bs (trees_in bs table k) (node_at table k) ∷ [])
trees_in_more bs table k h =
    ap (trees bs []) (take_more table k (record { place = 0; construct = construct.Numeral 0 }) h) ∙ trees_append bs [] (take k table) (node_at table k ∷ [])

-- a tree is the same among more trees
pub tree_stays : (bs : List ℕ) (table : List Node) (m n : ℕ) → m ≤ n → n ≤ length table → (k : ℕ) → k < m → tree_in bs table n k ≡ tree_in bs table m k
tree_stays bs table m n l h k lt =
    let split : take n table ≡ take m table ++ drop m (take n table) = sym (take-append-drop m (take n table)) ∙ ap (λ x. x ++ drop m (take n table)) (take-take m n table l) in
    let long = length_trees_in bs table m (omega arith) in
    ap (λ x. tree_at (trees bs [] x) k) split
    ∙ (ap (λ x. tree_at x k) (trees_append bs [] (take m table) (drop m (take n table)))
    ∙ trees_keep bs (trees_in bs table m) (drop m (take n table)) k (omega arith))

-- a construct is made of its operands' trees alone
pub tree_of_same : (bs : List ℕ) (es fs : List Expr) (k : ℕ) (c : Construct) → Earlier k c → ((a : ℕ) → a < k → tree_at es a ≡ tree_at fs a) → tree_of bs es c ≡ tree_of bs fs c
tree_of_same bs es fs k (construct.Numeral n) h same = refl
tree_of_same bs es fs k (construct.Truth b) h same = refl
tree_of_same bs es fs k (construct.Name w) h same = refl
tree_of_same bs es fs k (construct.Iterator w) h same = refl
tree_of_same bs es fs k (construct.Unary u a) h same = ap (λ x. tree.unary u x) (same a h)
tree_of_same bs es fs k (construct.Reduce r a) h same = ap (λ x. tree.reduce r x) (same a h)
tree_of_same bs es fs k (construct.Binary o a b) h same = ap₂ (λ x y. tree.binary o x y) (same a h.0) (same b h.1)
tree_of_same bs es fs k (construct.Trim g x r a) h same = ap (λ z. tree.trim g x r z) (same a h)
tree_of_same bs es fs k (construct.Slice g x a b) h same = ap₂ (λ y z. tree.slice g x y z) (same a h.0) (same b h.1)
tree_of_same bs es fs k (construct.Condense f is a) h same = ap (λ z. tree.condense f (iterators_of bs is) z) (same a h)
tree_of_same bs es fs k (construct.CondenseWhere f is a b) h same = ap₂ (λ y z. tree.condense_where f (iterators_of bs is) y z) (same a h.0) (same b h.1)
tree_of_same bs es fs k (construct.Form is a) h same = ap (λ z. tree.form (iterators_of bs is) z) (same a h)

-- a node's tree by its operands
pub tree_at_lem : (bs : List ℕ) (table : List Node) (n : ℕ) → n ≤ length table → (k : ℕ) → k < n → Earlier k (node_at table k).construct → tree_in bs table n k ≡ tree.at (node_at table k).place (tree_of bs (trees_in bs table n) (node_at table k).construct)
tree_at_lem bs table n h k lt earlier =
    let x = node_at table k in
    tree_stays bs table (k + 1) n (omega arith) h k (omega arith)
    ∙ (ap (λ es. tree_at es k) (trees_in_more bs table k (omega arith))
    ∙ (get_or_push (trees_in bs table k) (grown bs (trees_in bs table k) x) (tree.numeral 0) k (length_trees_in bs table k (omega arith))
    ∙ ap (tree.at x.place) (tree_of_same bs (trees_in bs table k) (trees_in bs table n) k x.construct earlier (λ a l. sym (tree_stays bs table k n (omega arith) h a l)))))
