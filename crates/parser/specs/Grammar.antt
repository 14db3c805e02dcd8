-- The grammar. `Gets x y ts us` says that the tokens ts are an x that yields y, and then us.
use Rattle.std.specs.Prelude.{◌≡◌, ℕ, suc, ◌+◌, Bool, true, false, List, [], ◌∷◌, ◌++◌, ℤ, pos, neg_ℤ, Some, ◌==◌}
use Rattle.coverage.specs.declared.axis.Axis.{Axis}
use Rattle.coverage.specs.declared.range.Range.{Range}
use Rattle.syntax.specs.Tree.{Word, Binding, Query}
use Rattle.syntax.specs.declared.Unary.{Unary}
use Rattle.syntax.specs.declared.Binary.{Binary}
use Rattle.syntax.specs.declared.Fold.{Fold}
use Rattle.lexer.specs.declared.symbol.Symbol.{Symbol}
use Rattle.lexer.specs.declared.symbol.Symbol.TheVariants as the
use Rattle.lexer.specs.Toks.{Placed}
use Rattle.parser.specs.declared.roles.Function.{Function}
use Rattle.parser.specs.declared.roles.Opening.{Opening}
use Rattle.parser.specs.declared.roles.Opening.TheVariants as opening
use Rattle.parser.specs.Axes.{Seen, axis_of, none_seen, holds, marks}
use Rattle.parser.specs.Roles.{is, opening_of, fold_of, join_of, number_of, word_of, variable_of}
use Rattle.parser.specs.Actions.{Placing, placing, bound, spanning}
use Rattle.parser.specs.Actions as leaf
use Rattle.parser.specs.Yields.{Yield, yield_leaf, prefixed, functioned, joined, trimmed, sliced, condensed, picked, covered, wrapped}

-- ---- tokens

-- the token is this symbol
abbrev pub Is : Symbol → Placed → Type 0
Is s t = is s t.0 ≡ true

-- a numeral of this value; a word; a `$` word; the word of an axis
abbrev pub Numeral : ℕ → Placed → Type 0
Numeral n t = number_of t.0 ≡ Some n

abbrev pub Worded : Word → Placed → Type 0
Worded w t = word_of t.0 ≡ Some w

abbrev pub Variable : Word → Placed → Type 0
Variable w t = variable_of t.0 ≡ Some w

abbrev pub OnAxis : Axis → Placed → Type 0
OnAxis a t = axis_of t.0 ≡ Some a

-- a condense form's sign; an operator of a level; what may begin an operand
abbrev pub Sign : Fold → Placed → Type 0
Sign f t = fold_of t.0 ≡ Some f

abbrev pub Joins : ℕ → Binary → Placed → Type 0
Joins n o t = join_of n t.0 ≡ Some o

abbrev pub Opens : Opening → Placed → Type 0
Opens o t = opening_of t.0 ≡ Some o

-- ---- ranges, iterators, bindings

-- an end of a range: a numeral with at most one minus
pub data Limit : ℤ → List Placed → List Placed → Type 0 where
  above : {n : ℕ} {t : Placed} {us : List Placed} → Numeral n t → Limit (pos n) (t ∷ us) us
  below : {n : ℕ} {m t : Placed} {us : List Placed} → Is the.Minus m → Numeral n t → Limit (neg_ℤ (pos n)) (m ∷ t ∷ us) us

-- a range in round brackets: (lo:hi)
pub data Ranged : Range → List Placed → List Placed → Type 0 where
  ranged : {lo hi : ℤ} {o c z : Placed} {ts us vs : List Placed} →
      Is the.Open o → Limit lo ts (c ∷ us) → Is the.Colon c → Limit hi us (z ∷ vs) → Is the.Close z → Ranged (spanning lo hi) (o ∷ ts) vs

-- an iterator: a word, an axis, a range
pub data Iterates : Placing → List Placed → List Placed → Type 0 where
  iterates : {w : Word} {a : Axis} {r : Range} {t x : Placed} {ts us : List Placed} →
      Worded w t → OnAxis a x → Ranged r ts us → Iterates (placing w t.1 a r) (t ∷ x ∷ ts) us

-- a binding: a `$` word, `in`, a coverage's name in round brackets
pub data Binds : Binding → List Placed → List Placed → Type 0 where
  binds : {w v : Word} {t i o n z : Placed} {us : List Placed} →
      Variable w t → Is the.In i → Is the.Open o → Worded v n → Is the.Close z → Binds (bound w t.1 v n.1) (t ∷ i ∷ o ∷ n ∷ z ∷ us) us

-- one to n of a kind, with commas
pub data Listed (A : Type 0) (One : A → List Placed → List Placed → Type 0) : ℕ → List A → List Placed → List Placed → Type 0 where
  one : {n : ℕ} {a : A} {ts us : List Placed} → One a ts us → Listed A One (suc n) (a ∷ []) ts us
  more : {n : ℕ} {a : A} {rest : List A} {c : Placed} {ts us vs : List Placed} →
      One a ts (c ∷ us) → Is the.Comma c → Listed A One n rest us vs → Listed A One (suc n) (a ∷ rest) ts vs

-- ---- expressions

pub data Sort : Type 0 where
  expression : Sort
  -- the levels of a chain: 0 are prefixes, 1 `* /`, 2 `+ -`, 3 comparisons, 4 `and`, 5 `or xor`, 6 `overlay`
  level : ℕ → Sort
  subset : Sort
  primary : Sort
  -- entries of a square bracket, applied to what was read before; axes of earlier entries are marked
  entries : Seen → Yield → Sort
  entry : Seen → Yield → Axis → Sort

pub data Gets : Sort → Yield → List Placed → List Placed → Type 0 where
  -- an expression is a chain, a condense form or a coverage form
  chain : {y : Yield} {ts us : List Placed} → Gets (level 6) y ts us → Gets expression y ts us
  condense : {f : Fold} {is : List Placing} {b : Yield} {c g o u : Placed} {ts us vs : List Placed} →
      Is the.Condense c → Sign f g → Is the.Over o → Listed Placing Iterates 3 is ts (u ∷ us) → Is the.Using u → Gets expression b us vs →
      Gets expression (condensed c.1 f is b) (c ∷ g ∷ o ∷ ts) vs
  condense_where : {f : Fold} {is : List Placing} {a b : Yield} {c g o w u : Placed} {ts us vs ws : List Placed} →
      Is the.Condense c → Sign f g → Is the.Over o → Listed Placing Iterates 3 is ts (w ∷ us) → Is the.Where w → Gets expression a us (u ∷ vs) → Is the.Using u → Gets expression b vs ws →
      Gets expression (picked c.1 f is a b) (c ∷ g ∷ o ∷ ts) ws
  coverage : {n : Word} {is : List Placing} {b : Yield} {c w o v : Placed} {ts us vs : List Placed} →
      Is the.Coverage c → Worded n w → Is the.Over o → Listed Placing Iterates 3 is ts (v ∷ us) → Is the.Values v → Gets expression b us vs →
      Gets expression (covered c.1 is b) (c ∷ w ∷ o ∷ ts) vs
  -- a level groups from the left; of comparisons there is at most one
  tighter : {n : ℕ} {y : Yield} {ts us : List Placed} → Gets (level n) y ts us → Gets (level (suc n)) y ts us
  joins : {n : ℕ} {o : Binary} {a b : Yield} {t : Placed} {ts us vs : List Placed} →
      (n == 2) ≡ false → Gets (level (suc n)) a ts (t ∷ us) → Joins n o t → Gets (level n) b us vs → Gets (level (suc n)) (joined o a b) ts vs
  compares : {o : Binary} {a b : Yield} {t : Placed} {ts us vs : List Placed} →
      Gets (level 2) a ts (t ∷ us) → Joins 2 o t → Gets (level 2) b us vs → Gets (level 3) (joined o a b) ts vs
  prefix : {u : Unary} {y : Yield} {t : Placed} {ts us : List Placed} →
      Opens (opening.Prefix u) t → Gets (level 0) y ts us → Gets (level 0) (prefixed t.1 u y) (t ∷ ts) us
  plain : {y : Yield} {ts us : List Placed} → Gets subset y ts us → Gets (level 0) y ts us
  -- subsets follow a primary: square brackets with one or more entries
  whole : {y : Yield} {ts us : List Placed} → Gets primary y ts us → Gets subset y ts us
  bracket : {a b : Yield} {t z : Placed} {ts us vs : List Placed} →
      Gets subset a ts (t ∷ us) → Is the.OpenSquare t → Gets (entries none_seen a) b us (z ∷ vs) → Is the.CloseSquare z → Gets subset b ts vs
  -- primaries
  number : {n : ℕ} {t : Placed} {us : List Placed} → Numeral n t → Gets primary (yield_leaf t.1 (leaf.number n)) (t ∷ us) us
  truth : {b : Bool} {t : Placed} {us : List Placed} → Opens (opening.Truth b) t → Gets primary (yield_leaf t.1 (leaf.truth b)) (t ∷ us) us
  name : {w : Word} {t : Placed} {us : List Placed} → Variable w t → Gets primary (yield_leaf t.1 (leaf.named w)) (t ∷ us) us
  iterator : {w : Word} {t : Placed} {us : List Placed} → Worded w t → Gets primary (yield_leaf t.1 (leaf.iterating w)) (t ∷ us) us
  round : {y : Yield} {t z : Placed} {ts us : List Placed} →
      Opens opening.Round t → Gets expression y ts (z ∷ us) → Is the.Close z → Gets primary (wrapped t.1 y) (t ∷ ts) us
  function : {f : Function} {y : Yield} {t o z : Placed} {ts us : List Placed} →
      Opens (opening.Function f) t → Is the.Open o → Gets expression y ts (z ∷ us) → Is the.Close z → Gets primary (functioned t.1 f y) (t ∷ o ∷ ts) us
  -- entries apply left to right: an axis with a range, or with an expression
  last_entry : {s : Seen} {a b : Yield} {x : Axis} {ts us : List Placed} → Gets (entry s a x) b ts us → Gets (entries s a) b ts us
  more_entries : {s : Seen} {a b d : Yield} {x : Axis} {c : Placed} {ts us vs : List Placed} →
      Gets (entry s a x) b ts (c ∷ us) → Is the.Comma c → Gets (entries (marks s x) b) d us vs → Gets (entries s a) d ts vs
  trim : {s : Seen} {a : Yield} {x : Axis} {r : Range} {t : Placed} {ts us : List Placed} →
      OnAxis x t → Ranged r ts us → Gets (entry s a x) (trimmed (holds s x) x r a) (t ∷ ts) us
  slice : {s : Seen} {a b : Yield} {x : Axis} {t o z : Placed} {ts us : List Placed} →
      OnAxis x t → Is the.Open o → Gets expression b ts (z ∷ us) → Is the.Close z → Gets (entry s a x) (sliced (holds s x) x a b) (t ∷ o ∷ ts) us

-- ---- queries

-- `for`, one to four bindings, `return encode (`, an expression, `, "rows" )`. Its tree, and how deep
-- expressions stand in it: the outermost is 1 deep
pub data Derives : Query → ℕ → List Placed → Type 0 where
  query : {bs : List Binding} {y : Yield} {f r e o c w z : Placed} {ts us : List Placed} →
      Is the.For f → Listed Binding Binds 4 bs ts (r ∷ e ∷ o ∷ us) → Is the.Return r → Is the.Encode e → Is the.Open o →
      Gets expression y us (c ∷ w ∷ z ∷ []) → Is the.Comma c → Is the.Rows w → Is the.Close z →
      Derives (record { bindings = bs; body = y.tree }) (y.inner + 1) (f ∷ ts)

-- the grammar admits these tokens
abbrev pub Admits : List Placed → Type 0
Admits ts = (q : Query) × (d : ℕ) × Derives q d ts

-- some query begins with these tokens
abbrev pub Begins : List Placed → Type 0
Begins ts = (us : List Placed) × Admits (ts ++ us)
