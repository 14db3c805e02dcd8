-- The levels of a chain: which of them takes an operator.
use Rattle.std.proofs.Common.{◌≡◌, ℕ, zero, suc, ◌+◌, ◌<◌, ◌≤◌, Bool, true, false, cond, eqb, ltb, List, ◌∷◌, ◌++◌, Some, None, Option, sym, refl, ap, ◌∙◌, subst, arith}
use Rattle.std.proofs.lemmas.Bool.{eqb-true, eqb-false, ltb-true, ltb-false, lt-ltb, le-ltb}
use Rattle.lexer.specs.Tokens.{Tok}
use Rattle.parser.specs.declared.roles.Operator.{Operator}
use Rattle.parser.specs.Roles.{operator_of, of_level, join_of, between}
use Rattle.parser.specs.Actions.{Action, join}
use Rattle.parser.specs.Machine.{Item, Moved, moved, either, pops, finish, operand, ladder, again, acts}

pub finish_ladder : {S : Type 0} (act : Action → S → S) (k n : ℕ) (s : List Item) (st : S) (q : ℕ) → finish act (ladder k n ++ s) st q ≡ finish act s st q
finish_ladder act zero n s st q = refl
finish_ladder act (suc k) n s st q = finish_ladder act k (suc n) s st q

-- no level takes the token
pub passes_over : {S : Type 0} (act : Action → S → S) (k n : ℕ) (s : List Item) (st : S) (t : Tok) (p : ℕ) → ((m : ℕ) → n ≤ m → m < n + k → join_of m t ≡ None) → pops act (ladder k n ++ s) st t p ≡ pops act s st t p
passes_over act zero n s st t p h = refl
passes_over act (suc k) n s st t p h =
    (λ i. either (h n (omega arith) (omega arith) i) (λ o. moved (operand ∷ (ladder n 0 ++ (acts (join o) ∷ again n (ladder k (suc n) ++ s)))) st) (pops act (ladder k (suc n) ++ s) st t p))
    ∙ passes_over act k (suc n) s st t p (λ m a b. h m (omega arith) (omega arith))

-- the operator's level takes it; j levels are left above
abbrev pub Climbed : {S : Type 0} → Operator → ℕ → List Item → S → Moved S
Climbed o j s st = moved (operand ∷ (ladder o.level 0 ++ (acts (join o.binary) ∷ again o.level (ladder j (suc o.level) ++ s)))) st

here : {S : Type 0} (act : Action → S → S) (k n : ℕ) (s : List Item) (st : S) (o : Operator) (j : ℕ) → o.level ≡ n → j ≡ k → moved (operand ∷ (ladder n 0 ++ (acts (join o.binary) ∷ again n (ladder k (suc n) ++ s)))) st ≡ Climbed o j s st
here act k n s st o j e f = λ i. moved (operand ∷ (ladder (sym e i) 0 ++ (acts (join o.binary) ∷ again (sym e i) (ladder (sym f i) (suc (sym e i)) ++ s)))) st

climb_step : {S : Type 0} (act : Action → S → S) (k n : ℕ) (s : List Item) (st : S) (t : Tok) (p : ℕ) (o : Operator) (j : ℕ) → operator_of t ≡ Some o → n ≤ o.level → suc o.level + j ≡ n + suc k → (suc n ≤ o.level → suc o.level + j ≡ suc n + k → pops act (ladder k (suc n) ++ s) st t p ≡ Climbed o j s st) → (b : Bool) → eqb o.level n ≡ b → pops act (ladder (suc k) n ++ s) st t p ≡ Climbed o j s st
climb_step act k n s st t p o j e h f rec true q =
    let l : o.level ≡ n = eqb-true o.level n q in
    let g : join_of n t ≡ Some o.binary = ap (of_level n) e ∙ (λ i. cond (q i) (Some o.binary) None) in
    (λ i. either (g i) (λ b. moved (operand ∷ (ladder n 0 ++ (acts (join b) ∷ again n (ladder k (suc n) ++ s)))) st) (pops act (ladder k (suc n) ++ s) st t p))
    ∙ here act k n s st o j l (omega arith)
climb_step act k n s st t p o j e h f rec false q =
    let l : n < o.level = omega (arith, eqb-false o.level n q) in
    let g : join_of n t ≡ None = ap (of_level n) e ∙ (λ i. cond (q i) (Some o.binary) None) in
    (λ i. either (g i) (λ b. moved (operand ∷ (ladder n 0 ++ (acts (join b) ∷ again n (ladder k (suc n) ++ s)))) st) (pops act (ladder k (suc n) ++ s) st t p))
    ∙ rec (omega arith) (omega arith)

pub climbs : {S : Type 0} (act : Action → S → S) (k n : ℕ) (s : List Item) (st : S) (t : Tok) (p : ℕ) (o : Operator) (j : ℕ) → operator_of t ≡ Some o → n ≤ o.level → suc o.level + j ≡ n + k → pops act (ladder k n ++ s) st t p ≡ Climbed o j s st
climbs act zero n s st t p o j e h f = absurd (omega arith)
climbs act (suc k) n s st t p o j e h f = climb_step act k n s st t p o j e h f (λ a b. climbs act k (suc n) s st t p o j e a b) (eqb o.level n) refl

-- what `between` finds
pub found_between : (n m : ℕ) (x : Option Operator) (o : Operator) → between n m x ≡ Some o → (x ≡ Some o) × (n ≤ o.level) × (o.level < m)
found_between n m None o e = cc
found_between n m (Some u) o e = cases (ltb u.level n) (ltb u.level m) refl refl
  where
    cases : (a b : Bool) → ltb u.level n ≡ a → ltb u.level m ≡ b → (Some u ≡ Some o) × (n ≤ o.level) × (o.level < m)
    cases true b q r = let f : None ≡ Some o = sym (λ i. cond (q i) None (cond (ltb u.level m) (Some u) None)) ∙ e in cc
    cases false true q r =
        let f : Some u ≡ Some o = sym (λ i. cond (q i) None (cond (r i) (Some u) None)) ∙ e in
        let w : u ≡ o = cc in
        (f, subst (λ (v : Operator). n ≤ v.level) w (ltb-false u.level n q), subst (λ (v : Operator). v.level < m) w (ltb-true u.level m r))
    cases false false q r = let f : None ≡ Some o = sym (λ i. cond (q i) None (cond (r i) (Some u) None)) ∙ e in cc

pub none_between : (n m : ℕ) (x : Option Operator) → between n m x ≡ None → (l : ℕ) → n ≤ l → l < m → of_level l x ≡ None
none_between n m None e l a b = refl
none_between n m (Some u) e l a b = cases (eqb u.level l) refl
  where
    cases : (c : Bool) → eqb u.level l ≡ c → of_level l (Some u) ≡ None
    cases true q =
        let w : u.level ≡ l = eqb-true u.level l q in
        let x : ltb u.level n ≡ false = le-ltb u.level n (omega arith) in
        let y : ltb u.level m ≡ true = lt-ltb u.level m (omega arith) in
        let f : Some u ≡ None = sym (λ i. cond (x i) None (cond (y i) (Some u) None)) ∙ e in
        cc
    cases false q = λ i. cond (q i) (Some u.binary) None
