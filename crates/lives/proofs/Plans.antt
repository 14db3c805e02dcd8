-- A plan holds the query of the text that was last accepted into it.
use Rattle.std.proofs.Common.{◌≡◌, ℕ, Bool, true, false, cond, eqb, List, ◌∷◌, Some, None, Ok, Err, Option, Result, sym, refl, ap, ◌∙◌, subst, eqb-true}
use Rattle.coverage.specs.declared.refusal.Layer.TheVariants as layer
use Rattle.shelf.specs.Meaning.{Coverage}
use Rattle.syntax.specs.Tree.{Query}
use Rattle.parser.specs.declared.fault.TextFault.{TextFault}
use Rattle.language.specs.Typing.{Described}
use Rattle.language.specs.Queries.{Announced, checked}
use Rattle.parser.specs.Says.{text_says}
use Rattle.lives.specs.Shelves.{describes}
use Rattle.lives.specs.Unit.{Standing, State, SwitchedOn, is_plan, no_plan}
use Rattle.lives.specs.Calls.{Call, strip, look, check, run, Step, announces, check_says, filled, after_check}
use Rattle.lives.specs.Life.{Life, begins, goes_on, Checked, last_check}
use Rattle.lives.specs.Theorem.{PlanHolds}
use Rattle.lives.proofs.Steps.{ok_err, check_refused, step_grows, life_lawful}

-- an accepted check: there is such a plan, the text says a query, and the query is announced so
record Accepts (m : List Coverage) (p : ℕ) (text : List ℕ) (a : Announced) : Type 0 where
  query : Query
  inside : is_plan p ≡ true
  says : text_says text ≡ Ok query
  announced : checked (describes m) query ≡ Ok a

accepts : (m : List Coverage) (p : ℕ) (text : List ℕ) (a : Announced) → Ok a ≡ check_says m p text → Accepts m p text a
accepts m p text a h = go (is_plan p) refl (text_says text) refl h
  where
    go : (b : Bool) → is_plan p ≡ b → (x : Result Query TextFault) → text_says text ≡ x → Ok a ≡ cond b (announces m x) (Err (no_plan layer.Check p)) → Accepts m p text a
    go true e (Ok q) f h = record { query = q; inside = e; says = f; announced = sym h }
    go true e (Err g) f h = ok_err h
    go false e x f h = ok_err h

-- the plan by itself, whether or not there is such a plan
record Held (s : State) (p : ℕ) (c : Checked) : Type 0 where
  query : Query
  inside : is_plan p ≡ true
  says : text_says c.text ≡ Ok query
  there : s.plans p ≡ Some (record { query = query; announced = c.announced })
  accepted : checked (describes s.shelf) query ≡ Ok c.announced

abbrev Kept : State → ℕ → Option Checked → Type 0
Kept s p None = s.plans p ≡ None
Kept s p (Some c) = Held s p c

-- what leaves the plan and all descriptions leaves what stands there
kept_same : (s u : State) (p : ℕ) (o : Option Checked) → u.plans p ≡ s.plans p → describes u.shelf ≡ describes s.shelf → Kept s p o → Kept u p o
kept_same s u p None plan about h = plan ∙ h
kept_same s u p (Some c) plan about h = record {
  query = h.query;
  inside = h.inside;
  says = h.says;
  there = plan ∙ h.there;
  accepted = ap (λ (d : Described). checked d h.query) about ∙ h.accepted;
}

-- the state after an accepted check
abbrev after : State → ℕ → Query → Announced → State
after s p q a = record { shelf = s.shelf; plans = filled s.plans p (record { query = q; announced = a }) }

check_kept : (s u : State) (p q : ℕ) (text : List ℕ) (a : Announced) (o : Option Checked) → Step s (check q text (Ok a)) u → Kept s p o → Kept u p (cond (eqb q p) (Some (record { text = text; announced = a })) o)
check_kept s u p q text a o h k =
    let i = accepts s.shelf q text a h.0 in
    let e : u ≡ after s q i.query a = h.1 ∙ ap (λ (x : Result Query TextFault). after_check s q x (Ok a)) i.says in
    subst (λ (x : State). Kept x p (cond (eqb q p) (Some (record { text = text; announced = a })) o)) (sym e) (go i (eqb q p) refl)
  where
    go : (i : Accepts s.shelf q text a) (b : Bool) → eqb q p ≡ b → Kept (after s q i.query a) p (cond b (Some (record { text = text; announced = a })) o)
    go i true f =
        let put : Option Standing = Some (record { query = i.query; announced = a }) in
        record {
          query = i.query;
          inside = subst (λ (n : ℕ). is_plan n ≡ true) (eqb-true _ _ f) i.inside;
          says = i.says;
          there = ap (λ (b : Bool). cond b put (s.plans p)) f;
          accepted = i.announced;
        }
    go i false f =
        let put : Option Standing = Some (record { query = i.query; announced = a }) in
        kept_same s (after s q i.query a) p o (ap (λ (b : Bool). cond b put (s.plans p)) f) refl k

module _ (first : State) (on : SwitchedOn first) (p : ℕ) where
  step_kept : (s u : State) (call : Call) (past : List Call) → Step s call u → describes u.shelf ≡ describes s.shelf → Kept s p (last_check p past) → Kept u p (last_check p (call ∷ past))
  step_kept s u (strip c n cs r) past h d k = kept_same s u p (last_check p past) (ap (λ (x : State). x.plans p) h.1) d k
  step_kept s u (look c x r) past h d k = kept_same s u p (last_check p past) (ap (λ (x : State). x.plans p) h.1) d k
  step_kept s u (check q text (Ok a)) past h d k = check_kept s u p q text a (last_check p past) h k
  step_kept s u (check q text (Err f)) past h d k = kept_same s u p (last_check p past) (ap (λ (x : State). x.plans p) (h.1 ∙ check_refused s q f (text_says text))) d k
  step_kept s u (run q before r after) past h d k = kept_same s u p (last_check p past) (ap (λ (x : State). x.plans p) h.2) d k

  kept : {past : List Call} {now : State} → Life first past now → Kept now p (last_check p past)
  kept begins = on.all_plans_empty p
  kept (goes_on {past} {before} {after} call l h) = step_kept before after call past h (step_grows before after call h (life_lawful first on l)).described (kept l)

empty_plan : (b : Bool) (o : Option Standing) → o ≡ None → cond b o None ≡ None
empty_plan true o e = e
empty_plan false o e = refl

holds : (s : State) (p : ℕ) (o : Option Checked) → Kept s p o → PlanHolds s p o
holds s p None k = empty_plan (is_plan p) (s.plans p) k
holds s p (Some c) k = record {
  query = k.query;
  the_text_says_it = k.says;
  stands_in_the_plan = ap (λ (b : Bool). cond b (s.plans p) None) k.inside ∙ k.there;
  accepted_for_this_shelf = k.accepted;
}

pub plans_hold : (first : State) → SwitchedOn first → (past : List Call) (now : State) → Life first past now → (p : ℕ) → PlanHolds now p (last_check p past)
plans_hold first on past now l p = holds now p (last_check p past) (kept first on p l)
