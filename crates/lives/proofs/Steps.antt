-- What one step does to the shelf, and what a refused one leaves.
use Rattle.std.proofs.Common.{◌≡◌, ℕ, true, List, [], ◌∷◌, ◌++◌, ℤ, Some, None, Ok, Err, Option, Result, sym, refl, ap, ◌∙◌, subst, arith}
use borrow.Author.Tests.{clash}
use Rattle.coverage.specs.declared.refusal.Refusal.{Refusal}
use Rattle.shelf.specs.declared.fault.ShelfFault.{ShelfFault}
use Rattle.shelf.specs.Faults.{shelf_refusal}
use Rattle.shelf.specs.Meaning.{Coverage, after_of, answer_of, strip_fault}
use Rattle.shelf.specs.Laws.{Lawful}
use Rattle.syntax.specs.Tree.{Query}
use Rattle.parser.specs.declared.fault.TextFault.{TextFault}
use Rattle.language.specs.Queries.{Announced}
use Rattle.parser.specs.Says.{text_says}
use Rattle.lives.specs.Unit.{Standing, State, SwitchedOn, standing}
use Rattle.lives.specs.Calls.{Areas, Call, strip, look, check, run, Step, after_check, AreasAfter, retold}
use Rattle.lives.specs.Life.{Life, begins, goes_on, is_refused, AreasStay}
use Rattle.lives.proofs.Shelves.{Grows, grows_same, grows_on, strip_grows}

pub ok_err : {V F B : Type 0} {v : V} {f : F} → ◌≡◌ {A = Result V F} (Ok v) (Err f) → B
ok_err e = let z : ◌≡◌ {A = ℕ} 0 1 = cc in absurd (omega arith)

-- ---- the shelf grows

pub check_shelf : (s : State) (p : ℕ) (x : Result Query TextFault) (r : Result Announced Refusal) → (after_check s p x r).shelf ≡ s.shelf
check_shelf s p (Ok q) (Ok a) = refl
check_shelf s p (Ok q) (Err f) = refl
check_shelf s p (Err f) r = refl

shelf_same : (s u : State) → Lawful s.shelf → u.shelf ≡ s.shelf → Grows s.shelf u.shelf
shelf_same s u law e = subst (λ (m : List Coverage). Grows s.shelf m) (sym e) (grows_same s.shelf law)

pub step_grows : (s u : State) (call : Call) → Step s call u → Lawful s.shelf → Grows s.shelf u.shelf
step_grows s u (strip c n cs r) h law = subst (λ (x : State). Grows s.shelf x.shelf) (sym h.1) (strip_grows s.shelf law c n cs)
step_grows s u (look c p r) h law = shelf_same s u law (ap (λ (x : State). x.shelf) h.1)
step_grows s u (check p text r) h law = shelf_same s u law (ap (λ (x : State). x.shelf) h.1 ∙ check_shelf s p (text_says text) r)
step_grows s u (run p before r after) h law = shelf_same s u law (ap (λ (x : State). x.shelf) h.2)

module _ (first : State) (on : SwitchedOn first) where
  pub life_lawful : {past : List Call} {now : State} → Life first past now → Lawful now.shelf
  life_lawful begins = on.shelf_lawful
  life_lawful (goes_on {past} {before} {after} call l h) = (step_grows before after call h (life_lawful l)).lawful

  -- a life up to an earlier time, and the shelf since
  pub record Since (old : List Call) (now : State) : Type 0 where
    pub then : State
    pub life : Life first old then
    pub grown : Grows then.shelf now.shelf

  pub since : (newer old : List Call) (now : State) → Life first (newer ++ old) now → Since old now
  since [] old now l = record { then = now; life = l; grown = grows_same now.shelf (life_lawful l) }
  since (c ∷ newer) old now (goes_on {before = t} call l h) =
      let i = since newer old t l in
      record { then = i.then; life = i.life; grown = grows_on i.then.shelf t.shelf now.shelf i.grown (step_grows t now c h (life_lawful l)) }

  pub last_step : (call : Call) (past : List Call) (now : State) → Life first (call ∷ past) now → (t : State) × Life first past t × Step t call now
  last_step call past now (goes_on {before = t} c l h) = (t, l, h)

-- ---- refused calls

-- a refused strip leaves the shelf
pub strip_refused_lem : (s : State) (c n : ℕ) (cs : List ℤ) (f : Refusal) (o : Option ShelfFault) → Err f ≡ retold shelf_refusal (answer_of o) → after_of o s.shelf c n cs ≡ s.shelf
strip_refused_lem s c n cs f None e = ok_err (sym e)
strip_refused_lem s c n cs f (Some g) e = refl

pub check_refused : (s : State) (p : ℕ) (f : Refusal) (x : Result Query TextFault) → after_check s p x (Err f) ≡ s
check_refused s p f (Ok q) = refl
check_refused s p f (Err g) = refl

areas_stay : (m : List Coverage) (o : Option Standing) (before after : Areas) (f : Refusal) → AreasAfter m o before (Err f) after → after ≡ before
areas_stay m None before after f h = h
areas_stay m (Some q) before after f h = h

pub refused_changes_nothing : (s u : State) (call : Call) → Step s call u → is_refused call ≡ true → (u ≡ s) × AreasStay call
refused_changes_nothing s u (strip c n cs (Ok v)) h e = absurd (clash e)
refused_changes_nothing s u (strip c n cs (Err f)) h e =
    let state : List Coverage → State = λ m. record { shelf = m; plans = s.plans } in
    (h.1 ∙ ap state (strip_refused_lem s c n cs f (strip_fault s.shelf c n cs) h.0), tt)
refused_changes_nothing s u (look c p (Ok v)) h e = absurd (clash e)
refused_changes_nothing s u (look c p (Err f)) h e = (h.1, tt)
refused_changes_nothing s u (check p text (Ok v)) h e = absurd (clash e)
refused_changes_nothing s u (check p text (Err f)) h e = (h.1 ∙ check_refused s p f (text_says text), tt)
refused_changes_nothing s u (run p before (Ok v) after) h e = absurd (clash e)
refused_changes_nothing s u (run p before (Err f) after) h e = (h.2, areas_stay s.shelf (standing s p) before after f h.1)
