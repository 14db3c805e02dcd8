-- The theorem of lives.
use Rattle.std.proofs.Common.{◌≡◌, ℕ, ◌≤◌, List, [], ◌∷◌, ◌++◌, length, ℤ, Some, None, Ok, Option, Result, sym, refl, ap, ◌∙◌, subst}
use Rattle.coverage.specs.declared.refusal.Refusal.{Refusal}
use Rattle.coverage.specs.Axes.{Coordinates, Inside}
use Rattle.lives.specs.Unit.{Standing, State, SwitchedOn, standing, cells_of}
use Rattle.lives.specs.Entries.{entry}
use Rattle.lives.specs.Calls.{Areas, Answered, AreasAfter, Call, run, Step, answered, run_says}
use Rattle.lives.specs.Life.{Life, begins, goes_on, Led, Checked, Stands, last_check}
use Rattle.lives.specs.Theorem.{HoldsItsText, PlanHolds, RightlyAnswered, LongEnough, entry_at, AnsweredEarlier, EveryLifeKeepsItsPromises, EveryRunKeepsItsPromises}
use Rattle.lives.proofs.Edits.{none_some}
use Rattle.lives.proofs.Shelves.{Grows, grows_on}
use Rattle.lives.proofs.Steps.{step_grows, life_lawful, since, last_step, refused_changes_nothing}
use Rattle.lives.proofs.Plans.{plans_hold}
use Rattle.lives.proofs.Contents.{first_content_with_strips, accepted_once}
use Rattle.lives.proofs.Answers.{right, run_accepted, Ran, run_was, stays_known}

module _ (first : State) (on : SwitchedOn first) (past : List Call) (now : State) (life : Life first past now) where
  holds : (p : ℕ) (c : Checked) → Stands p c past → HoldsItsText now p c
  holds p c st = subst (PlanHolds now p) st (plans_hold first on past now life p)

  -- a run of what stands, with areas long enough, is accepted
  accepted : (p : ℕ) (c : Checked) (before : Areas) (d : HoldsItsText now p c) → LongEnough c before →
      run_says now.shelf p (standing now p) before ≡ Ok (answered now.shelf (record { query = d.query; announced = c.announced }))
  accepted p c before d long =
      let q : Standing = record { query = d.query; announced = c.announced } in
      ap (λ (o : Option Standing). run_says now.shelf p o before) d.stands_in_the_plan ∙ run_accepted now.shelf p q before long.work long.answer

  -- what it wrote is right
  rightly : (p : ℕ) (c : Checked) (before after : Areas) (n : Answered) (d : HoldsItsText now p c) → LongEnough c before →
      n ≡ answered now.shelf (record { query = d.query; announced = c.announced }) → AreasAfter now.shelf (standing now p) before (Ok n) after →
      RightlyAnswered now.shelf c before n after
  rightly p c before after n d long is written =
      let q : Standing = record { query = d.query; announced = c.announced } in
      let w = subst (λ (o : Option Standing). AreasAfter now.shelf o before (Ok n) after) d.stands_in_the_plan written in
      subst (λ (k : Answered). RightlyAnswered now.shelf c before k after) (sym is)
      (right now.shelf (life_lawful first on life) c d.query d.the_text_says_it d.accepted_for_this_shelf before after long.answer w)

  module _ (p : ℕ) (before after : Areas) (r : Result Answered Refusal) (then : State) (h : Step now (run p before r after) then) where
    standing_answered : (c : Checked) → Stands p c past → LongEnough c before → (n : Answered) × (r ≡ Ok n) × RightlyAnswered now.shelf c before n after
    standing_answered c st long =
        let d = holds p c st in
        let n = answered now.shelf (record { query = d.query; announced = c.announced }) in
        let is : r ≡ Ok n = h.0 ∙ accepted p c before d long in
        (n, is, rightly p c before after n d long refl (subst (λ (x : Result Answered Refusal). AreasAfter now.shelf (standing now p) before x after) is h.1))

    had_standing : (n : Answered) → r ≡ Ok n → (c : Checked) × Stands p c past × LongEnough c before × RightlyAnswered now.shelf c before n after
    had_standing n is = go (last_check p past) refl (plans_hold first on past now life p)
      where
        w : Ran now.shelf (standing now p) before n
        w = run_was now.shelf p (standing now p) before n (sym is ∙ h.0)

        go : (o : Option Checked) → last_check p past ≡ o → PlanHolds now p o → (c : Checked) × Stands p c past × LongEnough c before × RightlyAnswered now.shelf c before n after
        go None e d = none_some (sym d ∙ w.there)
        go (Some c) e d =
            let q : Standing = record { query = d.query; announced = c.announced } in
            let same : w.query ≡ q = let a = w.there in let b = d.stands_in_the_plan in cc in
            let long : LongEnough c before = record { work = w.work; answer = subst (λ (x : Standing). cells_of x ≤ length before.answer) same w.room } in
            (c, e, long, rightly p c before after n d long (w.told ∙ ap (answered now.shelf) same) (subst (λ (x : Result Answered Refusal). AreasAfter now.shelf (standing now p) before x after) is h.1))

    -- to the text that stands
    right_to : (n : Answered) → r ≡ Ok n → (c : Checked) → Stands p c past → RightlyAnswered now.shelf c before n after
    right_to n is c st =
        let a = had_standing n is in
        let same : a.0 ≡ c = let x = a.1 in let y = st in cc in
        subst (λ (k : Checked). RightlyAnswered now.shelf k before n after) same a.3

never_changes : (first : State) → SwitchedOn first → (past : List Call) (now : State) → Life first past now →
    (p : ℕ) (before after : Areas) (r : Result Answered Refusal) (then : State) → Step now (run p before r after) then →
    (n : Answered) → r ≡ Ok n → (c : Checked) → Stands p c past → (x : Coordinates) (v : ℤ) → AnsweredEarlier past c.text x v →
    Inside c.announced.extents x × (entry_at c.announced.extents after x ≡ Some (entry (Some v)))
never_changes first on past now life p before after r then h n is c st x v e =
    let one = run e.plan e.before (Ok e.told) e.after in
    let b = since first on e.newer (one ∷ e.older) now (subst (λ (l : List Call). Life first l now) e.among_the_calls life) in
    let a = last_step first on one e.older b.then b.life in
    let t = a.0 in
    let law = life_lawful first on a.1 in
    let c₁ : Checked = record { text = c.text; announced = e.announced } in
    let grown : Grows t.shelf now.shelf = grows_on t.shelf b.then.shelf now.shelf (step_grows t b.then one a.2 law) b.grown in
    let old = right_to first on e.older t a.1 e.plan e.before e.after (Ok e.told) b.then a.2 e.told refl c₁ e.the_text_stood in
    let new = right_to first on past now life p before after r then h n is c st in
    stays_known t.shelf now.shelf law grown c₁ c e.before e.after before after e.told n old new refl x v e.inside e.value_there

pub every_life_keeps_its_promises_lem : EveryLifeKeepsItsPromises
every_life_keeps_its_promises_lem first on past now life = record {
  shelf_lawful = life_lawful first on life;
  shelf_is_first_content_with_accepted_strips = first_content_with_strips first on past now life;
  no_strip_is_accepted_twice = accepted_once first on past now life;
  plans_hold_what_was_last_accepted = plans_hold first on past now life;
  each_run_keeps_its_promises = λ p before after r then h. record {
    standing_query_is_answered = standing_answered first on past now life p before after r then h;
    accepted_run_had_a_standing_query = had_standing first on past now life p before after r then h;
    known_cells_never_change = never_changes first on past now life p before after r then h;
  };
  refused_call_changes_nothing = λ call then h e. refused_changes_nothing now then call h e;
}

pub every_run_keeps_its_promises_lem : EveryRunKeepsItsPromises
every_run_keeps_its_promises_lem now then p before after r h first on past life = (every_life_keeps_its_promises_lem first on past now life).each_run_keeps_its_promises p before after r then h

-- ---- lives go on

pub led_on : (first now then : State) (call : Call) → Led first now → Step now call then → Led first then
led_on first now then call l h = (call ∷ l.0, goes_on call l.1 h)

pub joined : (first middle now : State) (older newer : List Call) → Life first older middle → Life middle newer now → Life first (newer ++ older) now
joined first middle now older [] l begins = l
joined first middle now older (c ∷ newer) l (goes_on {before = t} call k h) = goes_on c (joined first middle t older newer l k) h

pub led_through : (first middle now : State) → Led first middle → Led middle now → Led first now
led_through first middle now l k = (k.0 ++ l.0, joined first middle now l.0 k.0 l.1 k.1)
