-- The shelf at each step is its first content with the accepted strips.
use Rattle.std.proofs.Common.{◌≡◌, ℕ, zero, suc, ◌≤◌, Bool, true, false, cond, ◌&&◌, eqb, List, [], ◌∷◌, length, get_or, ℤ, pos, is_some, Some, None, Ok, Err, Option, Result, sym, refl, ap, ◌∙◌, subst, arith, eq-eqb, eqb-true}
use borrow.Author.Tests.{clash}
use Rattle.std.specs.Option.{option_map}
use Rattle.std.specs.List.{slice_get}
use Rattle.std.proofs.lemmas.Option.{slice_get_past}
use Rattle.coverage.specs.declared.axis.Axis.TheVariants.{X}
use Rattle.coverage.specs.declared.description.Description.{Description}
use Rattle.coverage.specs.declared.refusal.Refusal.{Refusal}
use Rattle.coverage.specs.Axes.{Coordinates, Extents, Inside, extents, inside_b, step_of}
use Rattle.coverage.specs.Strips.{strip_at, strip_first}
use Rattle.coverage.proofs.Points.{inside_test}
use Rattle.shelf.specs.declared.fault.ShelfFault.{ShelfFault}
use Rattle.shelf.specs.declared.fault.ShelfFault.TheVariants.{Outside}
use Rattle.shelf.specs.Faults.{shelf_refusal}
use Rattle.shelf.specs.Meaning.{Coverage, after_of, answer_of, cell_at, domain_of, edited, look_answer, looked, put_strip, strip_fault, strip_refused}
use Rattle.shelf.specs.Laws.{Lawful}
use Rattle.parser.specs.Says.{text_says}
use Rattle.lives.specs.Unit.{State, SwitchedOn}
use Rattle.lives.specs.Calls.{Call, strip, look, check, run, Step, retold}
use Rattle.lives.specs.Life.{Life, begins, goes_on, strip_in, is_refused, refused_result}
use Rattle.lives.specs.Theorem.{FirstContentWithStrips, covered}
use Rattle.lives.proofs.Edits.{none_some, edited_here, edited_there, edited_long}
use Rattle.lives.proofs.Strips.{put_cell, first_of}
use Rattle.lives.proofs.Shelves.{strip_taken}
use Rattle.lives.proofs.Steps.{ok_err, check_shelf, life_lawful, strip_refused_lem}

-- coverage k as it is after these calls, where it has the number c
record Now (k : Coverage) (c : ℕ) (past : List Call) (now : List Coverage) : Type 0 where
  coverage : Coverage
  there : slice_get now c ≡ Some coverage
  about : coverage.about ≡ k.about
  cells : (p : Coordinates) → Inside (domain_of k) p → cell_at coverage p ≡ covered (strip_in c (strip_at (domain_of k) p) past) (step_of (domain_of k X) (p X)) (cell_at k p)

-- ---- an accepted strip

strip_accepted : (o : Option ShelfFault) (v : Unit {0}) → Ok v ≡ retold shelf_refusal (answer_of o) → o ≡ None
strip_accepted None v e = refl
strip_accepted (Some f) v e = ok_err e

covered_here : (b : Bool) (cs : List ℤ) (o : Option (List ℤ)) (i : ℕ) (was first : Option ℤ) → was ≡ covered o i first → cond b (Some (get_or cs i (pos 0))) was ≡ covered (cond b (Some cs) o) i first
covered_here true cs o i was first e = refl
covered_here false cs o i was first e = e

module _ (m : List Coverage) (law : Lawful m) (d n : ℕ) (cs : List ℤ) (v : Unit {0}) (j : Coverage) (at : slice_get m d ≡ Some j) (free : strip_refused j d n cs ≡ None) where
  put_here : (k : Coverage) (c : ℕ) (past : List Call) → d ≡ c → Now k c past m → Now k c (strip d n cs (Ok v) ∷ past) (edited m d (λ i. put_strip i n cs))
  put_here k c past same w =
      let q : j ≡ w.coverage = let a = at in let b = w.there in let e : slice_get m d ≡ slice_get m c = ap (slice_get m) same in cc in
      let about : j.about ≡ k.about = ap (λ (x : Coverage). x.about) q ∙ w.about in
      let domain : domain_of j ≡ domain_of k = ap (λ (a : Description). extents a.domain) about in
      record {
        coverage = put_strip j n cs;
        there = ap (slice_get (edited m d (λ i. put_strip i n cs))) (sym same) ∙ edited_here m d (λ i. put_strip i n cs) j at;
        about = about;
        cells = λ p inside.
            put_cell j d n cs (law.each d j at) free p (subst (λ (e : Extents). Inside e p) (sym domain) inside)
            ∙ (ap (λ (e : Extents). cond (eqb n (strip_at e p)) (Some (get_or cs (step_of (e X) (p X)) (pos 0))) (cell_at j p)) domain
            ∙ (covered_here (eqb n (strip_at (domain_of k) p)) cs (strip_in c (strip_at (domain_of k) p) past) (step_of (domain_of k X) (p X)) (cell_at j p) (cell_at k p) (ap (λ (x : Coverage). cell_at x p) q ∙ w.cells p inside)
            ∙ ap (λ (b : Bool). covered (cond (b && eqb n (strip_at (domain_of k) p)) (Some cs) (strip_in c (strip_at (domain_of k) p) past)) (step_of (domain_of k X) (p X)) (cell_at k p)) (sym (eq-eqb _ _ same))));
      }

  put_there : (k : Coverage) (c : ℕ) (past : List Call) → eqb d c ≡ false → Now k c past m → Now k c (strip d n cs (Ok v) ∷ past) (edited m d (λ i. put_strip i n cs))
  put_there k c past other w = record {
    coverage = w.coverage;
    there = edited_there m d c (λ i. put_strip i n cs) (λ e. clash (sym other ∙ eq-eqb _ _ e)) ∙ w.there;
    about = w.about;
    cells = λ p inside.
        w.cells p inside
        ∙ ap (λ (b : Bool). covered (cond (b && eqb n (strip_at (domain_of k) p)) (Some cs) (strip_in c (strip_at (domain_of k) p) past)) (step_of (domain_of k X) (p X)) (cell_at k p)) (sym other);
  }

  put_now : (k : Coverage) (c : ℕ) (past : List Call) → Now k c past m → Now k c (strip d n cs (Ok v) ∷ past) (edited m d (λ i. put_strip i n cs))
  put_now k c past w = go (eqb d c) refl
    where
      go : (b : Bool) → eqb d c ≡ b → Now k c (strip d n cs (Ok v) ∷ past) (edited m d (λ i. put_strip i n cs))
      go true e = put_here k c past (eqb-true _ _ e) w
      go false e = put_there k c past e w

-- ---- every step

-- what leaves the shelf, and is no accepted strip, leaves each coverage as it was
same_now : (k : Coverage) (c : ℕ) (past : List Call) (call : Call) (m u : List Coverage) → ((n : ℕ) → strip_in c n (call ∷ past) ≡ strip_in c n past) → u ≡ m → Now k c past m → Now k c (call ∷ past) u
same_now k c past call m u e same w = record {
  coverage = w.coverage;
  there = ap (λ (z : List Coverage). slice_get z c) same ∙ w.there;
  about = w.about;
  cells = λ p inside. w.cells p inside ∙ ap (λ (o : Option (List ℤ)). covered o (step_of (domain_of k X) (p X)) (cell_at k p)) (sym (e (strip_at (domain_of k) p)));
}

module _ (k : Coverage) (c : ℕ) where
  strip_now : (s u : State) (d n : ℕ) (cs : List ℤ) (v : Unit {0}) (past : List Call) → Lawful s.shelf → Step s (strip d n cs (Ok v)) u → Now k c past s.shelf → Now k c (strip d n cs (Ok v) ∷ past) u.shelf
  strip_now s u d n cs v past law h w =
      let f = strip_accepted (strip_fault s.shelf d n cs) v h.0 in
      let t = strip_taken (slice_get s.shelf d) d n cs f in
      let e : u.shelf ≡ edited s.shelf d (λ i. put_strip i n cs) = ap (λ (x : State). x.shelf) h.1 ∙ ap (λ (o : Option ShelfFault). after_of o s.shelf d n cs) f in
      subst (λ (z : List Coverage). Now k c (strip d n cs (Ok v) ∷ past) z) (sym e) (put_now s.shelf law d n cs v t.0 t.1 t.2 k c past w)

  step_now : (s u : State) (call : Call) (past : List Call) → Lawful s.shelf → Step s call u → Now k c past s.shelf → Now k c (call ∷ past) u.shelf
  step_now s u (strip d n cs (Ok v)) past law h w = strip_now s u d n cs v past law h w
  step_now s u (strip d n cs (Err f)) past law h w =
      same_now k c past (strip d n cs (Err f)) s.shelf u.shelf (λ n. refl) (ap (λ (x : State). x.shelf) h.1 ∙ strip_refused_lem s d n cs f (strip_fault s.shelf d n cs) h.0) w
  step_now s u (look d p r) past law h w = same_now k c past (look d p r) s.shelf u.shelf (λ n. refl) (ap (λ (x : State). x.shelf) h.1) w
  step_now s u (check p text r) past law h w =
      same_now k c past (check p text r) s.shelf u.shelf (λ n. refl) (ap (λ (x : State). x.shelf) h.1 ∙ check_shelf s p (text_says text) r) w
  step_now s u (run p before r after) past law h w = same_now k c past (run p before r after) s.shelf u.shelf (λ n. refl) (ap (λ (x : State). x.shelf) h.2) w

  now_at : (first : State) → SwitchedOn first → slice_get first.shelf c ≡ Some k → {past : List Call} {now : State} → Life first past now → Now k c past now.shelf
  now_at first on there begins = record { coverage = k; there = there; about = refl; cells = λ p i. refl }
  now_at first on there (goes_on {past} {before} {after} call l h) = step_now before after call past (life_lawful first on l) h (now_at first on there l)

-- ---- how many coverages there are

after_long : (o : Option ShelfFault) (m : List Coverage) (d n : ℕ) (cs : List ℤ) → length (after_of o m d n cs) ≡ length m
after_long None m d n cs = edited_long m d (λ k. put_strip k n cs)
after_long (Some f) m d n cs = refl

step_long : (s u : State) (call : Call) → Step s call u → length u.shelf ≡ length s.shelf
step_long s u (strip d n cs r) h = ap (λ (x : State). length x.shelf) h.1 ∙ after_long (strip_fault s.shelf d n cs) s.shelf d n cs
step_long s u (look d p r) h = ap (λ (x : State). length x.shelf) h.1
step_long s u (check p text r) h = ap (λ (x : State). length x.shelf) h.1 ∙ ap length (check_shelf s p (text_says text) r)
step_long s u (run p before r after) h = ap (λ (x : State). length x.shelf) h.2

life_long : {first : State} {past : List Call} {now : State} → Life first past now → length now.shelf ≡ length first.shelf
life_long begins = refl
life_long (goes_on {past} {before} {after} call l h) = step_long before after call h ∙ life_long l

none_past : (m : List Coverage) (c : ℕ) → slice_get m c ≡ None → length m ≤ c
none_past [] c e = omega arith
none_past (k ∷ m) zero e = none_some (sym e)
none_past (k ∷ m) (suc c) e = let h = none_past m c e in omega arith

-- ---- the statement

look_now : (now : List Coverage) (c : ℕ) (p : Coordinates) (k : Coverage) → slice_get now c ≡ Some k → inside_b (domain_of k) p ≡ true → look_answer now c p ≡ Ok (cell_at k p)
look_now now c p k there inside =
    let cell : Result (Option ℤ) ShelfFault = Ok (cell_at k p) in
    ap (λ (o : Option Coverage). looked o c p) there ∙ ap (λ (b : Bool). cond b cell (Err (Outside c))) inside

pub first_content_with_strips : (first : State) → SwitchedOn first → (past : List Call) (now : State) → Life first past now → FirstContentWithStrips first.shelf past now.shelf
first_content_with_strips first on past now l = record {
  as_many_coverages = life_long l;
  descriptions_stay = λ c. go c (slice_get first.shelf c) refl;
  each_cell = λ c k there p inside.
      let w = now_at k c first on there l in
      let d : domain_of w.coverage ≡ domain_of k = ap (λ (a : Description). extents a.domain) w.about in
      look_now now.shelf c p w.coverage w.there (ap (λ (e : Extents). inside_b e p) d ∙ inside_test (domain_of k) p inside)
      ∙ ap (λ (o : Option ℤ). Ok o) (w.cells p inside);
}
  where
    past_end : (c : ℕ) → slice_get first.shelf c ≡ None → slice_get now.shelf c ≡ None
    past_end c e = slice_get_past now.shelf c (let h = none_past first.shelf c e in let k = life_long l in let z : length now.shelf ≤ c = omega arith in z)

    go : (c : ℕ) (o : Option Coverage) → slice_get first.shelf c ≡ o → option_map (λ (k : Coverage). k.about) (slice_get now.shelf c) ≡ option_map (λ (k : Coverage). k.about) o
    go c None e = ap (option_map (λ (k : Coverage). k.about)) (past_end c e)
    go c (Some k) e = let w = now_at k c first on e l in ap (option_map (λ (k : Coverage). k.about)) w.there ∙ ap (λ (a : Description). Some a) w.about

-- ---- a strip that was accepted is there

taken_once : (first : State) → SwitchedOn first → (past : List Call) (now : State) → Life first past now → (c n : ℕ) (cs again : List ℤ) → strip_in c n past ≡ Some cs → strip_fault now.shelf c n again ≡ None → ⊥
taken_once first on past now l c n cs again came free = go (slice_get first.shelf c) refl
  where
    t : (k : Coverage) × (slice_get now.shelf c ≡ Some k) × (strip_refused k c n again ≡ None)
    t = strip_taken (slice_get now.shelf c) c n again free

    go : (o : Option Coverage) → slice_get first.shelf c ≡ o → ⊥
    go None e = none_some (sym (slice_get_past now.shelf c (let h = none_past first.shelf c e in let k = life_long l in let z : length now.shelf ≤ c = omega arith in z)) ∙ t.1)
    go (Some k) e =
        let w = now_at k c first on e l in
        let law = (life_lawful first on l).each c t.0 t.1 in
        let j : w.coverage ≡ t.0 = let a = w.there in let b = t.1 in cc in
        let d : domain_of t.0 ≡ domain_of k = ap (λ (x : Coverage). domain_of x) (sym j) ∙ ap (λ (a : Description). extents a.domain) w.about in
        let f = first_of t.0 c n again law t.2 in
        let x = strip_first (domain_of t.0) n in
        let inside : Inside (domain_of k) x = subst (λ (y : Extents). Inside y x) d f.0 in
        let number : strip_at (domain_of k) x ≡ n = ap (λ (y : Extents). strip_at y x) (sym d) ∙ f.1 in
        let known : cell_at t.0 x ≡ Some (get_or cs (step_of (domain_of k X) (x X)) (pos 0)) =
        ap (λ (y : Coverage). cell_at y x) (sym j) ∙ (w.cells x inside ∙ ap (λ (o : Option (List ℤ)). covered o (step_of (domain_of k X) (x X)) (cell_at k x)) (ap (λ (i : ℕ). strip_in c i past) number ∙ came)) in
        clash (sym f.2 ∙ ap is_some known)

accepted_none : (o : Option ShelfFault) → ((o ≡ None) → ⊥) → refused_result (retold shelf_refusal (answer_of o)) ≡ true
accepted_none None h = absurd (h refl)
accepted_none (Some f) h = refl

pub accepted_once : (first : State) → SwitchedOn first → (past : List Call) (now : State) → Life first past now → (c n : ℕ) (cs again : List ℤ) → strip_in c n past ≡ Some cs →
    (r : Result (Unit {0}) Refusal) (then : State) → Step now (strip c n again r) then → is_refused (strip c n again r) ≡ true
accepted_once first on past now l c n cs again came r then h =
    ap (λ (x : Result (Unit {0}) Refusal). refused_result x) h.0 ∙ accepted_none (strip_fault now.shelf c n again) (taken_once first on past now l c n cs again came)
