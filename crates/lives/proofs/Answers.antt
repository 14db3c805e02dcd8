-- An accepted run of a query that the rules accept is rightly answered.
use Rattle.std.proofs.Common.{◌≡◌, ℕ, zero, suc, ◌<◌, ◌≤◌, Bool, true, false, cond, ltb, List, [], ◌∷◌, ◌++◌, map, length, take, drop, ℤ, Some, None, Ok, Err, Option, sym, refl, ap, ◌∙◌, subst, arith, length-append, length-drop, ltb-false, le-ltb}
use borrow.Author.Tests.{clash}
use lib.ListN.{length-map}
use Rattle.std.proofs.lemmas.List.{drop_at, take_at}
use Rattle.std.specs.Option.{option_map}
use Rattle.std.specs.List.{slice_get}
use Rattle.coverage.specs.Axes.{Coordinates, Extents, Inside, cells, number_at, origin, point_at}
use Rattle.coverage.specs.Kinds.{Within}
use Rattle.coverage.proofs.Numbers.{number_below}
use Rattle.shelf.specs.Meaning.{Coverage}
use Rattle.shelf.specs.Laws.{Lawful}
use Rattle.syntax.specs.Tree.{Query}
use Rattle.language.specs.Typing.{Described}
use Rattle.language.specs.Queries.{Announced, answer, bind_about, bind_looks, cell_at, checked, query_domain}
use Rattle.language.proofs.Theorems.{query_accepted, values_lie_in_their_span, reads_stay_within_the_promise_lem, known_cells_never_change_lem, answers_depend_only_on_cells_inside_lem}
use Rattle.language.proofs.Shelves.{bind_sound, bind_alike}
use Rattle.language.proofs.Answered.{answers_hold_their_cells}
use Rattle.lives.specs.declared.cell.Cell.{Cell}
use Rattle.parser.specs.Says.{text_says}
use Rattle.lives.specs.Shelves.{describes, looks}
use Rattle.lives.specs.Unit.{Standing, cells_of, too_short}
use Rattle.lives.specs.Entries.{entry}
use Rattle.lives.specs.Calls.{Areas, Answered, Written, answered, run_says, work_needed}
use Rattle.lives.specs.Life.{Checked}
use Rattle.lives.specs.Theorem.{RightlyAnswered, entry_at, value_from}
use Rattle.lives.proofs.Points.{point_agrees}
use Rattle.lives.proofs.Shelves.{Grows, sound, looks_alike}
use Rattle.lives.proofs.Steps.{ok_err}

nth_left : {A : Type 0} (xs ys : List A) (n : ℕ) → n < length xs → slice_get (xs ++ ys) n ≡ slice_get xs n
nth_left [] ys n h = absurd (omega arith)
nth_left (x ∷ xs) ys zero h = refl
nth_left (x ∷ xs) ys (suc n) h = nth_left xs ys n (omega arith)

nth_map : {A B : Type 0} (f : A → B) (xs : List A) (n : ℕ) → slice_get (map f xs) n ≡ option_map f (slice_get xs n)
nth_map f [] n = refl
nth_map f (x ∷ xs) zero = refl
nth_map f (x ∷ xs) (suc n) = nth_map f xs n

-- ---- the value at a point is the cell of its number

module _ (m : List Coverage) (law : Lawful m) (q : Query) (a : Announced) (accepted : checked (describes m) q ≡ Ok a) where
  domain_is : query_domain (describes m) q ≡ a.extents
  domain_is = ap (λ (t : Announced). t.extents) (query_accepted (describes m) q a accepted).told

  number_is : (p : Coordinates) → Inside (query_domain (describes m) q) p → value_from m q p ≡ cell_at (describes m) (looks m) q (number_at (query_domain (describes m) q) p)
  number_is p inside =
      let d = query_domain (describes m) q in
      (answers_depend_only_on_cells_inside_lem.at_a_point
      (bind_about q.bindings (describes m)) (bind_looks q.bindings (looks m)) (bind_looks q.bindings (looks m))
      (bind_sound q.bindings (describes m) (looks m) (sound m law)) (bind_alike q.bindings (describes m) (looks m) (looks m) (looks_alike m law))
      0 q.body (query_accepted (describes m) q a accepted).body p (point_at d (number_at d p) origin) inside (point_agrees d p inside)).0

  pub value_is : (p : Coordinates) → Inside a.extents p → value_from m q p ≡ cell_at (describes m) (looks m) q (number_at a.extents p)
  value_is = subst (λ (d : Extents). (p : Coordinates) → Inside d p → value_from m q p ≡ cell_at (describes m) (looks m) q (number_at d p)) domain_is number_is

  list_long : length (map entry (answer (describes m) (looks m) q)) ≡ cells a.extents
  list_long = length-map (answer (describes m) (looks m) q) entry ∙ (answers_hold_their_cells.as_many (describes m) (looks m) q ∙ ap cells domain_is)

  list_at : (n : ℕ) → n < cells a.extents → slice_get (map entry (answer (describes m) (looks m) q)) n ≡ Some (entry (cell_at (describes m) (looks m) q n))
  list_at n h =
      nth_map entry (answer (describes m) (looks m) q) n
      ∙ ap (option_map entry) (answers_hold_their_cells.each_in_place (describes m) (looks m) q n (subst (λ (d : Extents). n < cells d) (sym domain_is) h))

-- ---- what an accepted run writes

module _ (m : List Coverage) (law : Lawful m) (c : Checked) (q : Query) (says : text_says c.text ≡ Ok q) (accepted : checked (describes m) q ≡ Ok c.announced) where
  pub right : (before after : Areas) → cells c.announced.extents ≤ length before.answer → Written m (record { query = q; announced = c.announced }) before after →
      RightlyAnswered m c before (answered m (record { query = q; announced = c.announced })) after
  right before after room w =
      let t = c.announced in
      let l = list_long m law q t accepted in
      let rest = drop (cells t.extents) before.answer in
      let cs = map entry (answer (describes m) (looks m) q) in
      record {
        query = q;
        the_text_says_it = says;
        accepted_for_this_shelf = accepted;
        as_many_cells = refl;
        cells_in_order = ap (take (cells t.extents)) w.cells_then_rest ∙ take_at cs rest (cells t.extents) l;
        each_cell_as_defined = λ p i.
            let n = number_at t.extents p in
            let lt = number_below t.extents p i in
            let lt' : n < length cs = omega arith in
            ap (λ (z : List Cell). slice_get z n) w.cells_then_rest
            ∙ (nth_left cs rest n lt'
            ∙ (list_at m law q t accepted n lt
            ∙ ap (λ (o : Option ℤ). Some (entry o)) (sym (value_is m law q t accepted p i))));
        null_or_of_the_announced_kind = λ p i.
            subst (Within t.kind) (sym (value_is m law q t accepted p i)) (values_lie_in_their_span (describes m) (looks m) (sound m law) q t accepted (number_at t.extents p));
        later_entries_stay = ap (drop (cells t.extents)) w.cells_then_rest ∙ drop_at cs rest (cells t.extents) l;
        area_as_long = ap length w.cells_then_rest ∙ (length-append cs rest ∙ (let k = length-drop (cells t.extents) before.answer in omega arith));
        reads_as_defined = refl;
        reads_within_the_promise = reads_stay_within_the_promise_lem.of_an_answer (describes m) (looks m) q t accepted;
      }

-- ---- which runs are accepted

pub run_accepted : (m : List Coverage) (p : ℕ) (q : Standing) (areas : Areas) → work_needed ≤ length areas.work → cells_of q ≤ length areas.answer → run_says m p (Some q) areas ≡ Ok (answered m q)
run_accepted m p q areas w a = go (ltb (length areas.work) work_needed) (le-ltb _ _ w) (ltb (length areas.answer) (cells_of q)) (le-ltb _ _ a)
  where
    go : (b : Bool) → b ≡ false → (d : Bool) → d ≡ false → cond b (Err (too_short work_needed)) (cond d (Err (too_short (cells_of q))) (Ok (answered m q))) ≡ Ok (answered m q)
    go b e d f = rw (e, f)

pub record Ran (m : List Coverage) (o : Option Standing) (areas : Areas) (n : Answered) : Type 0 where
  pub query : Standing
  pub there : o ≡ Some query
  pub work : work_needed ≤ length areas.work
  pub room : cells_of query ≤ length areas.answer
  pub told : n ≡ answered m query

pub run_was : (m : List Coverage) (p : ℕ) (o : Option Standing) (areas : Areas) (n : Answered) → Ok n ≡ run_says m p o areas → Ran m o areas n
run_was m p None areas n h = ok_err h
run_was m p (Some q) areas n h = go (ltb (length areas.work) work_needed) refl (ltb (length areas.answer) (cells_of q)) refl h
  where
    go : (b : Bool) → ltb (length areas.work) work_needed ≡ b → (d : Bool) → ltb (length areas.answer) (cells_of q) ≡ d →
        Ok n ≡ cond b (Err (too_short work_needed)) (cond d (Err (too_short (cells_of q))) (Ok (answered m q))) → Ran m (Some q) areas n
    go true e d f h = ok_err h
    go false e true f h = ok_err h
    go false e false f h = record { query = q; there = refl; work = ltb-false _ _ e; room = ltb-false _ _ f; told = let z : n ≡ answered m q = cc in z }

-- ---- known cells

entry_known : (o : Option ℤ) (v : ℤ) → ◌≡◌ {A = Option Cell} (Some (entry o)) (Some (entry (Some v))) → o ≡ Some v
entry_known None v e = let s : entry None ≡ entry (Some v) = cc in absurd (clash (ap (λ (x : Cell). x.known) s))
entry_known (Some w) v e = let s : entry (Some w) ≡ entry (Some v) = cc in ap (λ (x : Cell). Some x.value) s

module _ (m later : List Coverage) (law : Lawful m) (grown : Grows m later) (c₁ c : Checked) (before₁ after₁ before after : Areas) (n₁ n : Answered)
    (old : RightlyAnswered m c₁ before₁ n₁ after₁) (new : RightlyAnswered later c before n after) (texts : c₁.text ≡ c.text) where
  same_query : old.query ≡ new.query
  same_query = let a = old.the_text_says_it in let b = new.the_text_says_it in let e : text_says c₁.text ≡ text_says c.text = ap text_says texts in cc

  now_accepted : checked (describes m) old.query ≡ Ok c.announced
  now_accepted = ap (checked (describes m)) same_query ∙ (ap (λ (d : Described). checked d new.query) (sym grown.described) ∙ new.accepted_for_this_shelf)

  same_announced : c₁.announced ≡ c.announced
  same_announced = let a = old.accepted_for_this_shelf in let b = now_accepted in cc

  pub stays_known : (x : Coordinates) (v : ℤ) → Inside c₁.announced.extents x → entry_at c₁.announced.extents after₁ x ≡ Some (entry (Some v)) →
      Inside c.announced.extents x × (entry_at c.announced.extents after x ≡ Some (entry (Some v)))
  stays_known x v inside is =
      let i : Inside c.announced.extents x = subst (λ (a : Announced). Inside a.extents x) same_announced inside in
      let k = number_at c.announced.extents x in
      let was : value_from m old.query x ≡ Some v = entry_known (value_from m old.query x) v (sym (old.each_cell_as_defined x inside) ∙ is) in
      let cell : cell_at (describes m) (looks m) old.query k ≡ Some v = sym (value_is m law old.query c.announced now_accepted x i) ∙ was in
      let stays : cell_at (describes m) (looks later) old.query k ≡ Some v =
      known_cells_never_change_lem (describes m) (looks m) (looks later) (sound m law) grown.known old.query c.announced now_accepted k v cell in
      let there : cell_at (describes later) (looks later) new.query k ≡ Some v =
      ap (λ (d : Described). cell_at d (looks later) new.query k) grown.described ∙ (ap (λ (q : Query). cell_at (describes m) (looks later) q k) (sym same_query) ∙ stays) in
      (i, new.each_cell_as_defined x i ∙ ap (λ (o : Option ℤ). Some (entry o)) (value_is later grown.lawful new.query c.announced new.accepted_for_this_shelf x i ∙ there))
