-- The calls of a window, by those of the shelf below.
use Rattle.std.proofs.Common.{◌≡◌, ℕ, zero, suc, ◌<◌, ◌≤◌, Bool, true, false, cond, ◌&&◌, eqb, ltb, List, [], ◌∷◌, length, ℤ, Some, None, Ok, Err, Option, Result, sym, refl, ap, ◌∙◌, subst, ap₂, arith, le-ltb, lt-ltb}
use Rattle.std.specs.List.{slice_get}
use mir.Val.{bool_byte}
use Rattle.std.specs.Result.{is_ok, result_ok, MatchResult}
use Rattle.coverage.specs.declared.axis.Axis.TheVariants.{X}
use Rattle.coverage.specs.Axes.{Coordinates, inside_b, size_of}
use Rattle.coverage.specs.Strips.{row_width, strips}
use Rattle.shelf.specs.declared.fault.ShelfFault.{ShelfFault}
use Rattle.shelf.specs.declared.fault.ShelfFault.TheVariants.{AlreadyThere, Fixed, NoCoverage, NoStrip, Outside, Unfit}
use Rattle.shelf.specs.declared.fault.MakingFault.{MakingFault}
use Rattle.shelf.specs.declared.fault.MakingFault.TheVariants.{OutOfBounds}
use Rattle.shelf.specs.Faults.{told}
use Rattle.shelf.specs.Meaning.{Coverage, after_of, all_fit, answer_of, cell_at, describe_answer, described, domain_of, edited, fault_at, first, look_answer, looked, put_strip, strip_after, strip_answer, strip_fault, strip_there}
use Rattle.shelf.specs.Laws.{LawfulCoverage}
use Rattle.shelf.proofs.Numbers.{answer_told, tests_told, told_fault}
use Rattle.shelf.proofs.Single.{refused_is}
use Rattle.shelf_laws.specs.declared.cut.Cut.{Cut}
use Rattle.shelf_laws.specs.declared.cut.View.{View}
use Rattle.shelf_laws.specs.Window.{cut_fits, fault_on, seen, seen_on, seen_under, strip_below, view_on, window_meaning}
use Rattle.shelf_laws.proofs.Makings.{answer_by}
use Rattle.shelf_laws.proofs.Windows.{seen_below, seen_cell, seen_inside, seen_put, seen_there, x_uncut}

-- ---- what a view tells

-- a view that is shown is of a coverage that the cut fits
pub record Viewed (m : List Coverage) (c : ℕ) (cut : Cut) (v : View) : Type 0 where
  pub below : Coverage
  pub there : slice_get m c ≡ Some below
  pub fits : cut_fits (domain_of below) cut ≡ true
  pub whole : v.whole ≡ below.about.domain
  pub about : v.about ≡ (seen below cut).about

viewed_if : (m : List Coverage) (c : ℕ) (cut : Cut) (v : View) (k : Coverage) → slice_get m c ≡ Some k → (b : Bool) → cut_fits (domain_of k) cut ≡ b →
    Ok v ≡ cond b (Ok (record { whole = k.about.domain; about = (seen k cut).about })) (Err OutOfBounds) → Viewed m c cut v
viewed_if m c cut v k e true f h = record { below = k; there = e; fits = f; whole = cc; about = cc }
viewed_if m c cut v k e false f h = cc

viewed_on : (m : List Coverage) (c : ℕ) (cut : Cut) (v : View) (o : Option Coverage) → slice_get m c ≡ o → Ok v ≡ view_on o c cut → Viewed m c cut v
viewed_on m c cut v None e h = cc
viewed_on m c cut v (Some k) e h = viewed_if m c cut v k e (cut_fits (domain_of k) cut) refl h

pub viewed : (m : List Coverage) (c : ℕ) (cut : Cut) (v : View) → Ok v ≡ view_on (slice_get m c) c cut → Viewed m c cut v
viewed m c cut v h = viewed_on m c cut v (slice_get m c) refl h

-- where none is shown the window has no coverage
hidden_if : (k : Coverage) (cut : Cut) (f : MakingFault) (v : View) (b : Bool) → cut_fits (domain_of k) cut ≡ b → Err f ≡ cond b (Ok v) (Err OutOfBounds) → cond (cut_fits (domain_of k) cut) (seen k cut ∷ []) [] ≡ []
hidden_if k cut f v true e h = cc
hidden_if k cut f v false e h = ap (λ b. cond b (seen k cut ∷ []) []) e

hidden_on : (o : Option Coverage) (c : ℕ) (cut : Cut) (f : MakingFault) → Err f ≡ view_on o c cut → seen_on o cut ≡ []
hidden_on None c cut f h = refl
hidden_on (Some k) c cut f h = hidden_if k cut f _ (cut_fits (domain_of k) cut) refl h

pub hidden : (m : List Coverage) (c : ℕ) (cut : Cut) (f : MakingFault) → Err f ≡ view_on (slice_get m c) c cut → window_meaning m c cut ≡ []
hidden m c cut f h = hidden_on (slice_get m c) c cut f h

-- ---- a window that shows a coverage

module _ (m : List Coverage) (c : ℕ) (cut : Cut) (k : Coverage) (there : slice_get m c ≡ Some k) (fit : cut_fits (domain_of k) cut ≡ true) (law : LawfulCoverage k) where
  pub window_is : window_meaning m c cut ≡ seen k cut ∷ []
  window_is = ap (λ o. seen_on o cut) there ∙ ap (λ b. cond b (seen k cut ∷ []) []) fit

  pub look_shown : (p : Coordinates) → inside_b (domain_of (seen k cut)) p ≡ true → look_answer (window_meaning m c cut) 0 p ≡ told (look_answer m c p) 0 0
  look_shown p e =
      let ok : Option ℤ → Result (Option ℤ) ShelfFault = λ v. Ok v in
      ap (λ w. look_answer w 0 p) window_is
      ∙ (ap (λ b. cond b (ok (cell_at (seen k cut) p)) (Err (Outside 0))) e
      ∙ (ap ok (seen_cell k cut law fit p)
      ∙ sym (ap (λ o. told (looked o c p) 0 0) there ∙ ap (λ b. told (cond b (ok (cell_at k p)) (Err (Outside c))) 0 0) (seen_inside k cut law fit p e))))

  pub look_beyond : (p : Coordinates) → inside_b (domain_of (seen k cut)) p ≡ false → look_answer (window_meaning m c cut) 0 p ≡ Err (Outside 0)
  look_beyond p e =
      let ok : Option ℤ → Result (Option ℤ) ShelfFault = λ v. Ok v in
      ap (λ w. look_answer w 0 p) window_is ∙ ap (λ b. cond b (ok (cell_at (seen k cut) p)) (Err (Outside 0))) e

  -- the tests of a strip, by their outcomes
  abbrev tested : Bool → Bool → Bool → Bool → ℕ → ℕ → Option ShelfFault
  tested r w p t i n = first (cond r (cond w (cond p None (Some (Unfit i n))) (Some (NoStrip i n))) (Some (Fixed i n))) (cond t (Some (AlreadyThere i n)) None)

  abbrev row_fits : Coverage → List ℤ → Bool
  row_fits x cs = eqb (length cs) (row_width (domain_of x)) && all_fit x.about.kind cs

  pub fault_fixed : (n : ℕ) (cs : List ℤ) → k.about.receives ≡ false → strip_fault (window_meaning m c cut) 0 n cs ≡ Some (Fixed 0 n)
  fault_fixed n cs r =
      ap (λ w. strip_fault w 0 n cs) window_is
      ∙ ap (λ b. tested b (ltb n (strips (domain_of (seen k cut)))) (row_fits (seen k cut) cs) (strip_there (seen k cut) n) 0 n) r

  pub fault_no_strip : (n : ℕ) (cs : List ℤ) → k.about.receives ≡ true → strips (domain_of (seen k cut)) ≤ n → strip_fault (window_meaning m c cut) 0 n cs ≡ Some (NoStrip 0 n)
  fault_no_strip n cs r h =
      ap (λ w. strip_fault w 0 n cs) window_is
      ∙ ap₂ (λ b w. tested b w (row_fits (seen k cut) cs) (strip_there (seen k cut) n) 0 n) r (le-ltb n (strips (domain_of (seen k cut))) h)

  -- a strip that the window has is answered as the strip below is, told in the window's numbers
  pub fault_below : (n : ℕ) (cs : List ℤ) → n < strips (domain_of (seen k cut)) →
      strip_fault (window_meaning m c cut) 0 n cs ≡ told_fault (strip_fault m c (strip_below (domain_of k) (domain_of (seen k cut)) n) cs) 0 n
  fault_below n cs h =
      let s = strip_below (domain_of k) (domain_of (seen k cut)) n in
      let r = k.about.receives in
      let wide : row_fits (seen k cut) cs ≡ row_fits k cs = ap (λ x. eqb (length cs) (size_of x) && all_fit k.about.kind cs) (x_uncut (domain_of k X)) in
      ap (λ w. strip_fault w 0 n cs) window_is
      ∙ (ap (λ w. tested r w (row_fits (seen k cut) cs) (strip_there (seen k cut) n) 0 n) (lt-ltb n (strips (domain_of (seen k cut))) h)
      ∙ (ap₂ (λ p t. tested r true p t 0 n) wide (seen_there k cut law fit n h)
      ∙ (tests_told r true (row_fits k cs) (strip_there k s) 0 c n s
      ∙ sym (ap (λ o. told_fault (fault_at o c s cs) 0 n) there
      ∙ ap (λ w. told_fault (tested r w (row_fits k cs) (strip_there k s) c s) 0 n) (lt-ltb s (strips (domain_of k)) (seen_below k cut law fit n h))))))

  nth_edited : (xs : List Coverage) (i : ℕ) (x : Coverage) (f : Coverage → Coverage) → slice_get xs i ≡ Some x → slice_get (edited xs i f) i ≡ Some (f x)
  nth_edited [] zero x f e = cc
  nth_edited [] (suc i) x f e = cc
  nth_edited (y ∷ ys) zero x f e = let q : y ≡ x = cc in let some : Coverage → Option Coverage = λ v. Some v in ap (λ v. some (f v)) q
  nth_edited (y ∷ ys) (suc i) x f e = nth_edited ys i x f e

  after_below : (o : Option ShelfFault) (n : ℕ) (cs : List ℤ) → n < strips (domain_of (seen k cut)) →
      window_meaning (after_of o m c (strip_below (domain_of k) (domain_of (seen k cut)) n) cs) c cut ≡ after_of (told_fault o 0 n) (window_meaning m c cut) 0 n cs
  after_below None n cs h =
      let s = strip_below (domain_of k) (domain_of (seen k cut)) n in
      let put = put_strip k s cs in
      let one : Coverage → List Coverage = λ x. x ∷ [] in
      ap (λ o. seen_on o cut) (nth_edited m c k (λ x. put_strip x s cs) there)
      ∙ (ap (λ b. cond b (seen put cut ∷ []) []) fit
      ∙ (ap one (sym (seen_put k cut law fit n h cs)) ∙ sym (ap (λ w. edited w 0 (λ x. put_strip x n cs)) window_is)))
  after_below (Some f) n cs h = refl

  -- the answer of the strip below, and what it leaves, are the window's
  pub strip_through : (n : ℕ) (cs : List ℤ) → n < strips (domain_of (seen k cut)) →
      (strip_answer (window_meaning m c cut) 0 n cs ≡ told (strip_answer m c (strip_below (domain_of k) (domain_of (seen k cut)) n) cs) 0 n)
      × (window_meaning (strip_after m c (strip_below (domain_of k) (domain_of (seen k cut)) n) cs) c cut ≡ strip_after (window_meaning m c cut) 0 n cs)
  strip_through n cs h =
      let s = strip_below (domain_of k) (domain_of (seen k cut)) n in
      let f = strip_fault m c s cs in
      let e = fault_below n cs h in
      (ap answer_of e ∙ answer_told f 0 n, after_below f n cs h ∙ sym (ap (λ o. after_of o (window_meaning m c cut) 0 n cs) e))

-- ---- a number under which a shelf has no coverage

abbrev none : List Coverage
none = []

pub none_at : (c : ℕ) → slice_get none c ≡ None
none_at zero = refl
none_at (suc c) = refl

one_at : (k : Coverage) (i : ℕ) → (i ≡ 0 → ⊥) → slice_get (k ∷ []) i ≡ None
one_at k zero h = absurd (h refl)
one_at k (suc i) h = none_at i

either_at : (b : Bool) (k : Coverage) (i : ℕ) → (i ≡ 0 → ⊥) → slice_get (cond b (k ∷ []) []) i ≡ None
either_at true k i h = one_at k i h
either_at false k i h = none_at i

seen_at : (o : Option Coverage) (cut : Cut) (i : ℕ) → (i ≡ 0 → ⊥) → slice_get (seen_on o cut) i ≡ None
seen_at None cut i h = none_at i
seen_at (Some k) cut i h = either_at (cut_fits (domain_of k) cut) (seen k cut) i h

-- a window has no coverage but 0, and where it shows nothing none at all
pub past : (m : List Coverage) (c : ℕ) (cut : Cut) (i : ℕ) → (i ≡ 0 → ⊥) → slice_get (window_meaning m c cut) i ≡ None
past m c cut i h = seen_at (slice_get m c) cut i h

pub hidden_at : (m : List Coverage) (c : ℕ) (cut : Cut) (i : ℕ) (f : MakingFault) → Err f ≡ view_on (slice_get m c) c cut → slice_get (window_meaning m c cut) i ≡ None
hidden_at m c cut i f h = ap (λ w. slice_get w i) (hidden m c cut f h) ∙ none_at i

pub describe_absent : (w : List Coverage) (i : ℕ) → slice_get w i ≡ None → Err (NoCoverage i 0) ≡ describe_answer w i
describe_absent w i e = sym (ap (λ o. described o i) e)

pub look_absent : (w : List Coverage) (i : ℕ) (p : Coordinates) → slice_get w i ≡ None → Err (NoCoverage i 0) ≡ look_answer w i p
look_absent w i p e = sym (ap (λ o. looked o i p) e)

pub strip_absent : (w : List Coverage) (i n : ℕ) (cs : List ℤ) → slice_get w i ≡ None → (Err (NoCoverage i n) ≡ strip_answer w i n cs) × (w ≡ strip_after w i n cs)
strip_absent w i n cs e = refused_is w i n cs (NoCoverage i n) (ap (λ o. fault_at o i n cs) e)

-- what a call sees, and that it sees nothing
pub seen_shown : (r : Result View MakingFault) (i n : ℕ) (v : View) → seen_under r i n ≡ Ok v → (Ok v ≡ r) × (i ≡ 0)
seen_shown (Ok u) zero n v e = (sym e', refl)
  where
    e' : ◌≡◌ {A = Result View MakingFault} (Ok u) (Ok v)
    e' = let same : u ≡ v = cc in let ok : View → Result View MakingFault = λ x. Ok x in ap ok same
seen_shown (Ok u) (suc i) n v e = cc
seen_shown (Err f) i n v e = cc

pub unseen : (m : List Coverage) (c : ℕ) (cut : Cut) (i n : ℕ) (f : ShelfFault) → seen_under (view_on (slice_get m c) c cut) i n ≡ Err f → (f ≡ NoCoverage i n) × (slice_get (window_meaning m c cut) i ≡ None)
unseen m c cut i n f h = go (view_on (slice_get m c) c cut) i refl h
  where
    go : (r : Result View MakingFault) (j : ℕ) → view_on (slice_get m c) c cut ≡ r → seen_under r j n ≡ Err f → (f ≡ NoCoverage j n) × (slice_get (window_meaning m c cut) j ≡ None)
    go (Ok u) zero is e = cc
    go (Ok u) (suc j) is e = (cc, past m c cut (suc j) (λ z. let q : suc j ≡ 0 = z in omega arith))
    go (Err g) j is e = (cc, hidden_at m c cut j g (sym is))

abbrev view_of : Coverage → Cut → Result View MakingFault
view_of k cut = Ok (record { whole = k.about.domain; about = (seen k cut).about })

pub window_counted : (o : Option Coverage) (c : ℕ) (cut : Cut) → bool_byte (is_ok (view_on o c cut)) ≡ length (seen_on o cut)
window_counted None c cut = refl
window_counted (Some k) c cut = go (cut_fits (domain_of k) cut)
  where
    go : (b : Bool) → bool_byte (is_ok (cond b (view_of k cut) (Err OutOfBounds))) ≡ length (cond b (seen k cut ∷ []) [])
    go true = refl
    go false = refl

-- the same by the option of a view
pub shown_by : (r : Result View MakingFault) (v : View) → result_ok r ≡ Some v → Ok v ≡ r
shown_by (Ok u) v e = let same : v ≡ u = cc in let ok : View → Result View MakingFault = λ x. Ok x in ap ok same
shown_by (Err f) v e = cc

pub hidden_by : (r : Result View MakingFault) → result_ok r ≡ None → (f : MakingFault) × (Err f ≡ r)
hidden_by (Ok u) e = cc
hidden_by (Err f) e = (f, refl)

-- ---- the call before the making

pub window_answer : (P : View → Type 0) (o : Option Coverage) (c : ℕ) (cut : Cut) (r : Result View MakingFault) (s : Result (Unit {0}) MakingFault) → r ≡ view_on o c cut → is_ok s ≡ is_ok r → MatchResult r P (λ e. s ≡ Err e) →
    s ≡ answer_of (fault_on o c cut)
window_answer P None c cut r s e v m = subst (λ x. MatchResult x P (λ f. s ≡ Err f)) e m
window_answer P (Some k) c cut r s e v m = go (cut_fits (domain_of k) cut) (v ∙ ap is_ok e) (subst (λ x. MatchResult x P (λ f. s ≡ Err f)) e m)
  where
    go : (b : Bool) → is_ok s ≡ is_ok (cond b (view_of k cut) (Err OutOfBounds)) → MatchResult (cond b (view_of k cut) (Err OutOfBounds)) P (λ e. s ≡ Err e) → s ≡ answer_of (cond b None (Some OutOfBounds))
    go true v m = answer_by P None (view_of k cut) s (λ _. refl) (λ g e. cc) v m
    go false v m = m
