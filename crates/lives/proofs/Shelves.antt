-- Shelves as queries see them, and what a strip leaves of that.
use Rattle.std.proofs.Common.{◌≡◌, ℕ, ◌≤◌, Bool, true, false, eqb, List, ℤ, pos, negsuc, Some, None, Option, sym, refl, ap, ◌∙◌, subst, arith, eq-eqb, eqb-true}
use mathlib.Core.Path.{fun_ext}
use borrow.Author.Tests.{clash}
use lib.Signed.{le_z}
use Rattle.std.proofs.lemmas.Int.{ints}
use Rattle.std.specs.Option.{option_map}
use Rattle.std.specs.List.{slice_get}
use Rattle.coverage.specs.declared.axis.Axis.{Axis}
use Rattle.coverage.specs.declared.kind.Kind.{Kind}
use Rattle.coverage.specs.declared.range.Range.{Range}
use Rattle.coverage.specs.Axes.{Agree, AgreeAt, Coordinates, Inside, Ordered, cells}
use Rattle.coverage.specs.Kinds.{Within, low, high}
use Rattle.coverage.specs.Limits.{kind_narrow, kind_ordered}
use Rattle.coverage.proofs.Bools.{and_left, and_right}
use Rattle.coverage.proofs.Bounds.{describable_by, few_cells}
use Rattle.coverage.proofs.Points.{inside_test}
use Rattle.shelf.specs.declared.fault.ShelfFault.{ShelfFault}
use Rattle.shelf.specs.Meaning.{Coverage, after_of, domain_of, edited, fault_at, find_answer, put_strip, settled_on, strip_after, strip_fault, strip_refused}
use Rattle.shelf.specs.Laws.{Lawful, LawfulCoverage}
use Rattle.syntax.specs.Tree.{Word}
use Rattle.language.specs.Typing.{About, Described}
use Rattle.language.specs.Laws.{SoundShelf, KnownCellsStay, CellsAlike}
use Rattle.language.specs.Limits.{BoundedShelf, InBounds, most_cells}
use Rattle.lives.specs.Shelves.{numbered, named, about_of, describes, cell_in, looks}
use Rattle.lives.proofs.Edits.{none_some, edited_here, edited_there, edited_long, edited_find}
use Rattle.lives.proofs.Strips.{ordered_domain, put_lawful, put_keeps}

-- ---- a lawful shelf is one that the laws of queries ask for

numbered_lawful : (m : List Coverage) → Lawful m → (o : Option ℕ) (k : Coverage) → numbered m o ≡ Some k → LawfulCoverage k
numbered_lawful m law None k e = none_some e
numbered_lawful m law (Some c) k e = law.each c k e

-- a fact of every coverage that is found is one of what was found
of_found : (P : Option Coverage → About → Type 0) → (o : Option Coverage) → ((k : Coverage) → o ≡ Some k → P (Some k) (about_of k)) → (a : About) → option_map about_of o ≡ Some a → P o a
of_found P None h a e = none_some e
of_found P (Some k) h a e = let s : about_of k ≡ a = cc in subst (P (Some k)) s (h k refl)

module _ (m : List Coverage) (law : Lawful m) where
  -- a fact of every lawful coverage is a fact of what a name stands for
  pub of_named : (P : Option Coverage → About → Type 0) → ((k : Coverage) → LawfulCoverage k → P (Some k) (about_of k)) → (w : Word) (a : About) → describes m w ≡ Some a → P (named m w) a
  of_named P h w a e = of_found P (named m w) (λ k f. h k (numbered_lawful m law (find_answer m w) k f)) a e

  pub sound : SoundShelf (describes m) (looks m)
  sound = record {
    ordered = of_named (λ o a. (x : Axis) → Ordered (a.extents x)) (λ k l. ordered_domain k l);
    kinds = of_named (λ o a. (p : Coordinates) → Inside a.extents p → Within a.kind (cell_in o p)) (λ k l p i. l.cells_fit p (inside_test (domain_of k) p i));
  }

  in_bounds : (k : Kind) → kind_ordered k ≡ true → kind_narrow k ≡ true → InBounds k
  in_bounds k o n =
      let a = and_left (le_z (negsuc 2147483646) (low k)) (le_z (high k) (pos 2147483647)) n in
      let b = and_right (le_z (negsuc 2147483646) (low k)) (le_z (high k) (pos 2147483647)) n in
      record { least = omega (arith, ints); most = omega (arith, ints); ordered = omega (arith, ints) }

  pub bounded_shelf : BoundedShelf (describes m)
  bounded_shelf = record {
    ordered = sound.ordered;
    kinds = of_named (λ o a. InBounds a.kind) (λ k l. let d = describable_by k.about l.described in in_bounds k.about.kind d.kind_ordered_holds d.kind_narrow_holds);
    cells = of_named (λ o a. cells a.extents ≤ most_cells) (λ k l. few_cells (domain_of k) (describable_by k.about l.described).cells_few);
  }

-- ---- looks at points that are alike on the axes that are there

settled_alike : (r : Option Range) (v w : ℤ) → AgreeAt r v w → settled_on r v ≡ settled_on r w
settled_alike None v w h = refl
settled_alike (Some r) v w h = h

pub looks_alike : (m : List Coverage) → Lawful m → CellsAlike (describes m) (looks m) (looks m)
looks_alike m law =
    of_named m law (λ o a. (p q : Coordinates) → Inside a.extents p → Agree a.extents p q → cell_in o p ≡ cell_in o q)
    (λ k l p q i h. ap k.cell (fun_ext (λ a. settled_alike (domain_of k a) (p a) (q a) (h a))))

-- ---- what a later shelf keeps of an earlier one

pub record Grows (m later : List Coverage) : Type 0 where
  pub lawful : Lawful later
  pub described : describes later ≡ describes m
  pub known : KnownCellsStay (describes m) (looks m) (looks later)

pub grows_same : (m : List Coverage) → Lawful m → Grows m m
grows_same m law = record { lawful = law; described = refl; known = λ w a e p i v h. h }

pub grows_on : (a b c : List Coverage) → Grows a b → Grows b c → Grows a c
grows_on a b c g h = record {
  lawful = h.lawful;
  described = h.described ∙ g.described;
  known = λ w x e p i v f. h.known w x (ap (λ (d : Described). d w) g.described ∙ e) p i v (g.known w x e p i v f);
}

-- ---- an accepted strip

module _ (m : List Coverage) (law : Lawful m) (c n : ℕ) (cs : List ℤ) (k : Coverage) (there : slice_get m c ≡ Some k) (free : strip_refused k c n cs ≡ None) where
  each_after : (i : ℕ) (j : Coverage) → slice_get (edited m c (λ j. put_strip j n cs)) i ≡ Some j → LawfulCoverage j
  each_after i j e = go (eqb c i) refl
    where
      go : (b : Bool) → eqb c i ≡ b → LawfulCoverage j
      go true f =
          let s : slice_get (edited m c (λ j. put_strip j n cs)) c ≡ Some j = ap (λ (x : ℕ). slice_get (edited m c (λ j. put_strip j n cs)) x) (eqb-true _ _ f) ∙ e in
          let h = edited_here m c (λ j. put_strip j n cs) k there in
          let q : put_strip k n cs ≡ j = cc in
          subst LawfulCoverage q (put_lawful k c n cs (law.each c k there) free)
      go false f = law.each i j (sym (edited_there m c i (λ j. put_strip j n cs) (λ x. clash (sym f ∙ eq-eqb _ _ x))) ∙ e)

  -- the coverage of a number, as it was or with the strip put in
  data Was : Option Coverage → Option Coverage → Type 0 where
    same : {o : Option Coverage} → Was o o
    put : Was (Some k) (Some (put_strip k n cs))

  was_at : (i : ℕ) → Was (slice_get m i) (slice_get (edited m c (λ j. put_strip j n cs)) i)
  was_at i = go (eqb c i) refl
    where
      go : (b : Bool) → eqb c i ≡ b → Was (slice_get m i) (slice_get (edited m c (λ j. put_strip j n cs)) i)
      go true f =
          subst (λ (x : ℕ). Was (slice_get m x) (slice_get (edited m c (λ j. put_strip j n cs)) x)) (eqb-true _ _ f)
          (subst (λ (o : Option Coverage). Was o (slice_get (edited m c (λ j. put_strip j n cs)) c)) (sym there)
          (subst (λ (o : Option Coverage). Was (Some k) o) (sym (edited_here m c (λ j. put_strip j n cs) k there)) put))
      go false f = subst (λ (o : Option Coverage). Was (slice_get m i) o) (sym (edited_there m c i (λ j. put_strip j n cs) (λ x. clash (sym f ∙ eq-eqb _ _ x)))) same

  was_numbered : (o : Option ℕ) → Was (numbered m o) (numbered (edited m c (λ j. put_strip j n cs)) o)
  was_numbered None = same
  was_numbered (Some i) = was_at i

  was_named : (w : Word) → Was (named m w) (named (edited m c (λ j. put_strip j n cs)) w)
  was_named w =
      subst (λ (o : Option ℕ). Was (named m w) (numbered (edited m c (λ j. put_strip j n cs)) o)) (sym (edited_find m c (λ j. put_strip j n cs) (λ j. refl) w)) (was_numbered (find_answer m w))

  was_described : {o p : Option Coverage} → Was o p → option_map about_of p ≡ option_map about_of o
  was_described same = refl
  was_described put = refl

  was_known : {o u : Option Coverage} → Was o u → (a : About) → option_map about_of o ≡ Some a → (p : Coordinates) → Inside a.extents p → (v : ℤ) → cell_in o p ≡ Some v → cell_in u p ≡ Some v
  was_known same a e p i v h = h
  was_known put a e p i v h =
      let s : a ≡ about_of k = cc in
      put_keeps k c n cs (law.each c k there) free p (subst (λ (x : About). Inside x.extents p) s i) v h

  pub put_grows : Grows m (edited m c (λ j. put_strip j n cs))
  put_grows = record {
    lawful = record { at_most_eight = subst (λ (x : ℕ). x ≤ 8) (sym (edited_long m c (λ j. put_strip j n cs))) law.at_most_eight; each = each_after };
    described = fun_ext (λ w. was_described (was_named w));
    known = λ w a e p i v h. was_known (was_named w) a e p i v h;
  }

-- where a strip is accepted, its coverage is there and takes it
pub strip_taken : (o : Option Coverage) (c n : ℕ) (cs : List ℤ) → fault_at o c n cs ≡ None → (k : Coverage) × (o ≡ Some k) × (strip_refused k c n cs ≡ None)
strip_taken None c n cs e = absurd (let z : ◌≡◌ {A = ℕ} 0 1 = cc in omega arith)
strip_taken (Some k) c n cs e = (k, refl, e)

pub strip_grows : (m : List Coverage) → Lawful m → (c n : ℕ) (cs : List ℤ) → Grows m (strip_after m c n cs)
strip_grows m law c n cs = go (strip_fault m c n cs) refl
  where
    go : (o : Option ShelfFault) → strip_fault m c n cs ≡ o → Grows m (after_of o m c n cs)
    go None e = let t = strip_taken (slice_get m c) c n cs e in put_grows m law c n cs t.0 t.1 t.2
    go (Some f) e = grows_same m law
