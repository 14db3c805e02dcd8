-- Cells that all fit a kind, one by one.
use Rattle.std.proofs.Common.{◌≡◌, ℕ, ◌<◌, true, ◌&&◌, eqb, ltb, List, length, get_or, ℤ, pos, None, ltb-true, eqb-true}
use Rattle.std.proofs.lemmas.List.Elements.{All-get_or}
use Rattle.std.proofs.lemmas.List.Sums.{AllPass-from_list_all}
use Rattle.coverage.specs.declared.kind.Kind.{Kind}
use Rattle.coverage.specs.declared.description.Description.{Description}
use Rattle.coverage.specs.Axes.{extents}
use Rattle.coverage.specs.Kinds.{fits}
use Rattle.coverage.specs.Strips.{row_width, strips}
use Rattle.coverage.proofs.Bools.{and_left, and_right}
use Rattle.shelf.specs.declared.fault.ShelfFault.TheVariants.{Fixed, NoStrip, Unfit}
use Rattle.shelf.specs.Meaning.{all_fit, shape_fault}
use Rattle.shelf.proofs.Answering.{cond_none}

pub fit_each : (k : Kind) (xs : List ℤ) → all_fit k xs ≡ true → (i : ℕ) → i < length xs → fits k (get_or xs i (pos 0)) ≡ true
fit_each k xs e i h = All-get_or (λ v. fits k v ≡ true) xs i (pos 0) h (AllPass-from_list_all (fits k) xs e)

-- what is known of a strip that fits
pub record Fitting (a : Description) (n : ℕ) (cs : List ℤ) : Type 0 where
  pub below : n < strips (extents a.domain)
  pub wide : length cs ≡ row_width (extents a.domain)
  pub fit : all_fit a.kind cs ≡ true

pub shape_fits : (a : Description) (c n : ℕ) (cs : List ℤ) → shape_fault a c n cs ≡ None → Fitting a n cs
shape_fits a c n cs e =
    let r = cond_none a.receives _ (Fixed c n) e in
    let s = cond_none (ltb n (strips (extents a.domain))) _ (NoStrip c n) r.1 in
    let t = cond_none (eqb (length cs) (row_width (extents a.domain)) && all_fit a.kind cs) _ (Unfit c n) s.1 in
    record {
      below = ltb-true _ _ s.0;
      wide = eqb-true _ _ (and_left (eqb (length cs) (row_width (extents a.domain))) _ t.0);
      fit = and_right (eqb (length cs) (row_width (extents a.domain))) _ t.0;
    }
