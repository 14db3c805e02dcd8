-- Ranges by the numerals of their ends: what is told keeps the order of what is written.
use Rattle.std.proofs.Common.{◌≡◌, ℕ, min, Bool, true, false, cond, not, ◌&&◌, leb, ℤ, pos, negsuc, sym, refl, ap, ◌∙◌, arith, w64, of_z, le-leb, leb-false, leb-true}
use lib.Signed.{le_z}
use borrow.Author.Tests.{clash}
use Rattle.std.proofs.lemmas.Int.{ints}
use Rattle.coverage.specs.Axes.{same_z}
use Rattle.coverage.specs.Limits.{ordered}
use Rattle.coverage.specs.declared.range.Range.{Range}
use Rattle.coverage.proofs.Bools.{by_test, and_left, and_right, and_both}
use Rattle.lines.specs.Numerals.{told_number, told_range}

capped_order : (a b m : ℕ) → ((leb (min a m) (min b m) && leb (min b m) (min a m)) && not (leb a b)) ≡ false → leb (min a m) (min b m) ≡ leb a b
capped_order a b m f = by_test (leb a b)
    (λ e. let l = leb-true a b e in le-leb (min a m) (min b m) (omega arith) ∙ sym e)
    (λ e.
    let l = leb-false a b e in
    by_test (leb (min a m) (min b m))
    (λ g. absurd (clash (sym f ∙ and_both (leb (min a m) (min b m) && leb (min b m) (min a m)) (not (leb a b)) (and_both (leb (min a m) (min b m)) (leb (min b m) (min a m)) g (le-leb (min b m) (min a m) (omega arith))) (ap not e))))
    (λ g. g ∙ sym e))

told_order : (a b : ℤ) → (same_z (told_number a) (told_number b) && not (le_z a b)) ≡ false → le_z (told_number a) (told_number b) ≡ le_z a b
told_order (pos a) (pos b) f = capped_order a b 9223372036854775807 f
told_order (pos a) (negsuc b) f = refl
told_order (negsuc a) (pos b) f = refl
told_order (negsuc a) (negsuc b) f = capped_order b a 9223372036854775806 f

same_ends : (a b : ℤ) → same_z a b ≡ true → a ≡ b
same_ends a b h =
    let p = and_left (le_z a b) (le_z b a) h in
    let q = and_right (le_z a b) (le_z b a) h in
    omega (arith, ints)

pub apart_ends : (x y : ℤ) (t : Bool) → (of_z w64 x ≡ of_z w64 y → ⊥) → (same_z x y && t) ≡ false
apart_ends x y t n = by_test (same_z x y)
    (λ e. absurd (n (ap (of_z w64) (same_ends x y e))))
    (λ e. ap (λ (c : Bool). c && t) e)

abbrev pub range : ℤ → ℤ → Range
range l h = record { lo = l; hi = h }

pub straight : (a b l h : ℤ) → l ≡ told_number a → h ≡ told_number b → (same_z (told_number a) (told_number b) && not (le_z a b)) ≡ false → (range l h ≡ told_range a b) × (ordered (range l h) ≡ le_z a b)
straight a b l h p q f =
    let e : range l h ≡ range (told_number a) (told_number b) = ap (λ (x : ℤ). range x h) p ∙ ap (range (told_number a)) q in (
      e ∙ sym (ap (λ (c : Bool). cond c (range (pos 1) (pos 0)) (range (told_number a) (told_number b))) f),
      ap ordered e ∙ told_order a b f,
    )
