-- Cells and null.
use Rattle.std.proofs.Common.{◌≡◌, true, false, cond, not, ◌||◌, ℤ, pos, negsuc, is_some, Some, None, sym, ap, ◌∙◌, subst, arith, w32, SFits, of_z}
use lib.Signed.{le_z}
use Rattle.std.proofs.lemmas.Int.{ints}
use Rattle.coverage.specs.declared.kind.Kind.{Kind}
use Rattle.coverage.specs.Kinds.{Within, fits, low}
use Rattle.coverage.specs.Limits.{kind_narrow}
use Rattle.coverage.proofs.Bools.{and_left, and_right, by_test}
use Rattle.coverage.proofs.Standing.{same_z_true, same_z_same}
use Rattle.shelf_laws.specs.Grid.{is_null, known, null}

pub known_value : (v : ℤ) → is_null v ≡ false → known v ≡ Some v
known_value v e = ap (λ b. cond b None (Some v)) e

pub known_null : (v : ℤ) → is_null v ≡ true → known v ≡ None
known_null v e = ap (λ b. cond b None (Some v)) e

pub some_known : (v : ℤ) → is_some (known v) ≡ not (is_null v)
some_known v = by_test (is_null v) (λ e. ap is_some (known_null v e) ∙ sym (ap not e)) (λ e. ap is_some (known_value v e) ∙ sym (ap not e))

-- no value of a narrow kind is null
pub fit_not_null : (k : Kind) (v : ℤ) → kind_narrow k ≡ true → fits k v ≡ true → is_null v ≡ false
fit_not_null k v e f =
    by_test (is_null v)
    (λ n. absurd (
    let q = same_z_true v null n in
    let l = and_left (le_z (low k) v) _ f in
    let m = and_left (le_z (negsuc 2147483646) (low k)) _ e in
    omega (arith, ints)))
    (λ n. n)

pub within_known : (k : Kind) (v : ℤ) → (is_null v || fits k v) ≡ true → Within k (known v)
within_known k v h =
    by_test (is_null v)
    (λ e. subst (Within k) (sym (known_null v e)) tt)
    (λ e.
    let f : fits k v ≡ true = ap (λ b. b || fits k v) (sym e) ∙ h in
    let l = and_left (le_z (low k) v) _ f in
    let u = and_right (le_z (low k) v) _ f in
    subst (Within k) (sym (known_value v e)) (omega (arith, ints), omega (arith, ints)))

-- the code tests a cell's bits
pub null_yes : (v : ℤ) → SFits w32 v → of_z w32 v ≡ 2147483648 → is_null v ≡ true
null_yes (pos n) f e = absurd (omega (arith, f.sfits))
null_yes (negsuc n) f e = same_z_same (negsuc n) null (ap negsuc (let q : n ≡ 2147483647 = omega (arith, f.sfits) in q))

pub null_no : (v : ℤ) → (of_z w32 v ≡ 2147483648 → ⊥) → is_null v ≡ false
null_no v h = by_test (is_null v) (λ e. absurd (h (ap (of_z w32) (same_z_true v null e)))) (λ e. e)
