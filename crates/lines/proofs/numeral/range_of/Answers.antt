use Rattle.std.proofs.Common.{◌≡◌, true, false, not, ◌&&◌, sym, ap, ◌∙◌, w64, SFits, to_z, of_z, rules}
use lib.Signed.{le_z}
use Rattle.std.proofs.lemmas.Int.{to_z-of_z}
use Rattle.std.proofs.lemmas.Bool.{and_right}
use Rattle.coverage.specs.Axes.{same_z}
use Rattle.lines.specs.Numerals.{is_number, signed_worth, told_number}
use Rattle.lines.proofs.Ranges.{straight, apart_ends}
use Rattle.lines.proofs.numeral.range_of.Goals as goal
use Rattle.lines.proofs.numeral.range_of.Goals.{else-low-high-via-then-low-high+else-is_upside_down, else-low-high-via-else-low-high}

pub returns : goal.returns
returns c =
    let a = signed_worth c.args.lo.now in
    let b = signed_worth c.args.hi.now in
    let fl : SFits w64 c.int_of-low.result = search rules in
    let fh : SFits w64 c.int_of-high.result = search rules in
    let p = to_z-of_z w64 c.int_of-low.result fl ∙ c.int_of-low.ensures in
    let q = to_z-of_z w64 c.int_of-high.result fh ∙ c.int_of-high.ensures in
    let flag : is_number c.args.lo.now ≡ true → is_number c.args.hi.now ≡ true → (same_z (told_number a) (told_number b) && not (le_z a b)) ≡ false = λ x y. elim c.else-low-high.branch [
      | else-low-high-via-then-low-high+else-is_upside_down w ↦ and_right (same_z (told_number a) (told_number b)) (not (le_z a b)) (sym (w.is_upside_down.ensures x y p (ap (to_z w64) w.if-low-high.true ∙ q)) ∙ w.if-is_upside_down.false)
      | else-low-high-via-else-low-high w ↦ apart_ends (told_number a) (told_number b) (not (le_z a b)) (λ e. w.if-low-high.false (ap (of_z w64) c.int_of-low.ensures ∙ e ∙ sym (ap (of_z w64) c.int_of-high.ensures)))
    ] in
    record { value = λ x y. (straight a b _ _ p q (flag x y)).0; order = λ x y. (straight a b _ _ p q (flag x y)).1 }
