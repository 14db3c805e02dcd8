use Rattle.std.proofs.Common.{w64, SFits, rules}
use Rattle.std.proofs.lemmas.Int.{to_z-of_z}
use Rattle.checking.proofs.leaves.numeral_rule.Goals as goal

pub returns : goal.returns
returns c =
    let fits : SFits w64 c.from-value.result = search rules in
    rw (c.unread.ensures, to_z-of_z w64 c.from-value.result fits, c.from-value.ensures)
