use Rattle.std.proofs.Common.{◌≡◌, ◌∙◌, rules}
use Rattle.std.specs.List.{fold}
use Rattle.lines.proofs.Worths.{told, told_onto}
use Rattle.lines.proofs.numeral.count_of.Goals as goal

pub returns : goal.returns
returns c = let e : c.fold.result ≡ fold told_onto 0 c.args.digits.now = search rules in e ∙ told c.args.digits.now
