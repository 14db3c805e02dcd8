use Rattle.std.proofs.Common.{arith}
use Rattle.lines.proofs.Endings.{query_read}
use Rattle.lines.proofs.pieces.query.Goals as goal

pub returns : goal.returns
returns c = rw c.ok_or.ensures.value (query_read c.args.from.now _ c.rest.ensures (omega arith) _ c.strip_suffix.ensures.cases)
