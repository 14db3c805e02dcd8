use Rattle.lines.proofs.Literals.{literal_read}
use Rattle.lines.proofs.pieces.literal.Goals as goal

pub returns-clause-read : goal.returns-clause-read
returns-clause-read c = literal_read _ _ _ _ c.literal.ensures.text c.literal.ensures.read
