use Rattle.coverage.specs.Strips.{strip_at}
use Rattle.coverage.proofs.strips.Domain.strip_number.Goals as goal

pub returns : goal.returns
unfolding strip_at
returns c = c.number_over.ensures
