use Rattle.checking.proofs.leaves.iterator_rule.Goals as goal
use Rattle.language.specs.Faults.{iterator_fault}

pub returns : goal.returns
unfolding iterator_fault
returns c = rw (c.unread.ensures, c.in_ok-span.ensures.ok_part)
