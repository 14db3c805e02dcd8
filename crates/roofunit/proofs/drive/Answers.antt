use Rattle.roofunit.specs.Answers.{at_first}
use Rattle.roofunit.proofs.Leads.{leads}
use Rattle.roofunit.proofs.drive.Goals as goal

pub loop-line-init : goal.loop-line-init
loop-line-init g c = at_first

pub loop-line-preserved : goal.loop-line-preserved
loop-line-preserved g c = leads _ _ _ _ _ c.loop-line.invariant c.answer.ensures

pub returns-in_err-answer : goal.returns-in_err-answer
returns-in_err-answer g c = leads _ _ _ _ _ c.loop-line.invariant c.answer.ensures

pub returns-in_err-tell : goal.returns-in_err-tell
returns-in_err-tell g c = leads _ _ _ _ _ c.loop-line.invariant c.answer.ensures
