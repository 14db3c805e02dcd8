use Rattle.written.proofs.cell_line.Goals as goal

pub returns-in-None : goal.returns-in-None
returns-in-None c = rw c.in-None.is c.to_string.ensures.ok
