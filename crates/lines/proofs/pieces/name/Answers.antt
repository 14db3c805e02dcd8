use Rattle.std.proofs.Common.{rules}
use Rattle.lines.specs.Pieces.{is_name_byte}
use Rattle.lines.proofs.Runs.{Run, name_reads, name_bytes}
use Rattle.lines.proofs.pieces.name.Goals as goal
use Rattle.lines.proofs.pieces.name.Goals.{After-run}

run : (c : After-run) → Run is_name_byte c.run.result.now c.args.from.now c.run.new.self
run c = record { text = c.run.ensures.text; part = c.run.ensures.run; bytes = c.run.ensures.rest; end = c.run.ensures.by_test is_name_byte (λ b r h k. search rules) }

pub returns-clause-read : goal.returns-clause-read
returns-clause-read c = name_reads (run c)

pub returns-clause-name : goal.returns-clause-name
returns-clause-name c = name_bytes (run c)

pub returns-clause-longest : goal.returns-clause-longest
returns-clause-longest c = (run c).end
