use Rattle.std.proofs.Common.{◌≤◌, length, arith}
use Rattle.std.proofs.lemmas.Grind.{common_steps}
use Rattle.cursor.proofs.Words.{stand_is, word_stands}
use Rattle.cursor.proofs.cursor.Cursor.literal.Goals as goal

pub returns-then-length-word-clause-read : goal.returns-then-length-word-clause-read
returns-then-length-word-clause-read c =
    let n = c.common_length-length.ensures in
    let e = stand_is c.args.word.now _ c.common_length-length.result n.within.0 n.within.1 n.alike n.apart in
    grind (arith, common_steps, e)

pub returns-clause-read : goal.returns-clause-read
returns-clause-read c =
    let n = c.common_length-length.ensures in
    let all : length c.args.word.now ≤ c.common_length-length.result = omega arith in
    let e = word_stands c.args.word.now _ (omega arith) (λ k h. n.alike k (omega arith)) in
    grind (arith, common_steps, e)
