use Rattle.std.proofs.Common.{sym, arith}
use Rattle.std.proofs.lemmas.Grind.{common_steps}
use Rattle.std.proofs.lemmas.List.Sums.{prefix_len_is}
use Rattle.cursor.proofs.cursor.Cursor.run.Goals as goal

-- the bytes of the run pass, and the one after them fails
pub returns-clause-by_test : goal.returns-clause-by_test
returns-clause-by_test g c = λ p computes.
    let n = c.run_length-length.ensures in
    let e = prefix_len_is p _ c.run_length-length.result 0 n.within (λ k h. sym (computes _ _ (n.passed k h).0 (n.passed k h).1)) (λ h. sym (computes _ _ (n.failed h).0 (n.failed h).1)) in
    grind (arith, common_steps, e)
