use Rattle.std.proofs.Common.{◌≡◌, vec_items, ◌∙◌, arith, w32, SFits, rules}
use Rattle.std.specs.List.{between}
use Rattle.std.proofs.lemmas.Int.{to_z-of_z}
use Rattle.lines.specs.Numerals.{signed_worth, told_cell}
use Rattle.lines.proofs.CellTexts.{read_word, read_byte, read_all}
use Rattle.lines.proofs.cells.read_cells.Goals as goal
use Rattle.lines.proofs.cells.read_cells.Goals.{then-byte-eq32+in_ok-push, else-byte-eq32}

pub loop-at-preserved : goal.loop-at-preserved
loop-at-preserved c =
    elim c.if-byte-eq32.branch [
      | then-byte-eq32+in_ok-push w ↦
          let f : SFits w32 w.cell_of.result = search rules in
          let e : w.cell_of.result ≡ told_cell (signed_worth (between c.loop-at.from c.loop-at.at c.args.text.now)) = grind (arith) in
          rw (w.from-is, w.cells-is, w.in_ok-push.ensures.items) (read_word c.args.text.now c.loop-at.from c.loop-at.at (vec_items c.loop-at.cells) _ c.loop-at-test.true w.if-byte-eq32.true (to_z-of_z w32 w.cell_of.result f ∙ e) c.loop-at.invariant)
      | else-byte-eq32 w ↦ rw (w.from-is, w.cells-is) (read_byte c.args.text.now c.loop-at.from c.loop-at.at (vec_items c.loop-at.cells) c.loop-at-test.true w.if-byte-eq32.false c.loop-at.invariant)
    ]

pub returns : goal.returns
returns c =
    let f : SFits w32 c.cell_of-2.result = search rules in
    c.in_ok-push-2.ensures.items ∙ read_all c.args.text.now c.loop-at.from c.loop-at.at (vec_items c.loop-at.cells) _ (grind arith) (omega arith) (to_z-of_z w32 c.cell_of-2.result f ∙ c.cell_of-2.ensures) c.loop-at.invariant
