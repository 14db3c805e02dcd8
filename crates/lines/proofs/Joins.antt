-- Pieces that are read one after the other.
use Rattle.std.proofs.Common.{List, ◌++◌, sym, ap, ◌∙◌, append_assoc, arith, length-append}
use Rattle.cursor.specs.declared.cursor.Cursor.{Cursor}
use Rattle.cursor.specs.Rest.{rest}
use Rattle.lines.specs.Pieces.{Piece, stop, Reads}

pub joined : {x y : List Piece} {v w : _} {from mid to : Cursor} → Reads x v from mid → Reads y w mid to → Reads (x ++ y) (v ++ w) from to
joined {x} {y} {v} {w} {from} {mid} {to} a b =
    let p = a.place in
    let q = b.place in
    let n = length-append v w in
    record {
      text = b.text ∙ a.text;
      place = omega arith;
      bytes = a.bytes ∙ ap (λ (t : List _). v ++ t) b.bytes ∙ sym (append_assoc v w (rest to));
      turns = λ s. ap (λ (t : List Piece). stop from.at t (rest from)) (append_assoc x y s) ∙ a.turns (y ++ s) ∙ b.turns s;
    }
