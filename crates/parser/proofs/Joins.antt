-- One part of the reader after another.
use Rattle.std.proofs.Common.{◌≡◌, ℕ, ◌+◌, List, [], ◌∷◌, set, Ok, Err, Result, sym, ap, ◌∙◌, arith}
use Rattle.cursor.specs.declared.cursor.Cursor.{Cursor}
use Rattle.parser.specs.declared.node.Node.{Node}
use Rattle.parser.specs.declared.node.Construct.{Construct}
use Rattle.parser.specs.declared.parser.Done.{Done}
use Rattle.parser.specs.declared.parser.Parser.{Parser}
use Rattle.parser.specs.Actions.{Val, val, St, state, node}
use Rattle.parser.specs.Machine.{Item}
use Rattle.parser.specs.Built.{value, Added}
use Rattle.parser.specs.Reads.{on, GoesOn}
use Rattle.parser.specs.Parsed.{due, Reads, Parsed}
use Rattle.parser.proofs.See.{from_byte}

pub goes : {a b c : Cursor} → GoesOn a b → GoesOn b c → GoesOn a c
goes g h = record { text = h.text ∙ g.text; forward = omega (arith, g.forward, h.forward) }

pub joins : {x y : List Item} {us : List Val} {old mid : Parser} {d : Done} (new : Parser) (r : Result Done ℕ) → Reads x y us old mid d → Parsed y (value d ∷ []) mid new r → Parsed x us old new r
joins new (Ok e) g h = record {
  forward = omega (arith, g.forward, h.forward);
  few = omega (arith, g.few, h.few);
  turns = λ s vs. g.turns s vs ∙ h.turns s vs;
}
joins new (Err p) g h = λ s vs. g.turns s vs ∙ h s vs

-- a stack that is told in another way
pub restacked : (bs : List ℕ) (at : ℕ) (st : St) {s t : List Item} → s ≡ t → from_byte bs at s st ≡ from_byte bs at t st
restacked bs at st e = ap (λ z. from_byte bs at z st) e

-- a value whose depth is told in another way
pub redepthed : (bs : List ℕ) (at : ℕ) (s : List Item) (r p n : ℕ) (vs : List Val) (tbl : List Node) {d e : ℕ} → d ≡ e → from_byte bs at s (state (val r p d ∷ vs) n tbl) ≡ from_byte bs at s (state (val r p e ∷ vs) n tbl)
redepthed bs at s r p n vs tbl g = λ i. from_byte bs at s (state (val r p (g i) ∷ vs) n tbl)

-- a construct that was added, and is told in another way
pub added : {p : ℕ} {a b : Construct} {d e : ℕ} {old new : Parser} {r : Done} → Added p b e old new r → a ≡ b → d ≡ e → (s : List Item) (vs : List Val) → on old.from s (state (val old.count p d ∷ vs) (old.count + 1) (set old.nodes.now old.count (node p a))) ≡ due new s (value r ∷ vs)
added {p} {old = old} h f g s vs =
    (λ i. on old.from s (state (val old.count p (g i) ∷ vs) (old.count + 1) (set old.nodes.now old.count (node p (f i)))))
    ∙ (λ i. on (sym h.from i) s (state (sym h.value i ∷ vs) (sym h.count i) (sym h.nodes i)))
