-- Expressions that were read, as values, and constructs that were added.
use Rattle.std.specs.Prelude.{◌≡◌, ℕ, ◌+◌, slice_set}
use Rattle.parser.specs.declared.node.Construct.{Construct}
use Rattle.parser.specs.declared.parser.Done.{Done}
use Rattle.parser.specs.declared.parser.Parser.{Parser}
use Rattle.parser.specs.Actions.{Val, val, node}

abbrev pub value : Done → Val
value d = val d.root d.place d.inner

-- a construct was added as the last node, whose text begins at p
pub record Added (p : ℕ) (c : Construct) (depth : ℕ) (old new : Parser) (d : Done) : Type 0 where
  pub from : new.from ≡ old.from
  pub table : new.nodes.ghost_name ≡ old.nodes.ghost_name
  pub nodes : new.nodes.now ≡ slice_set old.nodes.now old.count (node p c)
  pub count : new.count ≡ old.count + 1
  pub value : value d ≡ val old.count p depth
