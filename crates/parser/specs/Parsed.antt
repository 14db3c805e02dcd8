-- What each part of the reader ensures that builds nodes: how far the stack and the state get by it.
use Rattle.std.specs.Prelude.{◌≡◌, ℕ, ◌+◌, ◌≤◌, List, [], ◌++◌, ◌∷◌, Ok, Err, Result}
use Rattle.parser.specs.declared.parser.Done.{Done}
use Rattle.parser.specs.declared.parser.Parser.{Parser}
use Rattle.parser.specs.declared.roles.Opening.{Opening}
use Rattle.parser.specs.declared.text.Reading.{Reading}
use Rattle.syntax.specs.Tree.{Binding}
use Rattle.parser.specs.Actions.{Val, val, St, state, build, bindings_of}
use Rattle.parser.specs.Built.{value}
use Rattle.parser.specs.Machine.{Item, Verdict, accepted, refused, onward, opened, query}
use Rattle.parser.specs.Reads.{on, GoesOn}

-- the state of a reader, with these values
abbrev pub stands : Parser → List Val → St
stands p vs = state vs p.count p.nodes.now

-- what comes of a stack and values from a reader's place on
abbrev pub due : Parser → List Item → List Val → Verdict St
due p s vs = on p.from s (stands p vs)

-- further on in the same text, over the same table
pub record Keeps (old new : Parser) : Type 0 where
  pub on : GoesOn old.from new.from
  pub table : new.nodes.ghost_name ≡ old.nodes.ghost_name

-- the items x, with the values us on top, are read from old to new, and leave the items y and the value of d.
-- No node is without a byte of its own
pub record Reads (x y : List Item) (us : List Val) (old new : Parser) (d : Done) : Type 0 where
  pub forward : old.from.at ≤ new.from.at
  pub few : new.count + old.from.at ≤ old.count + new.from.at
  pub turns : (s : List Item) (vs : List Val) → due old (x ++ s) (us ++ vs) ≡ due new (y ++ s) (value d ∷ vs)

-- they cannot be read: p is the place
abbrev pub Fails : List Item → List Val → Parser → ℕ → Type 0
Fails x us old p = (s : List Item) (vs : List Val) → due old (x ++ s) (us ++ vs) ≡ refused p

abbrev pub Parsed : List Item → List Val → Parser → Parser → Result Done ℕ → Type 0
Parsed x us old new (Ok d) = Reads x [] us old new d
Parsed x us old new (Err p) = Fails x us old p

-- what comes of a symbol before a reader's place, at p, that begins an operand
abbrev pub opens : Opening → ℕ → Parser → List Item → List Val → Verdict St
opens o p old s vs = onward (λ s' st'. on old.from s' st') p (opened build o p (stands old vs) s)

-- what follows the symbol
pub record Opens (o : Opening) (p : ℕ) (old new : Parser) (d : Done) : Type 0 where
  pub forward : old.from.at ≤ new.from.at
  pub few : new.count + old.from.at ≤ old.count + new.from.at + 1
  pub turns : (s : List Item) (vs : List Val) → opens o p old s vs ≡ due new s (value d ∷ vs)

abbrev pub OpenedRead : Opening → ℕ → Parser → Parser → Result Done ℕ → Type 0
OpenedRead o p old new (Ok d) = Opens o p old new d
OpenedRead o p old new (Err q) = (s : List Item) (vs : List Val) → opens o p old s vs ≡ refused q

-- the place where no query goes on, or the query: what comes of it
abbrev pub QueryRead : Parser → Parser → Result Reading ℕ → Type 0
QueryRead old new (Ok r) = (bs : List Binding) × (p : ℕ) × (bindings_of bs ≡ r.bindings) × (r.count ≡ new.count) × (due old query [] ≡ accepted bs (stands new (val r.root p r.inner ∷ [])))
QueryRead old new (Err p) = due old query [] ≡ refused p
