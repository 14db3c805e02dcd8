-- What a text says: its query, or the first reason why it is none.
use Rattle.std.specs.Prelude.{◌≡◌, ℕ, ◌+◌, ◌≤◌, Bool, cond, ◌||◌, List, [], length, Some, None, Ok, Err, Option, Result, nat_lt}
use Rattle.syntax.specs.Tree.{Query}
use Rattle.lexer.specs.Toks.{toks, first_bad}
use Rattle.parser.specs.declared.node.Node.{Node}
use Rattle.parser.specs.declared.text.Reading.{Reading}
use Rattle.parser.specs.declared.fault.TextFault.{TextFault}
use Rattle.parser.specs.declared.fault.TextFault.TheVariants.{TooLong, NoToken, NoQuery, TooLarge}
use Rattle.parser.specs.Yields.{Yield, mean, last}
use Rattle.parser.specs.Tables.{constructs, StandsFor}
use Rattle.parser.specs.Machine.{Verdict, accepted, refused, verdict, query}

-- no text is longer, in bytes
abbrev pub longest_text : ℕ
longest_text = 4096

-- no query has more constructs
abbrev pub most_constructs : ℕ
most_constructs = 64

-- no expression stands deeper; the outermost is 1 deep
abbrev pub deepest : ℕ
deepest = 12

-- too many constructs, or expressions too deep within each other
abbrev pub too_large : Yield → Bool
too_large y = nat_lt most_constructs (constructs y.tree) || nat_lt deepest (y.inner + 1)

-- the tokens read as a query, tree by tree
abbrev pub read_as : List ℕ → Verdict (List Yield)
read_as text = verdict mean (length text) query [] (toks text 0)

-- a query that was read, unless it is too large; or the place where no query goes on
abbrev pub measured : Verdict (List Yield) → Result Query TextFault
measured (accepted bs ys) = cond (too_large (last ys)) (Err TooLarge) (Ok (record { bindings = bs; body = (last ys).tree }))
measured (refused place) = Err (NoQuery place)

-- a byte of no token comes before all that
abbrev pub unless_bad : Option ℕ → Result Query TextFault → Result Query TextFault
unless_bad (Some place) r = Err (NoToken place)
unless_bad None r = r

-- the refusals in turn over the whole text: its length, its tokens, the grammar, the limits; else its query
unfoldable pub text_says : List ℕ → Result Query TextFault
text_says text = cond (nat_lt longest_text (length text)) (Err TooLong) (unless_bad (first_bad (toks text 0)) (measured (read_as text)))

-- an answer says of a text what the text says: the query that the table stands for, where it has room for all
-- nodes; or the same refusal
abbrev pub Said : List ℕ → List Node → Result Reading TextFault → Type 0
Said text table (Ok reading) = (q : Query) × (text_says text ≡ Ok q) × (most_constructs ≤ length table → StandsFor text table reading q)
Said text table (Err f) = text_says text ≡ Err f
