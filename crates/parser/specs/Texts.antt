-- Whole texts.
use Rattle.std.specs.Prelude.{◌≡◌, ℕ, Bool, cond, ◌||◌, List, [], length, Some, None, Ok, Err, Option, Result, nat_lt}
use Rattle.syntax.specs.Tree.{Binding}
use Rattle.lexer.specs.Toks.{toks, first_bad}
use Rattle.parser.specs.declared.node.Node.{Node}
use Rattle.parser.specs.declared.fault.TextFault.{TextFault}
use Rattle.parser.specs.declared.fault.TextFault.TheVariants.{TooLong, NoToken, NoQuery, TooLarge}
use Rattle.parser.specs.declared.text.Reading.{Reading}
use Rattle.parser.specs.Actions.{St, state, top, build, bindings_of}
use Rattle.parser.specs.Machine.{Verdict, accepted, refused, verdict, query}

-- what the machine makes of a text, over a table of nodes
abbrev pub judged : List ℕ → List Node → Verdict St
judged bs tbl = verdict build (length bs) query (state [] 0 tbl) (toks bs 0)

abbrev pub reading : List Binding → St → Reading
reading bs st = record { bindings = bindings_of bs; root = (top st).root; inner = (top st).inner; count = st.count }

-- the place where no query goes on, or what was read
abbrev pub outcome : Verdict St → Result Reading ℕ
outcome (accepted bs st) = Ok (reading bs st)
outcome (refused p) = Err p

-- the table after an accepted text
abbrev pub TableAfter : List Node → Verdict St → Type 0
TableAfter tbl (accepted bs st) = tbl ≡ st.table
TableAfter tbl (refused p) = Unit {0}

pub record WholeRead (bs : List ℕ) (was now : List Node) (r : Result Reading ℕ) : Type 0 where
  pub value : r ≡ outcome (judged bs was)
  pub after : TableAfter now (judged bs was)

-- over 64 constructs, or expressions over 12 deep: the outermost is 1 deep
abbrev pub too_large : Reading → Bool
too_large q = nat_lt 64 q.count || nat_lt 11 q.inner

abbrev pub measured : Result Reading ℕ → Result Reading TextFault
measured (Ok q) = cond (too_large q) (Err TooLarge) (Ok q)
measured (Err p) = Err (NoQuery p)

abbrev pub unless_bad : Option ℕ → Result Reading TextFault → Result Reading TextFault
unless_bad (Some p) r = Err (NoToken p)
unless_bad None r = r

-- the refusals in turn over the whole text: its length, its tokens, the grammar, the limits
abbrev pub answered : List ℕ → List Node → Result Reading TextFault
answered bs tbl = cond (nat_lt 4096 (length bs)) (Err TooLong) (unless_bad (first_bad (toks bs 0)) (measured (outcome (judged bs tbl))))
