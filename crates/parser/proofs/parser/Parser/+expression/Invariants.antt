use Rattle.std.proofs.Common.{◌+◌, ◌-◌, ◌*◌, ◌≤◌, [], ◌∷◌, length}
use Rattle.parser.specs.Machine.{ladder, subsets}
use Rattle.parser.specs.Built.{value}
use Rattle.parser.specs.Parsed.{Keeps, Reads}
use Rattle.parser.proofs.parser.Parser.+expression.Given as goal

-- what is left of the text, and which function calls which at the same place
abbrev pub decreases-expr : goal.decreases-expr
decreases-expr l = 10 * (length l.self.now.from.text.now - l.self.now.from.at) + 6

abbrev pub decreases-chain : goal.decreases-chain
decreases-chain l = 10 * (length l.self.now.from.text.now - l.self.now.from.at) + 5

abbrev pub decreases-operand : goal.decreases-operand
decreases-operand l = 10 * (length l.self.now.from.text.now - l.self.now.from.at) + 4

abbrev pub decreases-condense : goal.decreases-condense
decreases-condense l = 10 * (length l.self.now.from.text.now - l.self.now.from.at) + 7

abbrev pub decreases-form : goal.decreases-form
decreases-form l = 10 * (length l.self.now.from.text.now - l.self.now.from.at) + 7

abbrev pub decreases-opened : goal.decreases-opened
decreases-opened l = 10 * (length l.self.now.from.text.now - l.self.now.from.at) + 8

abbrev pub decreases-round : goal.decreases-round
decreases-round l = 10 * (length l.self.now.from.text.now - l.self.now.from.at) + 7

abbrev pub decreases-function : goal.decreases-function
decreases-function l = 10 * (length l.self.now.from.text.now - l.self.now.from.at) + 7

abbrev pub decreases-subsets : goal.decreases-subsets
decreases-subsets l = 10 * (length l.self.now.from.text.now - l.self.now.from.at) + 0

abbrev pub decreases-entries : goal.decreases-entries
decreases-entries l = 10 * (length l.self.now.from.text.now - l.self.now.from.at) + 8

abbrev pub decreases-argument : goal.decreases-argument
decreases-argument l = 10 * (length l.self.now.from.text.now - l.self.now.from.at) + 7

abbrev pub invariant-chain-loop-o : goal.invariant-chain-loop-o
invariant-chain-loop-o l = record {
  on : Keeps l.initial.self l.self;
  lowest : l.lowest ≤ l.top;
  read : Reads (ladder l.top 0) (ladder (l.top - l.lowest) l.lowest) (value l.initial.left ∷ []) l.initial.self l.self l.left;
}

abbrev pub decreases-chain-loop-o : goal.decreases-chain-loop-o
decreases-chain-loop-o l = length l.self.from.text.now - l.self.from.at

abbrev pub invariant-subsets-loop-self : goal.invariant-subsets-loop-self
invariant-subsets-loop-self l = record {
  on : Keeps l.initial.self l.self;
  read : Reads (subsets ∷ []) (subsets ∷ []) (value l.initial.d ∷ []) l.initial.self l.self l.d;
}

abbrev pub decreases-subsets-loop-self : goal.decreases-subsets-loop-self
decreases-subsets-loop-self l = length l.self.from.text.now - l.self.from.at
