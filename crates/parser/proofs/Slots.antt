-- Items that fill slots one by one, and items that are read one after another.
use Rattle.std.proofs.Common.{◌≡◌, ℕ, ◌<◌, true, List, [], ◌∷◌, ◌++◌, length, slice_set, Some, Option, Ok, Result, refl, sym, subst, ap, arith}
use Rattle.cursor.specs.declared.cursor.Cursor.{Cursor}
use Rattle.lexer.specs.declared.symbol.Symbol.TheVariants.{Comma}
use Rattle.parser.specs.Actions.{filled}
use Rattle.parser.specs.Reads.{Eaten}
use Rattle.parser.specs.Lists.{Chain}

pub filled_more : {T : Type 0} (os : List (Option T)) (xs : List T) (x : T) → length xs < length os → slice_set (filled xs os) (length xs) (Some x) ≡ filled (xs ++ (x ∷ [])) os
filled_more [] xs x h = absurd (omega arith)
filled_more (o ∷ os) [] x h = refl
filled_more (o ∷ os) (y ∷ ys) x h = ap (λ rest. Some y ∷ rest) (filled_more os ys x (omega arith))

-- one item more
pub chain_more : {T : Type 0} (R : Cursor → Cursor → Result T ℕ → Type 0) (a b c d : Cursor) (xs : List T) (x : T) → Chain R a b xs → Eaten Comma b c true → R c d (Ok x) → Chain R a d (xs ++ (x ∷ []))
chain_more R a b c d [] x h e r = (c, d, subst (λ y. Eaten Comma y c true) (sym h) e, r, refl)
chain_more R a b c d (y ∷ ys) x h e r = (h.0, h.1, h.2, h.3, chain_more R h.1 b c d ys x h.4 e r)
