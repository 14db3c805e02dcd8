-- The refusals of a check in their turn, on texts over the roof of Worked: 12, then 1 to 4 over the whole text,
-- then bindings and constructs.
use Rattle.std.specs.Prelude.{◌≡◌, ℕ, zero, suc, List, ◌++◌, replicate, pos, Err, codes}
use Rattle.coverage.specs.declared.refusal.Layer.TheVariants as layer
use Rattle.coverage.specs.Axes.{no_extents}
use Rattle.parser.specs.Faults.{told}
use Rattle.lives.specs.Unit.{no_plan}
use Rattle.lives.specs.Calls.{check_says}
use Rattle.lives.specs.Worked.{blank, around, accepts, refuses, Checks}

-- blanks only
abbrev pub blanks : ℕ → List ℕ
blanks n = replicate n 32

-- `1+1+..`, with n operators: 2 n + 1 constructs
abbrev pub sum : ℕ → List ℕ
sum zero = codes "1"
sum (suc n) = sum n ++ codes "+1"

-- 1 within n round brackets: n + 1 deep
abbrev pub within : ℕ → List ℕ
within zero = codes "1"
within (suc n) = codes "(" ++ (within n ++ codes ")")

pub record RefusalsComeInTurn : Type 0 where
  -- 12 before all else
  pub no_such_plan : check_says blank 0 (blanks 4097) ≡ Err (no_plan layer.Check 0)
  pub plan_five : check_says blank 5 (around (codes "1")) ≡ Err (no_plan layer.Check 5)
  -- 1: on both sides of the longest text; one of blanks ends early
  pub too_long : check_says blank 1 (blanks 4097) ≡ Err (told 1 0)
  pub ends_early : check_says blank 1 (blanks 4096) ≡ Err (told 3 4096)
  -- 2: a byte of no token, a `$` alone, a numeral too large, a word too long; before 3, wherever it stands
  pub no_token : Checks (codes "$c + #") (Err (told 2 36))
  pub dollar_alone : Checks (codes "$ c") (Err (told 2 31))
  pub largest_numeral : Checks (codes "2147483647") (accepts no_extents (pos 2147483647) (pos 2147483647) 0)
  pub numeral_too_large : Checks (codes "1 + 2147483648") (Err (told 2 35))
  pub word_too_long : Checks (codes "$c + abcdefghijklmnopq") (Err (told 2 36))
  pub token_before_grammar : Checks (codes "2 + condense #") (Err (told 2 44))
  -- 3 before 4
  pub grammar_before_size : Checks (sum 32 ++ codes "+") (Err (told 3 97))
  -- 4: on both sides of the most constructs and of the deepest expression
  pub most_constructs_holds : Checks (codes "-" ++ sum 31) (accepts no_extents (pos 30) (pos 30) 0)
  pub too_many_constructs : Checks (sum 32) (Err (told 4 0))
  pub deepest_expression : Checks (within 11) (accepts no_extents (pos 1) (pos 1) 0)
  pub too_deep : Checks (within 12) (Err (told 4 0))
  -- 5: an unknown coverage at its name, before an unbound `$` word in the expression
  pub unknown_coverage_holds : check_says blank 1 (codes "for $c in (wall) return encode($d, \"rows\")") ≡ refuses 5 11
  pub unbound_word : Checks (codes "1 + $d") (refuses 5 35)
