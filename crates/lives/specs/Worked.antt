-- Worked cases on their texts, over a roof of two rows. In each the text is
-- `for $c in (roof) return encode(E, "rows")`, so that E begins at byte 31.
use Rattle.std.specs.Prelude.{◌≡◌, ℕ, true, List, [], ◌∷◌, ◌++◌, replicate, ℤ, pos, negsuc, Some, None, Ok, Err, codes, Option, Result}
use Rattle.coverage.specs.declared.axis.Axis.TheVariants.{X}
use Rattle.coverage.specs.declared.refusal.Refusal.{Refusal}
use Rattle.coverage.specs.declared.refusal.Returned.TheVariants.{Two}
use Rattle.coverage.specs.Axes.{Domain, Extents, extents, no_extents, set_axis}
use Rattle.shelf.specs.Meaning.{Coverage, strip_after}
use Rattle.shelf.specs.Faults.{shelf_says}
use Rattle.syntax.specs.Tree.{Query}
use Rattle.parser.specs.Faults.{told}
use Rattle.language.specs.Spans.{span, number}
use Rattle.language.specs.Faults.{refuse}
use Rattle.language.specs.Queries.{Announced, answer, reads}
use Rattle.parser.specs.Says.{text_says}
use Rattle.lives.specs.Shelves.{describes, looks}
use Rattle.lives.specs.Calls.{strip_says, check_says}

-- ---- the roof

-- x 0 to 2, y 0 to 1
abbrev pub roof_domain : Domain
roof_domain = record { x = Some (span (pos 0) (pos 2)); y = Some (span (pos 0) (pos 1)); t = None }

-- it receives numbers from 0 to 100, and all its cells are null
abbrev pub roof : Coverage
roof = record {
  about = record { name = record { len = 4; bytes = codes "roof" ++ replicate 12 0 }; domain = roof_domain; kind = number (pos 0) (pos 100); receives = true };
  cell = λ p. None;
}

-- the shelf with this coverage only, before any strip
abbrev pub blank : List Coverage
blank = roof ∷ []

abbrev pub strip0 : List ℤ
strip0 = pos 10 ∷ pos 20 ∷ pos 30 ∷ []

abbrev pub strip1 : List ℤ
strip1 = pos 40 ∷ pos 50 ∷ pos 60 ∷ []

-- strip 1 has come
abbrev pub second : List Coverage
second = strip_after blank 0 1 strip1

-- and then strip 0
abbrev pub both : List Coverage
both = strip_after second 0 0 strip0

-- ---- what is told of a text

-- the text around an expression
abbrev pub around : List ℕ → List ℕ
around e = codes "for $c in (roof) return encode(" ++ (e ++ codes ", \"rows\")")

-- what a check of the text around E answers, the same before and after strips
abbrev pub Checks : List ℕ → Result Announced Refusal → Type 0
Checks e r = check_says blank 1 (around e) ≡ r

-- announced as a number over a domain, with a promise
abbrev pub accepts : Extents → ℤ → ℤ → ℕ → Result Announced Refusal
accepts d l h n = Ok (record { extents = d; kind = number l h; promise = n })

-- refused by the check, at a byte
abbrev pub refuses : ℕ → ℕ → Result Announced Refusal
refuses n place = Err (refuse n place)

-- the text around E says a query with these cells and these reads, over a shelf
pub record Gives (m : List Coverage) (e : List ℕ) (cells : List (Option ℤ)) (n : ℕ) : Type 0 where
  pub query : Query
  pub says : text_says (around e) ≡ Ok query
  pub cells_are : answer (describes m) (looks m) query ≡ cells
  pub reads_are : reads (describes m) (looks m) query ≡ n

-- ---- the cases

pub record WorkedCasesOnTheirTexts : Type 0 where
  -- span 1 to 101, promise 6; with strip 1 alone three nulls, then 41 51 61, with 6 reads
  pub plus_one : Checks (codes "$c + 1") (accepts (extents roof_domain) (pos 1) (pos 101) 6)
  pub plus_one_cells : Gives second (codes "$c + 1") (None ∷ None ∷ None ∷ Some (pos 41) ∷ Some (pos 51) ∷ Some (pos 61) ∷ []) 6
  -- span 0 to 600; null while a strip is missing, with both 210
  pub add_all_holds : Checks (codes "add($c)") (accepts no_extents (pos 0) (pos 600) 6)
  pub add_all_null : Gives second (codes "add($c)") (None ∷ []) 6
  pub add_all_known : Gives both (codes "add($c)") (Some (pos 210) ∷ []) 6
  -- division drops the fraction, toward zero
  pub minus_seven_halves_holds : Gives blank (codes "-7/2") (Some (negsuc 2) ∷ []) 0
  pub one_over_holds : Checks (codes "1/$c") (refuses 8 31)
  pub equals_true_holds : Checks (codes "$c = true") (refuses 7 31)
  -- a slice inside its axis, and one outside
  pub column_2 : Checks (codes "$c[x(2)]") (accepts (set_axis (extents roof_domain) X None) (pos 0) (pos 100) 2)
  pub column_3 : Checks (codes "$c[x(3)]") (refuses 6 31)
  pub next_in_row_holds : Gives both (codes "condense + over i x (0:1) using $c[x(i+1),y(0)]") (Some (pos 50) ∷ []) 2
  pub next_outside : Checks (codes "condense + over i x (0:2) using $c[x(i+1),y(0)]") (refuses 6 63)
  -- nothing is picked: null, and the bodies stay unread
  pub highest : Checks (codes "condense max over i x (0:2) where $c[x(i),y(0)] > 90 using $c[x(i),y(0)]") (accepts no_extents (pos 0) (pos 100) 6)
  pub highest_null : Gives both (codes "condense max over i x (0:2) where $c[x(i),y(0)] > 90 using $c[x(i),y(0)]") (None ∷ []) 3
  -- on both sides of the widest span
  pub product_inside : Checks (codes "65536*32767") (accepts no_extents (pos 2147418112) (pos 2147418112) 0)
  pub product_beyond : Checks (codes "65536*32768") (refuses 9 31)
  -- strip 1 comes before strip 0; a second time it is refused
  pub strip_1_first : strip_says blank 0 1 strip1 ≡ Ok tt
  pub strip_0_then : strip_says second 0 0 strip0 ≡ Ok tt
  pub strip_1_again : strip_says second 0 1 strip1 ≡ Err (shelf_says 19 (Two 0 1))
  -- one cell, and no reads
  pub one_plus_one_holds : Gives blank (codes "1 + 1") (Some (pos 2) ∷ []) 0
  -- no query goes on with `condense` after an operator
  pub condense_after_plus : Checks (codes "2 + condense") (Err (told 3 35))
