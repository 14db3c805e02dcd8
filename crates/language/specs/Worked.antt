-- Worked cases: queries over a roof of two rows. In each the query reads
-- `for $c in (roof) return encode(E, "rows")`, so that E begins at byte 31.
use Rattle.std.specs.Prelude.{◌≡◌, ℕ, ◌+◌, Bool, true, false, cond, ◌&&◌, ◌||◌, List, [], ◌∷◌, ℤ, pos, negsuc, ◌+ℤ◌, ◌*ℤ◌, Some, None, Ok, Err, codes, Result}
use Rattle.std.specs.Str.{bytes_eq}
use Rattle.coverage.specs.declared.axis.Axis.TheVariants.{X, Y, T}
use Rattle.coverage.specs.declared.refusal.Refusal.{Refusal}
use Rattle.coverage.specs.Axes.{Extents, no_extents, set_axis, same_z}
use Rattle.syntax.specs.declared.Unary.TheVariants.{Minus}
use Rattle.syntax.specs.declared.Arithmetic.TheVariants.{Plus, Multiply, Divide}
use Rattle.syntax.specs.declared.Comparison.TheVariants.{Equal, Greater}
use Rattle.syntax.specs.declared.Binary.TheVariants.{Numbers, Compares}
use Rattle.syntax.specs.declared.Fold.TheVariants.{Sum, Greatest}
use Rattle.syntax.specs.declared.Reduce.TheVariants.{Whole}
use Rattle.syntax.specs.Tree.{Word, Iterator, Expr, at, numeral, truth, name, iterator, unary, binary, reduce, slice, condense, condense_where, Binding, Query}
use Rattle.language.specs.Spans.{span, number}
use Rattle.language.specs.Typing.{Described}
use Rattle.language.specs.Faults.{refuse}
use Rattle.language.specs.Values.{Looks}
use Rattle.language.specs.Queries.{Announced, checked, answer, reads}

-- ---- the roof: x 0 to 2, y 0 to 1, values 0 to 100

-- its domain
abbrev pub roof_extents : Extents
roof_extents X = Some (span (pos 0) (pos 2))
roof_extents Y = Some (span (pos 0) (pos 1))
roof_extents T = None

-- the shelf has this coverage only
abbrev pub roof : Described
roof w = cond (bytes_eq w (codes "roof")) (Some (record { extents = roof_extents; kind = number (pos 0) (pos 100) })) None

-- strip 0 is 10 20 30, strip 1 is 40 50 60; which of them are there
abbrev pub strips : Bool → Bool → Looks
strips a b w p = cond ((same_z (p Y) (pos 0) && a) || (same_z (p Y) (pos 1) && b)) (Some ((pos 10 +ℤ (pos 10 *ℤ p X)) +ℤ (pos 30 *ℤ p Y))) None

-- both strips are there
abbrev pub both : Looks
both = strips true true

-- only the second is
abbrev pub strip1 : Looks
strip1 = strips false true

-- ---- queries

-- the `$` word
abbrev pub c : Word
c = codes "c"

-- `$c in (roof)`
abbrev pub binding : Binding
binding = record { word = c; word_place = 4; coverage = codes "roof"; coverage_place = 11 }

-- the query around E
abbrev pub query : Expr → Query
query e = record { bindings = binding ∷ []; body = e }

-- `$c + 1`
abbrev pub plus_one : Query
plus_one = query (at 31 (binary (Numbers Plus) (at 31 (name c)) (at 36 (numeral 1))))

-- `add($c)`
abbrev pub add_all : Query
add_all = query (at 31 (reduce (Whole Sum) (at 35 (name c))))

-- `-7/2`
abbrev pub minus_seven_halves : Query
minus_seven_halves = query (at 31 (binary (Numbers Divide) (at 31 (unary Minus (at 32 (numeral 7)))) (at 34 (numeral 2))))

-- `1/$c`
abbrev pub one_over : Query
one_over = query (at 31 (binary (Numbers Divide) (at 31 (numeral 1)) (at 33 (name c))))

-- `$c = true`
abbrev pub equals_true : Query
equals_true = query (at 31 (binary (Compares Equal) (at 31 (name c)) (at 36 (truth true))))

-- `$c[x(n)]`
abbrev pub column : ℕ → Query
column n = query (at 31 (slice false X (at 31 (name c)) (at 36 (numeral n))))

-- `i x (0:n)`
abbrev pub over_x : ℕ → List Iterator
over_x n = record { word = codes "i"; axis = X; range = span (pos 0) (pos n) } ∷ []

-- `condense + over i x (0:n) using $c[x(i+1),y(0)]`
abbrev pub next_in_row : ℕ → Query
next_in_row n =
    query (at 31 (condense Sum (over_x n) (at 63 (slice false Y (at 63 (slice false X (at 63 (name c)) (at 68 (binary (Numbers Plus) (at 68 (iterator (codes "i"))) (at 70 (numeral 1)))))) (at 75 (numeral 0))))))

-- `$c[x(i),y(0)]` at a place
abbrev pub in_row : ℕ → Expr
in_row b = at b (slice false Y (at b (slice false X (at b (name c)) (at (b + 5) (iterator (codes "i"))))) (at (b + 10) (numeral 0)))

-- `condense max over i x (0:2) where $c[x(i),y(0)] > 90 using $c[x(i),y(0)]`
abbrev pub highest : Query
highest = query (at 31 (condense_where Greatest (over_x 2) (at 65 (binary (Compares Greater) (in_row 65) (at 81 (numeral 90)))) (in_row 90)))

-- `65536*n`
abbrev pub product : ℕ → Query
product n = query (at 31 (binary (Numbers Multiply) (at 31 (numeral 65536)) (at 37 (numeral n))))

-- `1 + 1`
abbrev pub one_plus_one : Query
one_plus_one = query (at 31 (binary (Numbers Plus) (at 31 (numeral 1)) (at 35 (numeral 1))))

-- `for $c in (roof), $c in (roof) return encode($c, "rows")`
abbrev pub bound_twice : Query
bound_twice = record { bindings = binding ∷ record { word = c; word_place = 18; coverage = codes "roof"; coverage_place = 25 } ∷ []; body = at 45 (name c) }

-- `for $c in (wall) return encode($d, "rows")`
abbrev pub unknown_coverage : Query
unknown_coverage = record { bindings = record { word = c; word_place = 4; coverage = codes "wall"; coverage_place = 11 } ∷ []; body = at 31 (name (codes "d")) }

-- ---- what comes of them

-- a number is announced
abbrev pub accepts : Extents → ℤ → ℤ → ℕ → Result Announced Refusal
accepts d l h n = Ok (record { extents = d; kind = number l h; promise = n })

-- the check refuses, by a number at a place
abbrev pub refuses : ℕ → ℕ → Result Announced Refusal
refuses n place = Err (refuse n place)

-- the cases
pub record WorkedCases : Type 0 where
  -- span 1 to 101, promise 6; with strip 1 alone three nulls, then 41 51 61, with 6 reads
  pub plus_one_holds : checked roof plus_one ≡ accepts roof_extents (pos 1) (pos 101) 6
  pub plus_one_cells : answer roof strip1 plus_one ≡ None ∷ None ∷ None ∷ Some (pos 41) ∷ Some (pos 51) ∷ Some (pos 61) ∷ []
  pub plus_one_reads : reads roof strip1 plus_one ≡ 6
  -- span 0 to 600; null while a strip is missing, then 210
  pub add_all_holds : checked roof add_all ≡ accepts no_extents (pos 0) (pos 600) 6
  pub add_all_null : answer roof strip1 add_all ≡ None ∷ []
  pub add_all_known : answer roof both add_all ≡ Some (pos 210) ∷ []
  pub add_all_reads : reads roof both add_all ≡ 6
  -- the fraction is dropped toward zero
  pub minus_seven_halves_holds : answer roof both minus_seven_halves ≡ Some (negsuc 2) ∷ []
  pub one_over_holds : checked roof one_over ≡ refuses 8 31
  pub equals_true_holds : checked roof equals_true ≡ refuses 7 31
  -- a slice inside its axis, and one outside
  pub column_2 : checked roof (column 2) ≡ accepts (set_axis roof_extents X None) (pos 0) (pos 100) 2
  pub column_3 : checked roof (column 3) ≡ refuses 6 31
  pub next_in_row_holds : checked roof (next_in_row 1) ≡ accepts no_extents (pos 0) (pos 200) 2
  pub next_in_row_sum : answer roof both (next_in_row 1) ≡ Some (pos 50) ∷ []
  pub next_in_row_reads : reads roof both (next_in_row 1) ≡ 2
  pub next_outside : checked roof (next_in_row 2) ≡ refuses 6 63
  -- nothing picked gives null; the bodies stay unread
  pub highest_null : answer roof both highest ≡ None ∷ []
  pub highest_reads : reads roof both highest ≡ 3
  pub highest_promise : checked roof highest ≡ accepts no_extents (pos 0) (pos 100) 6
  -- on both sides of the widest span
  pub product_inside : checked roof (product 32767) ≡ accepts no_extents (pos 2147418112) (pos 2147418112) 0
  pub product_beyond : checked roof (product 32768) ≡ refuses 9 31
  -- one cell, and no reads
  pub one_plus_one_holds : answer roof both one_plus_one ≡ Some (pos 2) ∷ []
  pub one_plus_one_reads : reads roof both one_plus_one ≡ 0
  -- a `$` word bound twice, at the second; an unknown coverage, before the unbound `$` word
  pub bound_twice_holds : checked roof bound_twice ≡ refuses 5 18
  pub unknown_coverage_holds : checked roof unknown_coverage ≡ refuses 5 11
