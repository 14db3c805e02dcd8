-- Which token begins with a byte.
use Rattle.std.proofs.Common.{◌≡◌, ◌≢◌, ℕ, Bool, true, false, eqb, leb, List, length, get_or, Some, slice_get, refl, ◌∙◌, ap}
use Rattle.std.proofs.lemmas.Bool.{lt-leb, ne_eqb}
use Rattle.std.proofs.lemmas.Option.{get_or_from_slice_get, slice_get_within}
use Rattle.lexer.specs.Bytes.{letter, digit}
use Rattle.lexer.specs.Lexing.{word_at, numeral_at, variable_at, rows_at, mark_at, token_at}

module _ (bs : List ℕ) (s b : ℕ) (here : slice_get bs s ≡ Some b) where
  inside : leb (length bs) s ≡ false
  inside = lt-leb (length bs) s (slice_get_within bs s b here)

  pub byte_here : get_or bs s 0 ≡ b
  byte_here = get_or_from_slice_get bs s b 0 here

  letter_here : (r : Bool) → letter b ≡ r → letter (get_or bs s 0) ≡ r
  letter_here r e = ap letter byte_here ∙ e

  digit_here : (r : Bool) → digit b ≡ r → digit (get_or bs s 0) ≡ r
  digit_here r e = ap digit byte_here ∙ e

  other_here : (n : ℕ) → b ≢ n → eqb (get_or bs s 0) n ≡ false
  other_here n h = ap (λ x. eqb x n) byte_here ∙ ne_eqb b n h

  pub word_begins : letter b ≡ true → word_at bs s ≡ token_at bs s
  word_begins l = rw (inside, letter_here true l) refl

  pub numeral_begins : letter b ≡ false → digit b ≡ true → numeral_at bs s ≡ token_at bs s
  numeral_begins l d = rw (inside, letter_here false l, digit_here true d) refl

  pub variable_begins : b ≡ 36 → variable_at bs s ≡ token_at bs s
  variable_begins e = let first : get_or bs s 0 ≡ 36 = byte_here ∙ e in rw (inside, first) refl

  pub rows_begins : b ≡ 34 → rows_at bs s ≡ token_at bs s
  rows_begins e = let first : get_or bs s 0 ≡ 34 = byte_here ∙ e in rw (inside, first) refl

  pub mark_begins : letter b ≡ false → digit b ≡ false → b ≢ 36 → b ≢ 34 → mark_at bs s ≡ token_at bs s
  mark_begins l d dollar quote = rw (inside, letter_here false l, digit_here false d, other_here 36 dollar, other_here 34 quote) refl
