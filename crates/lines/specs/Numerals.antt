-- Numerals of any length: what they are, what they are worth, and how far that can be told.
use Rattle.std.specs.Prelude.{ℕ, ◌+◌, ◌-◌, ◌*◌, min, Bool, true, false, cond, not, ◌&&◌, List, [], ◌∷◌, ◌++◌, ℤ, pos, negsuc, neg_ℤ, fold, ◌==◌, int_le, nat_le}
use Rattle.coverage.specs.Axes.{same_z}
use Rattle.coverage.specs.declared.range.Range.{Range}

-- ---- what they are

abbrev pub is_digit : ℕ → Bool
is_digit b = nat_le 48 b && nat_le b 57

abbrev pub all_digits : List ℕ → Bool
all_digits [] = true
all_digits (b ∷ bs) = is_digit b && all_digits bs

-- a count: digits, one at least
abbrev pub is_count : List ℕ → Bool
is_count [] = false
is_count (b ∷ bs) = is_digit b && all_digits bs

-- a number: at most one minus, then digits, one at least
abbrev pub is_number : List ℕ → Bool
is_number [] = false
is_number (b ∷ bs) = cond (b == 45) (is_count bs) (is_count (b ∷ bs))

-- ---- what they are worth

abbrev pub digit_onto : ℕ → ℕ → ℕ
digit_onto n b = n * 10 + (b - 48)

abbrev pub worth : List ℕ → ℕ
worth ds = fold digit_onto 0 ds

-- the digits after a minus, where there is one
abbrev pub digits_of : List ℕ → List ℕ
digits_of [] = []
digits_of (b ∷ bs) = cond (b == 45) bs (b ∷ bs)

abbrev pub has_minus : List ℕ → Bool
has_minus [] = false
has_minus (b ∷ bs) = b == 45

abbrev pub signed_worth : List ℕ → ℤ
signed_worth w = cond (has_minus w) (neg_ℤ (pos (worth (digits_of w)))) (pos (worth (digits_of w)))

-- ---- how far they can be told

-- a count past 64 bits is told as the largest
abbrev pub told_count : ℕ → ℕ
told_count n = min n 18446744073709551615

-- a number past 64 bits is told as the farthest on its side of 0
abbrev pub told_number : ℤ → ℤ
told_number (pos n) = pos (min n 9223372036854775807)
told_number (negsuc n) = negsuc (min n 9223372036854775806)

-- a cell past ±2,147,483,647 is told as the one value that is of no kind
abbrev pub told_cell : ℤ → ℤ
told_cell z = cond (int_le (negsuc 2147483646) z && int_le z (pos 2147483647)) z (negsuc 2147483647)

-- ends that are told alike though the lowest is above the highest are told as 1 and 0
abbrev pub told_range : ℤ → ℤ → Range
told_range a b =
    cond (same_z (told_number a) (told_number b) && not (int_le a b))
    (record { lo = pos 1; hi = pos 0 })
    (record { lo = told_number a; hi = told_number b })

-- ---- several

-- the words of a text: what stands before, between and after its blanks
abbrev pub words_after : List ℕ → List ℕ → List (List ℕ)
words_after w [] = w ∷ []
words_after w (b ∷ bs) = cond (b == 32) (w ∷ words_after [] bs) (words_after (w ++ (b ∷ [])) bs)

abbrev pub words_of : List ℕ → List (List ℕ)
words_of bs = words_after [] bs

abbrev pub all_numbers : List (List ℕ) → Bool
all_numbers [] = true
all_numbers (w ∷ ws) = is_number w && all_numbers ws

abbrev pub cells_of_words : List (List ℕ) → List ℤ
cells_of_words [] = []
cells_of_words (w ∷ ws) = told_cell (signed_worth w) ∷ cells_of_words ws

-- the cells that a text writes: none where it is empty, else one for each word
abbrev pub cells_of : List ℕ → List ℤ
cells_of [] = []
cells_of (b ∷ bs) = cells_of_words (words_of (b ∷ bs))
