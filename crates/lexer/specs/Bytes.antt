-- Kinds of bytes, and runs of them.
use Rattle.std.specs.Prelude.{ℕ, Bool, ◌||◌, List, drop, ◌==◌}
use Rattle.std.specs.Char.{is_ascii_alphabetic, is_ascii_digit}
use Rattle.std.specs.List.{prefix_len}
use Rattle.coverage.specs.Limits.{is_word_byte}

-- an ASCII letter
abbrev pub letter : ℕ → Bool
letter = is_ascii_alphabetic

-- a digit
abbrev pub digit : ℕ → Bool
digit = is_ascii_digit

-- separators are the bytes 9, 10, 13 and 32
abbrev pub blank : ℕ → Bool
blank b = b == 9 || b == 10 || b == 13 || b == 32

-- a word goes on with letters, digits and underscores
abbrev pub part : ℕ → Bool
part = is_word_byte

-- how many bytes of a kind stand in a row from s on
abbrev pub run : (ℕ → Bool) → List ℕ → ℕ → ℕ
run p bs s = prefix_len p (drop s bs)
