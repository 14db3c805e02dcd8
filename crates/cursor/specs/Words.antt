-- Fixed bytes at a place.
use Rattle.std.specs.Prelude.{ℕ, List, ◌==◌}
use Rattle.std.specs.List.{common_prefix_len}

-- how many bytes of a word stand at the start of a text
abbrev pub stand : List ℕ → List ℕ → ℕ
stand word bytes = common_prefix_len (λ a b. a == b) word bytes
