-- What a test of bytes computes.
use Rattle.std.specs.Prelude.{◌≡◌, ℕ, ◌<◌, Bool}
use Rattle.std.specs.Fn.{Shared}

-- of each byte the test answers what p says
abbrev pub Computes : {F : Type 0} → Shared F (ℕ × Unit {0}) Bool → (ℕ → Bool) → F → Type 0
Computes g p test = (b : ℕ) (r : Bool) → b < 256 → g.post test (b, tt) r → r ≡ p b
