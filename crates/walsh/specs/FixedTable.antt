-- The fixed table of document 01: eight spectrum values for each of the 256 functions of three inputs.
use Rattle.std.specs.Prelude.{ℕ, ◌/◌, ◌%◌, ◌^◌, ◌<◌, ◌≡◌, List, ℤ}
use Rattle.boolean.specs.Functions.{value_at, approximation}

-- the function of three inputs with the number t: its value at x is bit x of t, counted from 0
unfoldable pub function_numbered : (t x : ℕ) → ℕ
function_numbered t x = t / 2 ^ x % 2

-- the fixed table's rule: entry 8t + w is the spectrum value at w of the function with the number t
pub record Spectra (fixed : List ℤ) : Type 0 where
  pub rule : (k : ℕ) → k < 2048 → value_at fixed k ≡ approximation 3 (function_numbered (k / 8)) (k % 8)
