-- Document 02 §13: at an odd n the bound is never met.
use Prim.Native.Nat.{ℕ, ◌-◌, ◌*◌, ◌%◌, ◌^◌}
use mathlib.Core.Path.{◌≡◌}
use native.Mathlib.Omega.{arith}
use Rattle.boolean.proofs.Counts.{pow_square}
use Rattle.claims.specs.Statements.{gap_squared}

-- no power of two with an odd exponent is a square
pub odd_gap : (n d : ℕ) → n % 2 ≡ 1 → ¬ (gap_squared n d ≡ 2 ^ n)
odd_gap n d o e = let t = pow_square n (2 ^ n - 2 * d) e in omega (arith, t.1, o)
