-- The largest magnitude of some spectrum values, and where it stands first.
use Rattle.std.specs.Prelude.{ℕ, ◌≤◌, ◌<◌, ◌≡◌, List, ℤ, nat_abs, length}
use Rattle.boolean.specs.Functions.{value_at}
use Rattle.boolean.specs.Sums.{largest_below}

-- the largest magnitude of some values, and 0 of none
abbrev pub largest_magnitude : List ℤ → ℕ
largest_magnitude values = largest_below (length values) (λ w. nat_abs (value_at values w))

-- the first place of a magnitude, and the number of values where none has it
pub record FirstOfMagnitude (values : List ℤ) (size place : ℕ) : Type 0 where
  pub within : place ≤ length values
  pub has : place < length values → nat_abs (value_at values place) ≡ size
  pub first : (w : ℕ) → w < place → nat_abs (value_at values w) ≡ size → ⊥
