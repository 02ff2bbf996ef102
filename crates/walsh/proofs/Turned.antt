-- The butterfly's turns: k of them have crossed the first k numbers of the two halves and left the others. Assumes nothing.
use Rattle.std.proofs.Common.{◌≡◌, ℕ, ◌+◌, ◌≤◌, ◌<◌, List, length, get_or, ℤ, ◌+ℤ◌, ◌-ℤ◌}

pub record Turned {A : Type 0} (whole : A → ℤ) (zero : A) (h k : ℕ) (old new : List A) : Type 0 where
  pub long : length new ≡ length old
  pub sums : (i : ℕ) → i < k → whole (get_or new i zero) ≡ whole (get_or old i zero) +ℤ whole (get_or old (h + i) zero)
  pub differences : (i : ℕ) → i < k → whole (get_or new (h + i) zero) ≡ whole (get_or old i zero) -ℤ whole (get_or old (h + i) zero)
  pub low : (i : ℕ) → k ≤ i → i < h → get_or new i zero ≡ get_or old i zero
  pub high : (i : ℕ) → k ≤ i → i < h → get_or new (h + i) zero ≡ get_or old (h + i) zero
