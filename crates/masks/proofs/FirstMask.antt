-- The first mask from c on with at most i ones: every number before r has more. Assumes nothing.
use mathlib.Core.Path.{◌≡◌, ap}
use Prim.Native.Nat.{ℕ, suc, ◌^◌, ◌≤◌, ◌<◌}
use native.Mathlib.Nat.{le_refl, le_of_suc-le-suc, lt_of_not-le}
use native.Mathlib.Decide.{dec_lt, ℕ_discrete}
use native.Mathlib.Omega.{arith}
use lib.Count.{ones}
use Rattle.boolean.proofs.OneBit.{ones_power}
use Rattle.masks.specs.Masks.{FirstFrom, Next}

pub record Searched (i c r : ℕ) : Type 0 where
  pub limit : 1 ≤ i
  pub low : c ≤ r
  pub high : r ≤ 2 ^ 32
  pub between : (x : ℕ) → c ≤ x → x < r → i < ones x

pub search_starts : (i c : ℕ) → 1 ≤ i → c < 2 ^ 32 → Searched i c c
search_starts i c l h = record { limit = l; low = le_refl c; high = omega arith; between = λ x p q. absurd (omega arith) }

module _ {i c r : ℕ} (s : Searched i c r) where
  -- 2^32 has a single one
  pub search_below : i < ones r → r < 2 ^ 32
  search_below more = pick (ℕ_discrete r (2 ^ 32))
    where
      pick : Dec (r ≡ 2 ^ 32) → r < 2 ^ 32
      pick (yes e) = absurd (omega (arith, ap ones e, ones_power 32, s.limit))
      pick (no e) = omega (arith, s.high)

  pub search_next : {next : ℕ} → i < ones r → Next (ones r) r next → Searched i c next
  search_next {next} more after = record {
    limit = s.limit;
    low = omega (arith, s.low, after.above);
    high = le_of_suc-le-suc (lt_of_not-le (λ (g : suc (2 ^ 32) ≤ next). absurd (omega (arith, after.between (2 ^ 32) (search_below more) g, ones_power 32, s.limit))));
    between = λ x l k. here x l k (dec_lt x r) (ℕ_discrete x r);
  }
    where
      here : (x : ℕ) → c ≤ x → x < next → Dec (x < r) → Dec (x ≡ r) → i < ones x
      here x l k (yes h) e = s.between x l h
      here x l k (no h) (yes e) = omega (arith, ap ones e)
      here x l k (no h) (no e) = omega (arith, after.between x (omega arith) k)

  pub search_ends : ones r ≤ i → FirstFrom i c r
  search_ends few = record { low = s.low; few = few; between = s.between }
