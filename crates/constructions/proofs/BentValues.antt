-- A value of the bent form: the two halves of the input's bits, and what the tables then give. Assumes nothing.
use Prim.Native.Nat.{ℕ, ◌+◌, ◌/◌, ◌%◌, ◌^◌, ◌≤◌, ◌<◌}
use mathlib.Core.Path.{◌≡◌, sym, ap, ◌∙◌, subst}
use mathlib.Core.List.{List}
use native.Mathlib.Nat.{mod-lt}
use native.Mathlib.Omega.{arith}
use lib.Bits.{bit_xor}
use lib.Pow.{pow_pos, pow_mono, shr_lt}
use Rattle.boolean.specs.Bits.{dot}
use Rattle.boolean.specs.Functions.{at}
use Rattle.constructions.specs.BentForm.{bent_form}

-- the input's two halves, each a place of the tables, where the size is 2^h
pub record Halves (z size : ℕ) : Type 0 where
  pub positive : 0 < size
  pub small : size ≤ 16
  pub upper : z / size < size
  pub lower : z % size < size

module _ (h z size : ℕ) (e : size ≡ 2 ^ h) where
  pub halves : h ≤ 4 → z < 2 ^ (h + h) → Halves z size
  halves high l =
      let positive : 0 < size = omega (arith, pow_pos h) in
      record {
        positive = positive;
        small = omega (arith, pow_mono {j = 4} high);
        upper = subst (λ (s : ℕ). z / s < s) (sym e) (shr_lt h h l);
        lower = mod-lt z positive;
      }

  pub bent_is : (permutation table : List ℕ) (d : ℕ) → d ≡ dot (at permutation (z / size)) (z % size)
      → bit_xor d (at table (z / size)) ≡ bent_form h permutation table z
  unfolding bent_form
  bent_is permutation table d r =
      ap (λ (v : ℕ). bit_xor v (at table (z / size))) r ∙ ap (λ (s : ℕ). bit_xor (dot (at permutation (z / s)) (z % s)) (at table (z / s))) e
