-- One input more: where the smaller function is asked, what that gives, and how large a row of the new box is. Assumes nothing.
use Prim.Native.Nat.{ℕ, suc, ◌+◌, ◌-◌, ◌*◌, ◌%◌, ◌^◌, ◌≤◌, ◌<◌}
use mathlib.Core.Path.{◌≡◌, sym, ap, ◌∙◌}
use mathlib.Core.Bool.{Bool, true, false, cond}
use native.Mathlib.Nat.{two-pow-succ}
use native.Mathlib.Decide.{dec_lt}
use native.Mathlib.Numerals.{add-one}
use native.Mathlib.Omega.{arith}
use borrow.Author.Tests.{lt-ltb, le-ltb}
use lib.Bits.{bit_xor, xor_lt, xor_zero_r}
use lib.Dec.{ltb, eqb}
use lib.Pow.{pow-lt, shl_exact}
use Rattle.constructions.specs.Enlargement.{enlarged}
use Rattle.constructions.specs.Work.{source_of, Enlarges}

-- one input more, as the code says it and as the table does
pub one_more : (room n : ℕ) {r : Bool} → r ≡ eqb room (2 ^ (n + 1)) → r ≡ eqb room (2 ^ suc n)
one_more room n e = e ∙ ap (λ (j : ℕ). eqb room (2 ^ j)) (add-one n)

module _ (n k x : ℕ) where
  -- the source in the lower half, and in the upper
  pub source_lower : x < 2 ^ n → x ≡ source_of n k x
  unfolding source_of
  source_lower l = sym (rw (lt-ltb x (2 ^ n) l))

  pub source_upper : 2 ^ n ≤ x → bit_xor (x - 2 ^ n) (2 ^ (k - 1)) ≡ source_of n k x
  unfolding source_of
  source_upper l = sym (rw (le-ltb x (2 ^ n) l))

  -- the flip stays below 2^n
  pub flipped_lt : Enlarges n k → 2 ^ n ≤ x → x < 2 ^ suc n → bit_xor (x - 2 ^ n) (2 ^ (k - 1)) < 2 ^ n
  flipped_lt e l u = xor_lt n (x - 2 ^ n) (2 ^ (k - 1)) (omega (arith, two-pow-succ n)) (pow-lt (omega (arith, e.k_low, e.k_high)))

  module _ (f : ℕ → ℕ) where
    pub enlarged_lower : (a : ℕ) → x < 2 ^ n → f (source_of n k x) ≡ enlarged n f k a x
    unfolding enlarged
    enlarged_lower a l = ap f (sym (source_lower l)) ∙ sym (rw (lt-ltb x (2 ^ n) l))

    pub enlarged_upper : (a : ℕ) → 2 ^ n ≤ x → bit_xor (f (source_of n k x)) a ≡ enlarged n f k a x
    unfolding enlarged
    enlarged_upper a l = ap (λ (s : ℕ). bit_xor (f s) a) (sym (source_upper l)) ∙ sym (rw (le-ltb x (2 ^ n) l))

    -- with the constant 0 both halves are looked up alike
    pub enlarged_zero : f (source_of n k x) ≡ enlarged n f k 0 x
    enlarged_zero = halves (dec_lt x (2 ^ n))
      where
        halves : Dec (x < 2 ^ n) → f (source_of n k x) ≡ enlarged n f k 0 x
        halves (yes l) = enlarged_lower 0 l
        halves (no g) = sym (xor_zero_r (f (source_of n k x))) ∙ enlarged_upper 0 (omega arith)

    -- values of so many bits stay values of so many bits
    pub enlarged_lt : (a bits : ℕ) → ((y : ℕ) → f y < 2 ^ bits) → a < 2 ^ bits → enlarged n f k a x < 2 ^ bits
    unfolding enlarged
    enlarged_lt a bits h ha = halves (ltb x (2 ^ n))
      where
        halves : (b : Bool) → cond b (f x) (bit_xor (f (bit_xor (x - 2 ^ n) (2 ^ (k - 1)))) a) < 2 ^ bits
        halves true = h x
        halves false = xor_lt bits (f (bit_xor (x - 2 ^ n) (2 ^ (k - 1)))) a (h (bit_xor (x - 2 ^ n) (2 ^ (k - 1)))) ha

-- the new top bit of a row: its shift stays within 32 bits
module _ (n top : ℕ) (high : n ≤ 7) (bit : top < 2) where
  pub shifted : top * 2 ^ n % 2 ^ 32 ≡ top * 2 ^ n
  shifted = shl_exact 1 n 32 bit (omega arith)
