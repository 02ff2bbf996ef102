-- A count over all inputs does not change where each input is changed in the same bits. Assumes nothing.
use mathlib.Core.Path.{◌≡◌, sym, ap, ap₂, ◌∙◌}
use mathlib.Core.Bool.{Bool}
use Prim.Native.Nat.{ℕ, zero, suc, ◌+◌, ◌^◌, ◌<◌}
use native.Mathlib.Nat.{add_comm}
use lib.Arith.{lt-one}
use lib.Bits.{bit_xor, xor_zero_r}
use Rattle.boolean.specs.Sums.{count_below}
use Rattle.boolean.proofs.Counts.{count_cong, count_halves}
use Rattle.boolean.proofs.Transform.{half_cases, xor_01, xor_10, xor_11}

-- a count over all numbers of n bits does not change where each is XORed with the same number
pub count_shift : (n e : ℕ) → e < 2 ^ n → (p : ℕ → Bool) → count_below (2 ^ n) (λ x. p (bit_xor x e)) ≡ count_below (2 ^ n) p
count_shift zero e h p = count_cong (2 ^ 0) _ _ (λ x l. ap p (ap (bit_xor x) (lt-one h) ∙ xor_zero_r x))
count_shift (suc n) e h p = half_cases n (λ e. (p : ℕ → Bool) → count_below (2 ^ suc n) (λ x. p (bit_xor x e)) ≡ count_below (2 ^ suc n) p)
    (λ e l p.
    count_halves n (λ x. p (bit_xor x e))
    ∙ ap₂ (λ (i j : ℕ). i + j) (count_shift n e l p) (count_cong (2 ^ n) _ _ (λ x m. ap p (xor_10 n x e m l)) ∙ count_shift n e l (λ x. p (2 ^ n + x)))
    ∙ sym (count_halves n p))
    (λ e l p.
    count_halves n (λ x. p (bit_xor x (2 ^ n + e)))
    ∙ ap₂ (λ (i j : ℕ). i + j) (count_cong (2 ^ n) _ _ (λ x m. ap p (xor_01 n x e m l)) ∙ count_shift n e l (λ x. p (2 ^ n + x)))
    (count_cong (2 ^ n) _ _ (λ x m. ap p (xor_11 n x e m l)) ∙ count_shift n e l p)
    ∙ add_comm (count_below (2 ^ n) (λ x. p (2 ^ n + x))) (count_below (2 ^ n) p) ∙ sym (count_halves n p)) e h p
