-- Distances to affine functions: of an equal function, of a function with an affine function added, and by the Walsh value.
use mathlib.Core.Path.{◌≡◌, refl, sym, ap, ◌∙◌}
use mathlib.Core.Bool.{not}
use Prim.Native.Nat.{ℕ, suc, ◌+◌, ◌*◌, ◌^◌, ◌<◌, ◌≤◌, min}
use native.Mathlib.Omega.{arith}
use lib.Dec.{eqb}
use lib.Bits.{bit_xor}
use lib.IntN.{ℤ, pos, negsuc, ◌+ℤ◌, ◌-ℤ◌, neg_ℤ, nat_abs, +ℤ_assoc, +ℤ_comm, +ℤ-neg_ℤ_cancel, -ℤ-+ℤ_cancel}
use Rattle.boolean.specs.Bits.{dot, affine}
use Rattle.boolean.specs.Functions.{Boolean, distance, walsh}
use Rattle.boolean.proofs.Cases.{same5}
use Rattle.boolean.proofs.Dots.{dot_bit, dot_xor}
use Rattle.boolean.proofs.Counts.{count_cong}
use Rattle.boolean.proofs.Walsh.{walsh_distance, distance_sum}

pub distance_cong : (n : ℕ) (f g : ℕ → ℕ) (w b : ℕ) → ((x : ℕ) → x < 2 ^ n → f x ≡ g x) → distance n f w b ≡ distance n g w b
unfolding distance
distance_cong n f g w b h = count_cong (2 ^ n) _ _ (λ x l. ap (λ (z : ℕ). not (eqb z (affine w b x))) (h x l))

-- an affine function added to f moves its distances
pub distance_shift : (n : ℕ) (f : ℕ → ℕ) (w b v a : ℕ) → Boolean n f → b < 2 → a < 2
    → distance n (λ x. bit_xor (f x) (affine w b x)) v a ≡ distance n f (bit_xor v w) (bit_xor a b)
unfolding distance affine
distance_shift n f w b v a h hb ha = count_cong (2 ^ n) _ _ (λ x l.
    same5 (λ F D G a b. not (eqb (bit_xor F (bit_xor D b)) (bit_xor G a))) (λ F D G a b. not (eqb F (bit_xor (bit_xor G D) (bit_xor a b)))) tt
    (f x) (dot w x) (dot v x) a b (h x l) (dot_bit w x) (dot_bit v x) ha hb
    ∙ ap (λ (z : ℕ). not (eqb (f x) (bit_xor z (bit_xor a b)))) (sym (dot_xor v w x)))

-- ---- by the Walsh value
module _ (n : ℕ) (f : ℕ → ℕ) (w : ℕ) where
  pub distance_of_walsh_0 : pos (2 * distance n f w 0) ≡ pos (2 ^ n) -ℤ walsh n f w
  distance_of_walsh_0 =
      let e : ℤ = pos (2 * distance n f w 0) in
      sym (+ℤ-neg_ℤ_cancel e (walsh n f w)) ∙ ap (λ (z : ℤ). z -ℤ walsh n f w)
      (+ℤ_comm e (walsh n f w) ∙ ap (λ (z : ℤ). z +ℤ e) (walsh_distance n f w) ∙ -ℤ-+ℤ_cancel (pos (2 ^ n)) e)

  module _ (h : Boolean n f) where
    pub distance_of_walsh_1 : pos (2 * distance n f w 1) ≡ pos (2 ^ n) +ℤ walsh n f w
    distance_of_walsh_1 =
        let e : ℤ = pos (2 * distance n f w 0) in
        let both : 2 * distance n f w 1 + 2 * distance n f w 0 ≡ 2 ^ n + 2 ^ n = omega (arith, distance_sum n f w h) in
        sym (+ℤ-neg_ℤ_cancel (pos (2 * distance n f w 1)) e) ∙ ap (λ (z : ℕ). pos z -ℤ e) both
        ∙ +ℤ_assoc (pos (2 ^ n)) (pos (2 ^ n)) (neg_ℤ e) ∙ ap (λ (z : ℤ). pos (2 ^ n) +ℤ z) (sym (walsh_distance n f w))

    -- a Walsh value k: b = 0 is as near as b = 1, and its distance is (2^n − k) / 2
    pub walsh_pos : (k : ℕ) → walsh n f w ≡ pos k → (2 * distance n f w 0 + k ≡ 2 ^ n) × (distance n f w 0 ≤ distance n f w 1)
    walsh_pos k e =
        let far : 2 * distance n f w 1 ≡ 2 ^ n + k = ap nat_abs (distance_of_walsh_1 ∙ ap (λ (z : ℤ). pos (2 ^ n) +ℤ z) e) in
        omega (arith, distance_sum n f w h)

    -- a Walsh value −k − 1: b = 1 is nearer than b = 0, and its distance is (2^n − k − 1) / 2
    pub walsh_negsuc : (k : ℕ) → walsh n f w ≡ negsuc k → (2 * distance n f w 1 + suc k ≡ 2 ^ n) × (distance n f w 1 < distance n f w 0)
    walsh_negsuc k e =
        let far : 2 * distance n f w 0 ≡ 2 ^ n + suc k = ap nat_abs (distance_of_walsh_0 ∙ ap (λ (z : ℤ). pos (2 ^ n) -ℤ z) e) in
        omega (arith, distance_sum n f w h)

    -- the nearer of the two
    pub distance_walsh : 2 * min (distance n f w 0) (distance n f w 1) + nat_abs (walsh n f w) ≡ 2 ^ n
    distance_walsh = go (walsh n f w) walsh_pos walsh_negsuc
      where
        go : (z : ℤ) → ((k : ℕ) → z ≡ pos k → (2 * distance n f w 0 + k ≡ 2 ^ n) × (distance n f w 0 ≤ distance n f w 1))
            → ((k : ℕ) → z ≡ negsuc k → (2 * distance n f w 1 + suc k ≡ 2 ^ n) × (distance n f w 1 < distance n f w 0))
            → 2 * min (distance n f w 0) (distance n f w 1) + nat_abs z ≡ 2 ^ n
        go (pos k) p q = omega (arith, p k refl)
        go (negsuc k) p q = omega (arith, q k refl)
