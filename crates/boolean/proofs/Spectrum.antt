-- The Walsh values of a 0/1 function, which are twice its spectrum: Parseval in naturals and what follows, inversion, and the autocorrelation.
use mathlib.Core.Path.{◌≡◌, refl, sym, ap, ap₂, ◌∙◌}
use Prim.Native.Nat.{ℕ, zero, suc, ◌+◌, ◌*◌, ◌/◌, ◌^◌, ◌<◌, ◌≤◌}
use native.Mathlib.Nat.{le_of_eq, mul-one, mul-div_right, mul-zero, not-suc-le-zero}
use native.Mathlib.Omega.{arith}
use lib.Pow.{pow_pos}
use lib.Bits.{bit_xor, xor_lt}
use lib.IntN.{ℤ, pos, negsuc, ◌+ℤ◌, ◌-ℤ◌, ◌*ℤ◌, neg_ℤ, nat_abs, +ℤ_idl, *ℤ_comm, *ℤ-one, -ℤ-+ℤ_cancel, +ℤ_invr}
use Rattle.boolean.specs.Bits.{dot}
use Rattle.boolean.specs.Functions.{sign, walsh, transform, autocorrelation, square, Boolean, sign_bit}
use Rattle.boolean.specs.Sums.{sum_below, total_below}
use Rattle.boolean.proofs.Ints.{*ℤ-left-comm, *ℤ-neg, neg_neg, *ℤ-distl}
use Rattle.boolean.proofs.Dots.{bit_cases}
use Rattle.boolean.proofs.Sums.{sum_cong, sum_mul}
use Rattle.boolean.proofs.Counts.{total_tight, some_large, pow_square}
use Rattle.boolean.proofs.Transform.{cross, transform_cong, parseval, inversion, convolution}
use Rattle.boolean.proofs.Walsh.{agree_signs, walsh_transform}

-- ---- squares and totals, in ℤ and in ℕ
pub square_is : (z : ℤ) → z *ℤ z ≡ pos (square z)
unfolding square
square_is (pos n) = refl
square_is (negsuc n) = refl

pub total_is : (k : ℕ) (f : ℕ → ℕ) → sum_below k (λ x. pos (f x)) ≡ pos (total_below k f)
unfolding sum_below total_below
total_is zero f = refl
total_is (suc k) f = ap (λ (z : ℤ). z +ℤ pos (f k)) (total_is k f)

total_ones : (k : ℕ) → total_below k (λ x. 1) ≡ k
unfolding total_below
total_ones zero = refl
total_ones (suc k) = omega (arith, total_ones k)

sign_square : (b : ℕ) → sign b *ℤ sign b ≡ pos 1
unfolding sign
sign_square zero = refl
sign_square (suc b) = refl

-- ---- Parseval: the squares of the Walsh values make 2^n * 2^n
pub walsh_parseval : (n : ℕ) (f : ℕ → ℕ) → Boolean n f → total_below (2 ^ n) (λ w. square (walsh n f w)) ≡ 2 ^ n * 2 ^ n
walsh_parseval n f h = ap nat_abs
    (sym (total_is (2 ^ n) (λ w. square (walsh n f w)))
    ∙ sum_cong (2 ^ n) _ _ (λ w l. sym (square_is (walsh n f w)) ∙ ap (λ (z : ℤ). z *ℤ z) (walsh_transform n f w h))
    ∙ parseval n (λ x. sign (f x))
    ∙ ap (λ (z : ℤ). pos (2 ^ n) *ℤ z) (sum_cong (2 ^ n) _ _ (λ x l. sign_square (f x)) ∙ total_is (2 ^ n) (λ x. 1) ∙ ap pos (total_ones (2 ^ n))))

-- some Walsh value is at least 2^(n/2) in size
pub some_walsh_large : (n : ℕ) (f : ℕ → ℕ) → Boolean n f → (w : ℕ) × (w < 2 ^ n) × (2 ^ n ≤ square (walsh n f w))
some_walsh_large n f h = some_large (2 ^ n) (2 ^ n) (λ w. square (walsh n f w)) (pow_pos n) (le_of_eq (sym (walsh_parseval n f h)))

-- where none is larger all are that large
pub bent_flat : (n : ℕ) (f : ℕ → ℕ) → Boolean n f → ((w : ℕ) → w < 2 ^ n → square (walsh n f w) ≤ 2 ^ n) → (w : ℕ) → w < 2 ^ n → square (walsh n f w) ≡ 2 ^ n
bent_flat n f h b = total_tight (2 ^ n) (2 ^ n) (λ w. square (walsh n f w)) b (walsh_parseval n f h)

-- and n is even, with every value 2^(n/2) in size
pub bent_even : (n : ℕ) (f : ℕ → ℕ) → Boolean n f → ((w : ℕ) → w < 2 ^ n → square (walsh n f w) ≤ 2 ^ n)
    → (w : ℕ) → w < 2 ^ n → (m : ℕ) × (n ≡ m + m) × (nat_abs (walsh n f w) ≡ 2 ^ m)
unfolding square
bent_even n f h b w l = pow_square n (nat_abs (walsh n f w)) (bent_flat n f h b w l)

-- ---- inversion
pub walsh_inversion : (n : ℕ) (f : ℕ → ℕ) → Boolean n f → (x : ℕ) → x < 2 ^ n → transform n (λ w. walsh n f w) x ≡ pos (2 ^ n) *ℤ sign (f x)
walsh_inversion n f h x l = transform_cong n _ _ x (λ w k. walsh_transform n f w h) ∙ inversion n (λ x. sign (f x)) x l

pub transform_mul : (n : ℕ) (c : ℤ) (F : ℕ → ℤ) (w : ℕ) → transform n (λ x. c *ℤ F x) w ≡ c *ℤ transform n F w
unfolding transform
transform_mul n c F w = sum_cong (2 ^ n) _ _ (λ x l. *ℤ-left-comm (sign (dot w x)) c (F x)) ∙ sum_mul c (2 ^ n) (λ x. sign (dot w x) *ℤ F x)

-- a positive factor cancels
cancelℕ : (m a b : ℕ) → zero < m → m * a ≡ m * b → a ≡ b
cancelℕ m a b p e = sym (mul-div_right a p) ∙ ap (λ (z : ℕ). z / m) e ∙ mul-div_right b p

zero_factor : (m : ℕ) (z : ℤ) → zero < m → pos m *ℤ z ≡ pos zero → z ≡ pos zero
zero_factor m (pos x) p e = ap pos (cancelℕ m x 0 p (ap nat_abs e ∙ sym (mul-zero m)))
zero_factor m (negsuc x) p e =
    absurd (let d : suc x ≡ 0 = cancelℕ m (suc x) 0 p (ap nat_abs (sym (neg_neg (pos (m * suc x))) ∙ ap neg_ℤ e) ∙ sym (mul-zero m)) in omega arith)

pub cancelℤ : (m : ℕ) (a b : ℤ) → zero < m → pos m *ℤ a ≡ pos m *ℤ b → a ≡ b
cancelℤ m a b p e =
    sym (-ℤ-+ℤ_cancel a b)
    ∙ ap (λ (z : ℤ). z +ℤ b)
    (zero_factor m (a -ℤ b) p
    (*ℤ-distl (pos m) a (neg_ℤ b) ∙ ap₂ (λ (x y : ℤ). x +ℤ y) e (*ℤ-neg (pos m) b) ∙ +ℤ_invr (pos m *ℤ b)))
    ∙ +ℤ_idl b

-- an integer of a known size, by its sign
pub sign_bit_neg : (m : ℕ) → zero < m → neg_ℤ (pos m) ≡ pos m *ℤ sign (sign_bit (neg_ℤ (pos m)))
unfolding sign sign_bit
sign_bit_neg zero p = absurd (not-suc-le-zero p)
sign_bit_neg (suc m) p = ap (λ (k : ℕ). neg_ℤ (pos k)) (sym (mul-one (suc m)))

pub sign_bit_pos : (m : ℕ) → pos m ≡ pos m *ℤ sign (sign_bit (pos m))
unfolding sign sign_bit
sign_bit_pos m = ap pos (sym (mul-one m))

pub sign_bit_lt : (z : ℤ) → sign_bit z < 2
unfolding sign_bit
sign_bit_lt (pos n) = omega arith
sign_bit_lt (negsuc n) = omega arith

pub sign_zero : sign 0 ≡ lib.IntN.one
unfolding sign lib.IntN.one
sign_zero = refl

pub sign_suc : (b : ℕ) → sign (suc b) ≡ neg_ℤ (pos 1)
unfolding sign
sign_suc b = refl

-- the truth value behind the sign of a positive multiple
pub sign_bit_of : (m b : ℕ) → zero < m → b < 2 → sign_bit (pos m *ℤ sign b) ≡ b
unfolding sign sign_bit
sign_bit_of zero b p h = absurd (not-suc-le-zero p)
sign_bit_of (suc m) b p h = bit_cases (λ b. sign_bit (pos (suc m) *ℤ sign b) ≡ b) refl (ap (λ (k : ℕ). sign_bit (neg_ℤ (pos k))) (mul-one (suc m))) b h

-- ---- the autocorrelation
module _ (n : ℕ) (f : ℕ → ℕ) (h : Boolean n f) where
  auto_cross : (s : ℕ) → s < 2 ^ n → autocorrelation n f s ≡ cross n (λ x. sign (f x)) (λ x. sign (f x)) s
  unfolding autocorrelation cross
  auto_cross s k =
      sum_cong (2 ^ n) _ _ (λ x l. agree_signs (f x) (f (bit_xor x s)) (h x l) (h (bit_xor x s) (xor_lt n x s l k)) ∙ *ℤ_comm (sign (f (bit_xor x s))) (sign (f x)))

  pub wiener_khinchin : (w : ℕ) → w < 2 ^ n → transform n (λ s. autocorrelation n f s) w ≡ walsh n f w *ℤ walsh n f w
  wiener_khinchin w l =
      transform_cong n _ _ w auto_cross ∙ convolution n (λ x. sign (f x)) (λ x. sign (f x)) w l
      ∙ sym (ap (λ (z : ℤ). z *ℤ z) (walsh_transform n f w h))
