-- The Walsh-Hadamard transform of tables of integers: halving, Parseval, inversion, and the transform of a correlation.
use mathlib.Core.Path.{◌≡◌, sym, ap, ap₂, ◌∙◌, subst}
use Prim.Native.Nat.{ℕ, zero, suc, ◌+◌, ◌-◌, ◌^◌, ◌<◌}
use native.Mathlib.Nat.{zero-add, one-mul, zero-mul, two-pow-succ}
use native.Mathlib.Omega.{arith}
use native.Mathlib.Decide.{dec_lt}
use lib.Arith.{lt-one as below_one}
use lib.Bits.{bit_xor, xor_block}
use lib.IntN.{ℤ, pos, ◌+ℤ◌, ◌-ℤ◌, ◌*ℤ◌, neg_ℤ, +ℤ_idl, +ℤ_invr}
use Rattle.boolean.specs.Bits.{dot}
use Rattle.boolean.specs.Functions.{sign, transform}
use Rattle.boolean.specs.Sums.{sum_below}
use Rattle.boolean.proofs.Ints.{*ℤ-distl, *ℤ-distr, *ℤ-neg, neg_neg, one-*ℤ, minus_one_*ℤ, twice_left, twice_right, sum_sum, diff_diff, butterfly_square}
use Rattle.boolean.proofs.Dots.{bit_cases, dot_bit, dot_zero, dot_01, dot_10, dot_11}
use Rattle.boolean.proofs.Sums.{sum_cong, sum_halves, sum_add, sum_neg}

-- the correlation of two integer functions at the shift s
unfoldable pub cross : ℕ → (ℕ → ℤ) → (ℕ → ℤ) → ℕ → ℤ
unfolding sum_below
cross n F G s = sum_below (2 ^ n) (λ x. F x *ℤ G (bit_xor x s))

-- ---- what is shown of the lower half and of the upper holds of all
pub half_cases : (n : ℕ) (P : ℕ → Type 0) → ((x : ℕ) → x < 2 ^ n → P x) → ((x : ℕ) → x < 2 ^ n → P (2 ^ n + x)) → (x : ℕ) → x < 2 ^ suc n → P x
half_cases n P lo hi x h = go (dec_lt x (2 ^ n))
  where
    rest : ¬ (x < 2 ^ n) → x - 2 ^ n < 2 ^ n
    rest f = omega (arith, two-pow-succ n)

    join : ¬ (x < 2 ^ n) → 2 ^ n + (x - 2 ^ n) ≡ x
    join f = omega arith

    go : Dec (x < 2 ^ n) → P x
    go (yes l) = lo x l
    go (no f) = subst P (join f) (hi (x - 2 ^ n) (rest f))

pub lower_lt : (n x : ℕ) → x < 2 ^ n → x < 2 ^ suc n
lower_lt n x h = omega (arith, two-pow-succ n)

pub upper_lt : (n x : ℕ) → x < 2 ^ n → 2 ^ n + x < 2 ^ suc n
upper_lt n x h = omega (arith, two-pow-succ n)

-- ---- a sum of signs
sign_flip : (b : ℕ) → b < 2 → (z : ℤ) → sign (bit_xor 1 b) *ℤ z ≡ neg_ℤ (sign b *ℤ z)
unfolding sign
sign_flip = bit_cases (λ b. (z : ℤ) → sign (bit_xor 1 b) *ℤ z ≡ neg_ℤ (sign b *ℤ z))
    (λ z. minus_one_*ℤ z ∙ ap neg_ℤ (sym (one-*ℤ z))) (λ z. one-*ℤ z ∙ sym (ap neg_ℤ (minus_one_*ℤ z) ∙ neg_neg z))

-- ---- the transform is linear
pub transform_cong : (n : ℕ) (F G : ℕ → ℤ) (w : ℕ) → ((x : ℕ) → x < 2 ^ n → F x ≡ G x) → transform n F w ≡ transform n G w
unfolding transform
transform_cong n F G w h = sum_cong (2 ^ n) _ _ (λ x l. ap (λ (z : ℤ). sign (dot w x) *ℤ z) (h x l))

pub transform_add : (n : ℕ) (F G : ℕ → ℤ) (w : ℕ) → transform n (λ x. F x +ℤ G x) w ≡ transform n F w +ℤ transform n G w
unfolding transform
transform_add n F G w =
    sum_cong (2 ^ n) _ _ (λ x l. *ℤ-distl (sign (dot w x)) (F x) (G x)) ∙ sum_add (2 ^ n) (λ x. sign (dot w x) *ℤ F x) (λ x. sign (dot w x) *ℤ G x)

pub transform_neg : (n : ℕ) (F : ℕ → ℤ) (w : ℕ) → transform n (λ x. neg_ℤ (F x)) w ≡ neg_ℤ (transform n F w)
unfolding transform
transform_neg n F w = sum_cong (2 ^ n) _ _ (λ x l. *ℤ-neg (sign (dot w x)) (F x)) ∙ sum_neg (2 ^ n) (λ x. sign (dot w x) *ℤ F x)

-- ---- halving
pub transform_low : (n : ℕ) (F : ℕ → ℤ) (w : ℕ) → w < 2 ^ n → transform (suc n) F w ≡ transform n F w +ℤ transform n (λ x. F (2 ^ n + x)) w
unfolding transform
transform_low n F w h =
    sum_halves n (λ x. sign (dot w x) *ℤ F x)
    ∙ ap (λ (z : ℤ). transform n F w +ℤ z) (sum_cong (2 ^ n) _ _ (λ x l. ap (λ (b : ℕ). sign b *ℤ F (2 ^ n + x)) (dot_01 n w x h l)))

pub transform_high : (n : ℕ) (F : ℕ → ℤ) (w : ℕ) → w < 2 ^ n → transform (suc n) F (2 ^ n + w) ≡ transform n F w -ℤ transform n (λ x. F (2 ^ n + x)) w
unfolding transform
transform_high n F w h =
    sum_halves n (λ x. sign (dot (2 ^ n + w) x) *ℤ F x)
    ∙ ap₂ (λ (y z : ℤ). y +ℤ z) (sum_cong (2 ^ n) _ _ (λ x l. ap (λ (b : ℕ). sign b *ℤ F x) (dot_10 n w x h l)))
    (sum_cong (2 ^ n) _ _ (λ x l. ap (λ (b : ℕ). sign b *ℤ F (2 ^ n + x)) (dot_11 n w x h l) ∙ sign_flip (dot w x) (dot_bit w x) (F (2 ^ n + x)))
    ∙ sum_neg (2 ^ n) (λ x. sign (dot w x) *ℤ F (2 ^ n + x)))

pub transform_zero : (F : ℕ → ℤ) → transform 0 F 0 ≡ F 0
unfolding transform sum_below
transform_zero F = +ℤ_idl (sign (dot 0 0) *ℤ F 0) ∙ ap (λ (b : ℕ). sign b *ℤ F 0) (dot_zero 0) ∙ one F
  where
    one : (F : ℕ → ℤ) → sign 0 *ℤ F 0 ≡ F 0
    one F = one-*ℤ (F 0)

-- ---- Parseval
double : (n : ℕ) (z : ℤ) → pos (2 ^ suc n) *ℤ z ≡ pos (2 ^ n) *ℤ z +ℤ pos (2 ^ n) *ℤ z
double n z = ap (λ (k : ℕ). pos k *ℤ z) (two-pow-succ n) ∙ *ℤ-distr (pos (2 ^ n)) (pos (2 ^ n)) z

pub parseval : (n : ℕ) (F : ℕ → ℤ) → sum_below (2 ^ n) (λ w. transform n F w *ℤ transform n F w) ≡ pos (2 ^ n) *ℤ sum_below (2 ^ n) (λ x. F x *ℤ F x)
unfolding sum_below
parseval zero F = ap (λ (z : ℤ). pos 0 +ℤ z *ℤ z) (transform_zero F) ∙ sym (one-*ℤ (pos 0 +ℤ F 0 *ℤ F 0))
parseval (suc n) F =
    let lo : ℕ → ℤ = λ w. transform n F w in
    let hi : ℕ → ℤ = λ w. transform n (λ x. F (2 ^ n + x)) w in
    let S = sum_below (2 ^ n) (λ x. F x *ℤ F x) in
    let R = sum_below (2 ^ n) (λ x. F (2 ^ n + x) *ℤ F (2 ^ n + x)) in
    sum_halves n (λ w. transform (suc n) F w *ℤ transform (suc n) F w)
    ∙ sym (sum_add (2 ^ n) (λ w. transform (suc n) F w *ℤ transform (suc n) F w) (λ w. transform (suc n) F (2 ^ n + w) *ℤ transform (suc n) F (2 ^ n + w)))
    ∙ sum_cong (2 ^ n) _ _ (λ w l.
    ap₂ (λ (a b : ℤ). a *ℤ a +ℤ b *ℤ b) (transform_low n F w l) (transform_high n F w l) ∙ butterfly_square (lo w) (hi w))
    ∙ sum_add (2 ^ n) (λ w. lo w *ℤ lo w +ℤ hi w *ℤ hi w) (λ w. lo w *ℤ lo w +ℤ hi w *ℤ hi w)
    ∙ ap (λ (z : ℤ). z +ℤ z)
    (sum_add (2 ^ n) (λ w. lo w *ℤ lo w) (λ w. hi w *ℤ hi w)
    ∙ ap₂ (λ (a b : ℤ). a +ℤ b) (parseval n F) (parseval n (λ x. F (2 ^ n + x)))
    ∙ sym (*ℤ-distl (pos (2 ^ n)) S R) ∙ ap (λ (z : ℤ). pos (2 ^ n) *ℤ z) (sym (sum_halves n (λ x. F x *ℤ F x))))
    ∙ sym (double n (sum_below (2 ^ suc n) (λ x. F x *ℤ F x)))

-- ---- inversion
pub inversion : (n : ℕ) (F : ℕ → ℤ) (x : ℕ) → x < 2 ^ n → transform n (λ w. transform n F w) x ≡ pos (2 ^ n) *ℤ F x
inversion zero F x h =
    ap (λ (y : ℕ). transform 0 (λ w. transform 0 F w) y) (below_one h) ∙ transform_zero (λ w. transform 0 F w) ∙ transform_zero F
    ∙ sym (one-*ℤ (F 0)) ∙ ap (λ (y : ℕ). pos 1 *ℤ F y) (sym (below_one h))
inversion (suc n) F x h =
    half_cases n (λ x. transform (suc n) (λ w. transform (suc n) F w) x ≡ pos (2 ^ suc n) *ℤ F x)
    (λ x l.
    transform_low n (λ w. transform (suc n) F w) x l
    ∙ ap₂ (λ (a b : ℤ). a +ℤ b) (low x l) (high x l)
    ∙ twice_left (transform n lo x) (transform n hi x)
    ∙ ap (λ (z : ℤ). z +ℤ z) (inversion n F x l) ∙ sym (double n (F x)))
    (λ x l.
    transform_high n (λ w. transform (suc n) F w) x l
    ∙ ap₂ (λ (a b : ℤ). a -ℤ b) (low x l) (high x l)
    ∙ twice_right (transform n lo x) (transform n hi x)
    ∙ ap (λ (z : ℤ). z +ℤ z) (inversion n (λ y. F (2 ^ n + y)) x l) ∙ sym (double n (F (2 ^ n + x))))
    x h
  where
    lo : ℕ → ℤ
    lo w = transform n F w

    hi : ℕ → ℤ
    hi w = transform n (λ y. F (2 ^ n + y)) w

    low : (x : ℕ) → x < 2 ^ n → transform n (λ w. transform (suc n) F w) x ≡ transform n lo x +ℤ transform n hi x
    low x l = transform_cong n _ _ x (λ w k. transform_low n F w k) ∙ transform_add n lo hi x

    high : (x : ℕ) → x < 2 ^ n → transform n (λ w. transform (suc n) F (2 ^ n + w)) x ≡ transform n lo x -ℤ transform n hi x
    high x l =
        transform_cong n _ _ x (λ w k. transform_high n F w k) ∙ transform_add n lo (λ w. neg_ℤ (hi w)) x
        ∙ ap (λ (z : ℤ). transform n lo x +ℤ z) (transform_neg n hi x)

-- ---- the transform of a correlation is the product of the transforms
module _ (n x s : ℕ) (hx : x < 2 ^ n) (hs : s < 2 ^ n) where
  pub xor_01 : bit_xor x (2 ^ n + s) ≡ 2 ^ n + bit_xor x s
  xor_01 =
      ap₂ bit_xor (sym (zero-add x) ∙ ap (λ (z : ℕ). z + x) (sym (zero-mul (2 ^ n)))) (ap (λ (z : ℕ). z + s) (sym (one-mul (2 ^ n))))
      ∙ xor_block n 0 1 x s hx hs ∙ ap (λ (z : ℕ). z + bit_xor x s) (one-mul (2 ^ n))

  pub xor_10 : bit_xor (2 ^ n + x) s ≡ 2 ^ n + bit_xor x s
  xor_10 =
      ap₂ bit_xor (ap (λ (z : ℕ). z + x) (sym (one-mul (2 ^ n)))) (sym (zero-add s) ∙ ap (λ (z : ℕ). z + s) (sym (zero-mul (2 ^ n))))
      ∙ xor_block n 1 0 x s hx hs ∙ ap (λ (z : ℕ). z + bit_xor x s) (one-mul (2 ^ n))

  pub xor_11 : bit_xor (2 ^ n + x) (2 ^ n + s) ≡ bit_xor x s
  xor_11 =
      ap₂ bit_xor (ap (λ (z : ℕ). z + x) (sym (one-mul (2 ^ n)))) (ap (λ (z : ℕ). z + s) (sym (one-mul (2 ^ n))))
      ∙ xor_block n 1 1 x s hx hs ∙ ap (λ (z : ℕ). z + bit_xor x s) (zero-mul (2 ^ n)) ∙ zero-add (bit_xor x s)

cross_low : (n : ℕ) (F G : ℕ → ℤ) (s : ℕ) → s < 2 ^ n
    → cross (suc n) F G s ≡ cross n F G s +ℤ cross n (λ x. F (2 ^ n + x)) (λ x. G (2 ^ n + x)) s
unfolding cross
cross_low n F G s h =
    sum_halves n (λ x. F x *ℤ G (bit_xor x s))
    ∙ ap (λ (z : ℤ). cross n F G s +ℤ z) (sum_cong (2 ^ n) _ _ (λ x l. ap (λ (y : ℕ). F (2 ^ n + x) *ℤ G y) (xor_10 n x s l h)))

cross_high : (n : ℕ) (F G : ℕ → ℤ) (s : ℕ) → s < 2 ^ n
    → cross (suc n) F G (2 ^ n + s) ≡ cross n F (λ x. G (2 ^ n + x)) s +ℤ cross n (λ x. F (2 ^ n + x)) G s
unfolding cross
cross_high n F G s h =
    sum_halves n (λ x. F x *ℤ G (bit_xor x (2 ^ n + s)))
    ∙ ap₂ (λ (y z : ℤ). y +ℤ z) (sum_cong (2 ^ n) _ _ (λ x l. ap (λ (y : ℕ). F x *ℤ G y) (xor_01 n x s l h)))
    (sum_cong (2 ^ n) _ _ (λ x l. ap (λ (y : ℕ). F (2 ^ n + x) *ℤ G y) (xor_11 n x s l h)))

cross_zero : (F G : ℕ → ℤ) → cross 0 F G 0 ≡ F 0 *ℤ G 0
unfolding cross sum_below
cross_zero F G = +ℤ_idl (F 0 *ℤ G 0)

module _ (n : ℕ) (ih : (F G : ℕ → ℤ) (w : ℕ) → w < 2 ^ n → transform n (λ s. cross n F G s) w ≡ transform n F w *ℤ transform n G w) (F G : ℕ → ℤ) where
  abbrev F' : ℕ → ℤ
  F' x = F (2 ^ n + x)

  abbrev G' : ℕ → ℤ
  G' x = G (2 ^ n + x)

  conv_low : (w : ℕ) → w < 2 ^ n → transform n (λ s. cross (suc n) F G s) w ≡ transform n F w *ℤ transform n G w +ℤ transform n F' w *ℤ transform n G' w
  conv_low w l =
      transform_cong n _ _ w (λ s k. cross_low n F G s k) ∙ transform_add n (λ s. cross n F G s) (λ s. cross n F' G' s) w
      ∙ ap₂ (λ (a b : ℤ). a +ℤ b) (ih F G w l) (ih F' G' w l)

  conv_high : (w : ℕ) → w < 2 ^ n → transform n (λ s. cross (suc n) F G (2 ^ n + s)) w ≡ transform n F w *ℤ transform n G' w +ℤ transform n F' w *ℤ transform n G w
  conv_high w l =
      transform_cong n _ _ w (λ s k. cross_high n F G s k) ∙ transform_add n (λ s. cross n F G' s) (λ s. cross n F' G s) w
      ∙ ap₂ (λ (a b : ℤ). a +ℤ b) (ih F G' w l) (ih F' G w l)

  conv_step : (w : ℕ) → w < 2 ^ suc n → transform (suc n) (λ s. cross (suc n) F G s) w ≡ transform (suc n) F w *ℤ transform (suc n) G w
  conv_step =
      half_cases n (λ w. transform (suc n) (λ s. cross (suc n) F G s) w ≡ transform (suc n) F w *ℤ transform (suc n) G w)
      (λ w l.
      transform_low n (λ s. cross (suc n) F G s) w l ∙ ap₂ (λ (a b : ℤ). a +ℤ b) (conv_low w l) (conv_high w l)
      ∙ sym (ap₂ (λ (a b : ℤ). a *ℤ b) (transform_low n F w l) (transform_low n G w l) ∙ sum_sum (transform n F w) (transform n F' w) (transform n G w) (transform n G' w)))
      (λ w l.
      transform_high n (λ s. cross (suc n) F G s) w l ∙ ap₂ (λ (a b : ℤ). a -ℤ b) (conv_low w l) (conv_high w l)
      ∙ sym (ap₂ (λ (a b : ℤ). a *ℤ b) (transform_high n F w l) (transform_high n G w l) ∙ diff_diff (transform n F w) (transform n F' w) (transform n G w) (transform n G' w)))

pub convolution : (n : ℕ) (F G : ℕ → ℤ) (w : ℕ) → w < 2 ^ n → transform n (λ s. cross n F G s) w ≡ transform n F w *ℤ transform n G w
convolution zero F G w h =
    ap (λ (y : ℕ). transform 0 (λ s. cross 0 F G s) y) (below_one h) ∙ transform_zero (λ s. cross 0 F G s) ∙ cross_zero F G
    ∙ sym (ap (λ (y : ℕ). transform 0 F y *ℤ transform 0 G y) (below_one h) ∙ ap₂ (λ (a b : ℤ). a *ℤ b) (transform_zero F) (transform_zero G))
convolution (suc n) F G w h = conv_step n (λ A B v l. convolution n A B v l) F G w h

-- the signs of w·x cancel over all x, unless w is 0
pub signs_cancel : (n : ℕ) (c : ℤ) (w : ℕ) → w < 2 ^ n → (w ≡ 0 → ⊥) → transform n (λ x. c) w ≡ pos 0
signs_cancel zero c w l g = absurd (g (below_one l))
signs_cancel (suc n) c w l g = half_cases n (λ w. (w ≡ 0 → ⊥) → transform (suc n) (λ x. c) w ≡ pos 0)
    (λ w l g. transform_low n (λ x. c) w l ∙ ap (λ (z : ℤ). z +ℤ z) (signs_cancel n c w l g))
    (λ w l g. transform_high n (λ x. c) w l ∙ +ℤ_invr (transform n (λ x. c) w)) w l g
