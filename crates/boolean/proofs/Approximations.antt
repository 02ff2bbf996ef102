-- The linear approximation values: twice each is the Walsh value. Hence the halving rule, their size, and the way back to the function.
use mathlib.Core.Path.{◌≡◌, sym, ap, ap₂, ◌∙◌, subst}
use mathlib.Core.Logic.{inl, inr}
use mathlib.Core.Bool.{not}
use mathlib.Core.List.{[], ◌∷◌}
use Prim.Native.Nat.{ℕ, zero, suc, ◌+◌, ◌*◌, ◌-◌, ◌^◌, ◌<◌, ◌≤◌}
use native.Mathlib.Nat.{two-pow-succ, not-suc-le-zero, le_trans, le-suc, zero-lt-suc}
use native.Mathlib.Omega.{arith}
use lib.Dec.{eqb}
use lib.Pow.{pow_pos}
use lib.IntN.{ℤ, pos, ◌+ℤ◌, ◌-ℤ◌, ◌*ℤ◌, neg_ℤ, nat_abs, *ℤ-one, +ℤ-neg_ℤ_cancel}
use Rattle.boolean.specs.Bits.{dot}
use Rattle.boolean.specs.Functions.{Boolean, walsh, approximation, sign, sign_bit, transform, inverse}
use Rattle.boolean.specs.Sums.{count_below}
use Rattle.boolean.specs.Statements.{Full}
use Rattle.boolean.proofs.Ints.{add4, *ℤ-distr, *ℤ-neg, one-*ℤ}
use Rattle.boolean.proofs.Ring.{v, ◌⊞◌, ◌⊖◌, solve}
use Rattle.boolean.proofs.Counts.{count_cong, count_not}
use Rattle.boolean.proofs.Sizes.{abs_twice}
use Rattle.boolean.proofs.Transform.{transform_cong, transform_add, inversion}
use Rattle.boolean.proofs.Walsh.{agree_count, walsh_transform, walsh_low, walsh_high, walsh_le}
use Rattle.boolean.proofs.Spectrum.{walsh_inversion, transform_mul, cancelℤ, sign_bit_pos, sign_bit_neg, sign_bit_lt, sign_zero, sign_suc}

-- ---- an integer is known by its double
twice_is : (a : ℤ) → pos 2 *ℤ a ≡ a +ℤ a
twice_is a = *ℤ-distr (pos 1) (pos 1) a ∙ ap₂ (λ (x y : ℤ). x +ℤ y) (one-*ℤ a) (one-*ℤ a)

pub same_halves : (a b : ℤ) → a +ℤ a ≡ b +ℤ b → a ≡ b
same_halves a b e = cancelℤ 2 a b (zero-lt-suc 1) (twice_is a ∙ e ∙ sym (twice_is b))

-- ---- the law of the two definitions: twice the count less 2^(n−1) is the sum of +1 and −1
pub walsh_twice : (n : ℕ) (f : ℕ → ℕ) (w : ℕ) → 1 ≤ n → approximation n f w +ℤ approximation n f w ≡ walsh n f w
unfolding approximation walsh
walsh_twice zero f w low = absurd (not-suc-le-zero low)
walsh_twice (suc n) f w low =
    let equal = count_below (2 ^ suc n) (λ x. eqb (f x) (dot w x)) in
    let unlike = count_below (2 ^ suc n) (λ x. not (eqb (f x) (dot w x))) in
    let both : equal + unlike ≡ 2 ^ suc n = count_not (2 ^ suc n) (λ x. eqb (f x) (dot w x)) in
    let halves : 2 ^ n + 2 ^ n ≡ equal + unlike = sym (both ∙ two-pow-succ n) in
    let less : suc n - 1 ≡ n = omega arith in
    let two : 2 * unlike ≡ unlike + unlike = omega arith in
    ap (λ (k : ℕ). (pos equal -ℤ pos (2 ^ k)) +ℤ (pos equal -ℤ pos (2 ^ k))) less
    ∙ solve (pos equal ∷ pos (2 ^ n) ∷ []) ((v 0 ⊖ v 1) ⊞ (v 0 ⊖ v 1)) ((v 0 ⊞ v 0) ⊖ (v 1 ⊞ v 1)) tt
    ∙ ap (λ (k : ℕ). pos (equal + equal) -ℤ pos k) halves
    ∙ solve (pos equal ∷ pos unlike ∷ []) ((v 0 ⊞ v 0) ⊖ (v 0 ⊞ v 1)) ((v 0 ⊞ v 1) ⊖ (v 1 ⊞ v 1)) tt
    ∙ ap₂ (λ (i j : ℕ). pos i -ℤ pos j) both (sym two)
    ∙ sym (ap (λ (z : ℤ). z -ℤ pos (2 * unlike)) (agree_count (2 ^ suc n) f (λ x. dot w x)))
    ∙ +ℤ-neg_ℤ_cancel (walsh (suc n) f w) (pos (2 * unlike))

pub approximation_cong : (n : ℕ) (f g : ℕ → ℕ) (w : ℕ) → ((x : ℕ) → x < 2 ^ n → f x ≡ g x) → approximation n f w ≡ approximation n g w
unfolding approximation
approximation_cong n f g w h = ap (λ (k : ℕ). pos k -ℤ pos (2 ^ (n - 1))) (count_cong (2 ^ n) _ _ (λ x l. ap (λ (z : ℕ). eqb z (dot w x)) (h x l)))

module _ (n : ℕ) (low : 1 ≤ n) where
  -- ---- sizes: a value lies between −2^(n−1) and 2^(n−1)
  pub half_power : 2 ^ (n - 1) + 2 ^ (n - 1) ≡ 2 ^ n
  half_power = let e : suc (n - 1) ≡ n = omega arith in sym (two-pow-succ (n - 1)) ∙ ap (λ (k : ℕ). 2 ^ k) e

  pub walsh_size : (f : ℕ → ℕ) (w : ℕ) → nat_abs (approximation n f w) * 2 ≡ nat_abs (walsh n f w)
  walsh_size f w = abs_twice (approximation n f w) ∙ ap nat_abs (walsh_twice n f w low)

  pub approximation_le : (f : ℕ → ℕ) (w : ℕ) → nat_abs (approximation n f w) ≤ 2 ^ (n - 1)
  approximation_le f w = omega (arith, half_power, walsh_size f w, walsh_le n f w)

  -- ---- halving
  module _ (f : ℕ → ℕ) (w : ℕ) (h : Boolean (suc n) f) (l : w < 2 ^ n) where
    abbrev lower : ℤ
    lower = approximation n f w

    abbrev upper : ℤ
    upper = approximation n (λ x. f (2 ^ n + x)) w

    low_suc : 1 ≤ suc n
    low_suc = le_trans low (le-suc n)

    pub approximation_low : approximation (suc n) f w ≡ lower +ℤ upper
    approximation_low =
        same_halves _ _
        (walsh_twice (suc n) f w low_suc ∙ walsh_low n f w h l
        ∙ sym (ap₂ (λ (a b : ℤ). a +ℤ b) (walsh_twice n f w low) (walsh_twice n (λ x. f (2 ^ n + x)) w low)) ∙ add4 lower lower upper upper)

    pub approximation_high : approximation (suc n) f (2 ^ n + w) ≡ lower -ℤ upper
    approximation_high =
        same_halves _ _
        (walsh_twice (suc n) f (2 ^ n + w) low_suc ∙ walsh_high n f w h l
        ∙ sym (ap₂ (λ (a b : ℤ). a -ℤ b) (walsh_twice n f w low) (walsh_twice n (λ x. f (2 ^ n + x)) w low))
        ∙ solve (lower ∷ upper ∷ []) ((v 0 ⊞ v 0) ⊖ (v 1 ⊞ v 1)) ((v 0 ⊖ v 1) ⊞ (v 0 ⊖ v 1)) tt)

  -- ---- the way back: the transform of the values is 2^(n−1), with the function's signs
  half_of : (z : ℤ) → pos (2 ^ (n - 1)) *ℤ z +ℤ pos (2 ^ (n - 1)) *ℤ z ≡ pos (2 ^ n) *ℤ z
  half_of z = sym (*ℤ-distr (pos (2 ^ (n - 1))) (pos (2 ^ (n - 1))) z) ∙ ap (λ (k : ℕ). pos k *ℤ z) half_power

  pub approximation_inversion : (f : ℕ → ℕ) → Boolean n f → (x : ℕ) → x < 2 ^ n
      → transform n (λ w. approximation n f w) x ≡ pos (2 ^ (n - 1)) *ℤ sign (f x)
  approximation_inversion f h x l =
      same_halves _ _
      (sym (transform_add n (λ w. approximation n f w) (λ w. approximation n f w) x) ∙ transform_cong n _ _ x (λ w k. walsh_twice n f w low)
      ∙ walsh_inversion n f h x l ∙ sym (half_of (sign (f x))))

  spectrum_of_lem : (F : ℕ → ℤ) (g : ℕ → ℕ) → Boolean n g → ((x : ℕ) → x < 2 ^ n → transform n F x ≡ pos (2 ^ (n - 1)) *ℤ sign (g x))
      → (w : ℕ) → w < 2 ^ n → F w ≡ approximation n g w
  spectrum_of_lem F g h e w l =
      same_halves _ _
      (cancelℤ (2 ^ n) (F w +ℤ F w) (walsh n g w) (pow_pos n)
      (sym (inversion n (λ w. F w +ℤ F w) w l)
      ∙ transform_cong n _ _ w (λ x k. transform_add n F F x ∙ ap (λ (z : ℤ). z +ℤ z) (e x k) ∙ half_of (sign (g x)))
      ∙ transform_mul n (pos (2 ^ n)) (λ x. sign (g x)) w ∙ ap (λ (z : ℤ). pos (2 ^ n) *ℤ z) (sym (walsh_transform n g w h)))
      ∙ sym (walsh_twice n g w low))

  -- so integers are a spectrum exactly when their transform is 2^(n−1) or −2^(n−1) everywhere
  pub spectrum_back : (F : ℕ → ℤ) → ((x : ℕ) → x < 2 ^ n → Full n (transform n F x)) → (w : ℕ) → w < 2 ^ n → F w ≡ approximation n (inverse n F) w
  unfolding inverse
  spectrum_back F h = spectrum_of_lem F (λ x. sign_bit (transform n F x)) (λ x l. sign_bit_lt (transform n F x)) (λ x l. pick x (h x l))
    where
      pick : (x : ℕ) → Full n (transform n F x) → transform n F x ≡ pos (2 ^ (n - 1)) *ℤ sign (sign_bit (transform n F x))
      pick x (inl e) = subst (λ (z : ℤ). z ≡ pos (2 ^ (n - 1)) *ℤ sign (sign_bit z)) (sym e) (sign_bit_pos (2 ^ (n - 1)))
      pick x (inr e) = subst (λ (z : ℤ). z ≡ pos (2 ^ (n - 1)) *ℤ sign (sign_bit z)) (sym e) (sign_bit_neg (2 ^ (n - 1)) (pow_pos (n - 1)))

  pub spectrum_forth : (F : ℕ → ℤ) (g : ℕ → ℕ) → Boolean n g → ((w : ℕ) → w < 2 ^ n → F w ≡ approximation n g w)
      → (x : ℕ) → x < 2 ^ n → Full n (transform n F x)
  unfolding lib.IntN.one
  spectrum_forth F g h e x l = pick (g x) (transform_cong n _ _ x e ∙ approximation_inversion g h x l)
    where
      pick : (b : ℕ) → transform n F x ≡ pos (2 ^ (n - 1)) *ℤ sign b → Full n (transform n F x)
      pick zero q = inl (q ∙ ap (λ (z : ℤ). pos (2 ^ (n - 1)) *ℤ z) sign_zero ∙ *ℤ-one (pos (2 ^ (n - 1))))
      pick (suc b) q =
          inr (q ∙ ap (λ (z : ℤ). pos (2 ^ (n - 1)) *ℤ z) (sign_suc b) ∙ *ℤ-neg (pos (2 ^ (n - 1))) (pos 1) ∙ ap neg_ℤ (*ℤ-one (pos (2 ^ (n - 1)))))
