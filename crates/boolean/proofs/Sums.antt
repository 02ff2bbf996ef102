-- Sums over the numbers below k.
use mathlib.Core.Path.{◌≡◌, refl, sym, ap, ap₂, ◌∙◌}
use Prim.Native.Nat.{ℕ, zero, suc, ◌+◌, ◌*◌, ◌^◌, ◌<◌}
use native.Mathlib.Nat.{add-zero, add-suc, le_refl, le-suc, le_trans, two-pow-succ, suc-mul, zero-mul}
use lib.IntN.{ℤ, pos, ◌+ℤ◌, ◌*ℤ◌, neg_ℤ, +ℤ_idr, +ℤ_assoc, neg_ℤ-+ℤ, *ℤ-zero}
use Rattle.boolean.specs.Sums.{sum_below}
use Rattle.boolean.proofs.Ints.{add4, *ℤ-distl}

pub sum_cong : (k : ℕ) (f g : ℕ → ℤ) → ((x : ℕ) → x < k → f x ≡ g x) → sum_below k f ≡ sum_below k g
unfolding sum_below
sum_cong zero f g h = refl
sum_cong (suc k) f g h = ap₂ (λ (a b : ℤ). a +ℤ b) (sum_cong k f g (λ x l. h x (le_trans l (le-suc k)))) (h k (le_refl (suc k)))

pub sum_split : (a b : ℕ) (f : ℕ → ℤ) → sum_below (a + b) f ≡ sum_below a f +ℤ sum_below b (λ x. f (a + x))
unfolding sum_below
sum_split a zero f = ap (λ (z : ℕ). sum_below z f) (add-zero a) ∙ sym (+ℤ_idr (sum_below a f))
sum_split a (suc b) f =
    ap (λ (z : ℕ). sum_below z f) (add-suc a b) ∙ ap (λ (z : ℤ). z +ℤ f (a + b)) (sum_split a b f)
    ∙ +ℤ_assoc (sum_below a f) (sum_below b (λ x. f (a + x))) (f (a + b))

-- over a × b numbers, block by block
pub sum_blocks : (a b : ℕ) (F : ℕ → ℤ) → sum_below (a * b) F ≡ sum_below a (λ x. sum_below b (λ y. F (x * b + y)))
unfolding sum_below
sum_blocks zero b F = ap (λ (z : ℕ). sum_below z F) (zero-mul b)
sum_blocks (suc a) b F =
    ap (λ (z : ℕ). sum_below z F) (suc-mul a b) ∙ sum_split (a * b) b F ∙ ap (λ (z : ℤ). z +ℤ sum_below b (λ y. F (a * b + y))) (sum_blocks a b F)

-- over all numbers of one digit more: the lower half and the upper
pub sum_halves : (n : ℕ) (f : ℕ → ℤ) → sum_below (2 ^ suc n) f ≡ sum_below (2 ^ n) f +ℤ sum_below (2 ^ n) (λ x. f (2 ^ n + x))
sum_halves n f = ap (λ (z : ℕ). sum_below z f) (two-pow-succ n) ∙ sum_split (2 ^ n) (2 ^ n) f

pub sum_add : (k : ℕ) (f g : ℕ → ℤ) → sum_below k (λ x. f x +ℤ g x) ≡ sum_below k f +ℤ sum_below k g
unfolding sum_below
sum_add zero f g = refl
sum_add (suc k) f g = ap (λ (z : ℤ). z +ℤ (f k +ℤ g k)) (sum_add k f g) ∙ add4 (sum_below k f) (sum_below k g) (f k) (g k)

pub sum_neg : (k : ℕ) (f : ℕ → ℤ) → sum_below k (λ x. neg_ℤ (f x)) ≡ neg_ℤ (sum_below k f)
unfolding sum_below
sum_neg zero f = refl
sum_neg (suc k) f = ap (λ (z : ℤ). z +ℤ neg_ℤ (f k)) (sum_neg k f) ∙ sym (neg_ℤ-+ℤ (sum_below k f) (f k))

pub sum_mul : (c : ℤ) (k : ℕ) (f : ℕ → ℤ) → sum_below k (λ x. c *ℤ f x) ≡ c *ℤ sum_below k f
unfolding sum_below
sum_mul c zero f = sym (*ℤ-zero c)
sum_mul c (suc k) f = ap (λ (z : ℤ). z +ℤ c *ℤ f k) (sum_mul c k f) ∙ sym (*ℤ-distl c (sum_below k f) (f k))

-- as many ones as there are numbers
pub sum_ones : (k : ℕ) → sum_below k (λ x. pos 1) ≡ pos k
unfolding sum_below
sum_ones zero = refl
sum_ones (suc k) = ap (λ (z : ℤ). z +ℤ pos 1) (sum_ones k) ∙ ap pos (add-suc k 0 ∙ ap suc (add-zero k))
