-- XOR as a group's operation, and XORs over the numbers below k.
use mathlib.Core.Path.{◌≡◌, refl, sym, ap, ap₂, ◌∙◌}
use Prim.Native.Nat.{ℕ, zero, suc, ◌+◌, ◌/◌, ◌%◌, ◌^◌, ◌<◌, ◌*◌}
use native.Mathlib.Nat.{add-zero, add-suc, le_refl, le-suc, le_trans, mod-lt, two-pow-succ, zero-lt-suc}
use native.Mathlib.Omega.{arith}
use lib.Arith.{bin_ind}
use lib.Pow.{pow_pos}
use lib.Bits.{bit_xor, xor_comm, xor_lt, xor_mod, xor_self, xor_shr, xor_zero_r, xor_block}
use Rattle.boolean.specs.Sums.{xor_below}
use Rattle.boolean.proofs.Cases.{eq3}

digits_eq : (x y : ℕ) → x / 2 ≡ y / 2 → x % 2 ≡ y % 2 → x ≡ y
digits_eq x y p q = omega arith

pub xor_assoc : (a b c : ℕ) → bit_xor (bit_xor a b) c ≡ bit_xor a (bit_xor b c)
xor_assoc = bin_ind (λ (a : ℕ). (b c : ℕ) → bit_xor (bit_xor a b) c ≡ bit_xor a (bit_xor b c)) (λ b c. refl)
    (λ a ih b c. digits_eq (bit_xor (bit_xor a b) c) (bit_xor a (bit_xor b c))
    (xor_shr (bit_xor a b) c 1 ∙ ap (λ (z : ℕ). bit_xor z (c / 2)) (xor_shr a b 1) ∙ ih (b / 2) (c / 2)
    ∙ sym (xor_shr a (bit_xor b c) 1 ∙ ap (λ (z : ℕ). bit_xor (a / 2) z) (xor_shr b c 1)))
    (xor_mod (bit_xor a b) c 1 ∙ ap (λ (z : ℕ). bit_xor z (c % 2)) (xor_mod a b 1)
    ∙ eq3 (λ p q r. bit_xor (bit_xor p q) r) (λ p q r. bit_xor p (bit_xor q r)) tt (a % 2) (b % 2) (c % 2) (mod-lt a (zero-lt-suc 1)) (mod-lt b (zero-lt-suc 1)) (mod-lt c (zero-lt-suc 1))
    ∙ sym (xor_mod a (bit_xor b c) 1 ∙ ap (λ (z : ℕ). bit_xor (a % 2) z) (xor_mod b c 1))))

pub xor_left_comm : (a b c : ℕ) → bit_xor a (bit_xor b c) ≡ bit_xor b (bit_xor a c)
xor_left_comm a b c = sym (xor_assoc a b c) ∙ ap (λ (z : ℕ). bit_xor z c) (xor_comm a b) ∙ xor_assoc b a c

-- the same twice is nothing
pub xor_cancel : (v w : ℕ) → bit_xor (bit_xor v w) w ≡ v
xor_cancel v w = xor_assoc v w w ∙ ap (bit_xor v) (xor_self w) ∙ xor_zero_r v

pub xor_cancel_left : (v w : ℕ) → bit_xor v (bit_xor v w) ≡ w
xor_cancel_left v w = xor_comm v (bit_xor v w) ∙ ap (λ (z : ℕ). bit_xor z v) (xor_comm v w) ∙ xor_cancel w v

-- what has no difference is equal
pub xor_equal : (v w : ℕ) → bit_xor v w ≡ 0 → w ≡ v
xor_equal v w e = sym (xor_cancel_left v w) ∙ ap (bit_xor v) e ∙ xor_zero_r v

pub xor_interchange : (a b c d : ℕ) → bit_xor (bit_xor a b) (bit_xor c d) ≡ bit_xor (bit_xor a c) (bit_xor b d)
xor_interchange a b c d = xor_assoc a b (bit_xor c d) ∙ ap (bit_xor a) (xor_left_comm b c d) ∙ sym (xor_assoc a c (bit_xor b d))

-- the XOR of two numbers, k places up
pub xor_placed : (k a b : ℕ) → bit_xor a b * 2 ^ k ≡ bit_xor (a * 2 ^ k) (b * 2 ^ k)
xor_placed k a b =
    sym (ap₂ bit_xor (sym (add-zero (a * 2 ^ k))) (sym (add-zero (b * 2 ^ k))) ∙ xor_block k a b 0 0 (pow_pos k) (pow_pos k) ∙ add-zero (bit_xor a b * 2 ^ k))

-- ---- over the numbers below k
pub xor_below_cong : (k : ℕ) (f g : ℕ → ℕ) → ((x : ℕ) → x < k → f x ≡ g x) → xor_below k f ≡ xor_below k g
unfolding xor_below
xor_below_cong zero f g h = refl
xor_below_cong (suc k) f g h = ap₂ bit_xor (xor_below_cong k f g (λ x l. h x (le_trans l (le-suc k)))) (h k (le_refl (suc k)))

pub xor_below_split : (a b : ℕ) (f : ℕ → ℕ) → xor_below (a + b) f ≡ bit_xor (xor_below a f) (xor_below b (λ x. f (a + x)))
unfolding xor_below
xor_below_split a zero f = ap (λ (z : ℕ). xor_below z f) (add-zero a) ∙ sym (xor_zero_r (xor_below a f))
xor_below_split a (suc b) f =
    ap (λ (z : ℕ). xor_below z f) (add-suc a b) ∙ ap (λ (z : ℕ). bit_xor z (f (a + b))) (xor_below_split a b f)
    ∙ xor_assoc (xor_below a f) (xor_below b (λ x. f (a + x))) (f (a + b))

-- over all numbers of one digit more: the lower half and the upper
pub xor_below_halves : (n : ℕ) (f : ℕ → ℕ) → xor_below (2 ^ suc n) f ≡ bit_xor (xor_below (2 ^ n) f) (xor_below (2 ^ n) (λ x. f (2 ^ n + x)))
xor_below_halves n f = ap (λ (z : ℕ). xor_below z f) (two-pow-succ n) ∙ xor_below_split (2 ^ n) (2 ^ n) f

pub xor_below_xor : (k : ℕ) (f g : ℕ → ℕ) → xor_below k (λ x. bit_xor (f x) (g x)) ≡ bit_xor (xor_below k f) (xor_below k g)
unfolding xor_below
xor_below_xor zero f g = refl
xor_below_xor (suc k) f g = ap (λ (z : ℕ). bit_xor z (bit_xor (f k) (g k))) (xor_below_xor k f g) ∙ xor_interchange (xor_below k f) (xor_below k g) (f k) (g k)

pub xor_below_zero : (k : ℕ) (f : ℕ → ℕ) → ((x : ℕ) → x < k → f x ≡ 0) → xor_below k f ≡ 0
unfolding xor_below
xor_below_zero zero f h = refl
xor_below_zero (suc k) f h = ap₂ bit_xor (xor_below_zero k f (λ x l. h x (le_trans l (le-suc k)))) (h k (le_refl (suc k)))

-- of numbers of m bits
pub xor_below_lt : (m k : ℕ) (f : ℕ → ℕ) → ((x : ℕ) → x < k → f x < 2 ^ m) → xor_below k f < 2 ^ m
unfolding xor_below
xor_below_lt m zero f h = pow_pos m
xor_below_lt m (suc k) f h = xor_lt m (xor_below k f) (f k) (xor_below_lt m k f (λ x l. h x (le_trans l (le-suc k)))) (h k (le_refl (suc k)))
