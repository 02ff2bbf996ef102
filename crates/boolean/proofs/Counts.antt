-- Counts and totals of naturals below k.
use mathlib.Core.Path.{◌≡◌, refl, sym, ap, ap₂, ◌∙◌}
use mathlib.Core.Bool.{Bool, true, false, not}
use Prim.Native.Nat.{ℕ, zero, suc, ◌+◌, ◌*◌, ◌/◌, ◌%◌, ◌^◌, ◌<◌, ◌≤◌, zero-le}
use native.Mathlib.Nat.{add_assoc, add-zero, add-suc, le_refl, le-suc, le_trans, suc-mul, mul_comm, two-pow-succ, not-suc-le-zero, div-add-mod', mod-lt, zero-lt-suc, add-mul, mul-add, mul_assoc, mul_left_comm, mul-le-mul}
use native.Mathlib.Omega.{arith}
use lib.Pow.{pow-add}
use native.Mathlib.Decide.{dec_le, dec_lt, ℕ_discrete}
use Rattle.boolean.specs.Sums.{count_below, one_if, total_below}
use Rattle.boolean.proofs.Dots.{bit_cases}

pub count_le : (k : ℕ) (p : ℕ → Bool) → count_below k p ≤ k
unfolding count_below one_if
count_le zero p = zero-le
count_le (suc k) p = step (p k) (count_le k p)
  where
    step : (b : Bool) → count_below k p ≤ k → count_below k p + one_if b ≤ suc k
    step true h = omega arith
    step false h = omega arith

pub count_cong : (k : ℕ) (p q : ℕ → Bool) → ((x : ℕ) → x < k → p x ≡ q x) → count_below k p ≡ count_below k q
unfolding count_below
count_cong zero p q h = refl
count_cong (suc k) p q h = ap₂ (λ (a : ℕ) (b : Bool). a + one_if b) (count_cong k p q (λ x l. h x (le_trans l (le-suc k)))) (h k (le_refl (suc k)))

pub count_split : (a b : ℕ) (p : ℕ → Bool) → count_below (a + b) p ≡ count_below a p + count_below b (λ x. p (a + x))
unfolding count_below
count_split a zero p = ap (λ (z : ℕ). count_below z p) (add-zero a) ∙ sym (add-zero (count_below a p))
count_split a (suc b) p =
    ap (λ (z : ℕ). count_below z p) (add-suc a b) ∙ ap (λ (z : ℕ). z + one_if (p (a + b))) (count_split a b p)
    ∙ add_assoc (count_below a p) (count_below b (λ x. p (a + x))) (one_if (p (a + b)))

pub count_halves : (n : ℕ) (p : ℕ → Bool) → count_below (2 ^ suc n) p ≡ count_below (2 ^ n) p + count_below (2 ^ n) (λ x. p (2 ^ n + x))
count_halves n p = ap (λ (z : ℕ). count_below z p) (two-pow-succ n) ∙ count_split (2 ^ n) (2 ^ n) p

-- what fails a test passes its negation
pub count_not : (k : ℕ) (p : ℕ → Bool) → count_below k p + count_below k (λ x. not (p x)) ≡ k
unfolding count_below one_if
count_not zero p = refl
count_not (suc k) p = step (p k) (count_not k p)
  where
    step : (b : Bool) → count_below k p + count_below k (λ x. not (p x)) ≡ k → count_below k p + one_if b + (count_below k (λ x. not (p x)) + one_if (not b)) ≡ suc k
    step true h = omega arith
    step false h = omega arith

-- two tests of which at most one passes are counted together by one
pub count_either : (k : ℕ) (p q r : ℕ → Bool) → ((x : ℕ) → one_if (r x) ≡ one_if (p x) + one_if (q x)) → count_below k r ≡ count_below k p + count_below k q
unfolding count_below
count_either zero p q r h = refl
count_either (suc k) p q r h = omega (arith, count_either k p q r h, h k)

-- ---- totals
pub total_cong : (k : ℕ) (f g : ℕ → ℕ) → ((x : ℕ) → x < k → f x ≡ g x) → total_below k f ≡ total_below k g
unfolding total_below
total_cong zero f g h = refl
total_cong (suc k) f g h = ap₂ (λ (a b : ℕ). a + b) (total_cong k f g (λ x l. h x (le_trans l (le-suc k)))) (h k (le_refl (suc k)))

pub total_le : (k m : ℕ) (f : ℕ → ℕ) → ((x : ℕ) → x < k → f x ≤ m) → total_below k f ≤ k * m
unfolding total_below
total_le zero m f h = zero-le
total_le (suc k) m f h = omega (arith, suc-mul k m, total_le k m f (λ x l. h x (le_trans l (le-suc k))), h k (le_refl (suc k)))

-- a total that reaches the bound reaches it everywhere
pub total_tight : (k m : ℕ) (f : ℕ → ℕ) → ((x : ℕ) → x < k → f x ≤ m) → total_below k f ≡ k * m → (x : ℕ) → x < k → f x ≡ m
unfolding total_below
total_tight zero m f h e x l = absurd (not-suc-le-zero l)
total_tight (suc k) m f h e x l = pick (λ j. total_tight k m f below rest x j) (ℕ_discrete x k)
  where
    below : (y : ℕ) → y < k → f y ≤ m
    below y j = h y (le_trans j (le-suc k))

    rest : total_below k f ≡ k * m
    rest = omega (arith, suc-mul k m, total_le k m f below, h k (le_refl (suc k)), e)

    pick : (x < k → f x ≡ m) → Dec (x ≡ k) → f x ≡ m
    pick r (yes q) = ap f q ∙ omega (arith, suc-mul k m, rest, e)
    pick r (no q) = r (omega arith)

-- some term is at least the mean
pub some_large : (k m : ℕ) (f : ℕ → ℕ) → zero < k → k * m ≤ total_below k f → (w : ℕ) × (w < k) × (m ≤ f w)
unfolding total_below
some_large zero m f p h = absurd (not-suc-le-zero p)
some_large (suc k) m f p h = pick (dec_le m (f k)) (λ q l. some_large k m f q l) (dec_lt zero k)
  where
    none : k ≡ zero → total_below k f ≡ zero
    none e = ap (λ (j : ℕ). total_below j f) e

    pick : Dec (m ≤ f k) → (zero < k → k * m ≤ total_below k f → (w : ℕ) × (w < k) × (m ≤ f w)) → Dec (zero < k) → (w : ℕ) × (w < suc k) × (m ≤ f w)
    pick (yes q) r d = (k, le_refl (suc k), q)
    pick (no q) r (yes z) = let t = r z (omega (arith, suc-mul k m)) in (t.0, omega (arith, t.1), t.2)
    pick (no q) r (no z) = absurd (let e : k ≡ zero = omega arith in omega (arith, suc-mul k m, none e))

-- ---- a power of two that is a square has an even exponent
two_le : (k : ℕ) → 2 ≤ suc (suc k)
two_le k = omega arith

halved : (k : ℕ) → k / 2 * 2 + k % 2 ≡ k
halved k = div-add-mod' k 2

even_square : (j : ℕ) → (j * 2) * (j * 2) ≡ 4 * (j * j)
even_square j = simp (mul_assoc, mul_comm, mul_left_comm) (omega arith)

odd_square : (j : ℕ) → (j * 2 + 1) * (j * 2 + 1) ≡ 4 * (j * j) + 4 * j + 1
odd_square j = simp (mul-add, add-mul, mul_assoc, mul_comm, mul_left_comm) (omega arith)

pow_four : (n : ℕ) → 2 ^ suc (suc n) ≡ 4 * 2 ^ n
pow_four n = omega (arith, two-pow-succ n, two-pow-succ (suc n))

pub pow_square : (n k : ℕ) → k * k ≡ 2 ^ n → (m : ℕ) × (n ≡ m + m) × (k ≡ 2 ^ m)
pow_square zero zero e = absurd (omega arith)
pow_square zero (suc zero) e = (0, refl, refl)
pow_square zero (suc (suc k)) e = absurd (omega (arith, mul-le-mul (two_le k) (two_le k)))
pow_square (suc zero) zero e = absurd (omega arith)
pow_square (suc zero) (suc zero) e = absurd (omega arith)
pow_square (suc zero) (suc (suc k)) e = absurd (omega (arith, mul-le-mul (two_le k) (two_le k)))
pow_square (suc (suc n)) k e = halve (λ d. pow_square n (k / 2) d) (k % 2) (mod-lt k (zero-lt-suc 1)) (sym (halved k))
  where
    halve : (k / 2 * (k / 2) ≡ 2 ^ n → (m : ℕ) × (n ≡ m + m) × (k / 2 ≡ 2 ^ m)) → (r : ℕ) → r < 2 → k ≡ k / 2 * 2 + r → (m : ℕ) × (suc (suc n) ≡ m + m) × (k ≡ 2 ^ m)
    halve rec r h q = bit_cases (λ r. k ≡ k / 2 * 2 + r → (m : ℕ) × (suc (suc n) ≡ m + m) × (k ≡ 2 ^ m))
        (λ q.
        let s : k * k ≡ k / 2 * 2 * (k / 2 * 2) = ap₂ (λ (a b : ℕ). a * b) (q ∙ add-zero (k / 2 * 2)) (q ∙ add-zero (k / 2 * 2)) in
        let t = rec (omega (arith, s, even_square (k / 2), pow_four n)) in
        (suc t.0, omega (arith, t.1), omega (arith, t.2, two-pow-succ t.0)))
        (λ q.
        let s : k * k ≡ (k / 2 * 2 + 1) * (k / 2 * 2 + 1) = ap₂ (λ (a b : ℕ). a * b) q q in
        absurd (omega (arith, s, odd_square (k / 2), pow_four n))) r h q

-- and one with an even exponent is a square
pub even_is_square : (m : ℕ) → 2 ^ m * 2 ^ m ≡ 2 ^ (m + m)
even_is_square m = sym (pow-add 2 m m)
