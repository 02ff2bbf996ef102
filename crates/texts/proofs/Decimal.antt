-- What `io::decimal` tells of its digits is the numeral of `specs/`. Assumes nothing.
use mathlib.Core.Path.{◌≡◌, sym, ap, ap₂, ◌∙◌, subst}
use mathlib.Core.List.{List, [], ◌∷◌, ◌++◌}
use Prim.Native.Nat.{ℕ, zero, suc, ◌+◌, ◌-◌, ◌/◌, ◌%◌, ◌^◌, ◌≤◌, ◌<◌}
use native.Mathlib.Nat.{le_of_suc-le-suc, not-suc-le-zero, pow-le-pow_right}
use native.Mathlib.Decide.{dec_lt}
use native.Mathlib.Omega.{arith}
use borrow.Author.Tests.{lt-ltb, le-ltb}
use Rattle.io.specs.Digits.{last_digits, hex_digit_ascii, IsDigitCount}
use Rattle.texts.specs.Text.{decimal_digits, numeral}

ten_pos : (k : ℕ) → 1 ≤ 10 ^ k
ten_pos zero = omega arith
ten_pos (suc k) = omega (arith, ten_pos k)

glyph_is : (d : ℕ) → d < 10 → hex_digit_ascii d ≡ 48 + d
glyph_is d h = rw (lt-ltb d 10 h)

-- one step of the numeral: a number below ten, and any other
module _ (d n : ℕ) where
  one_digit : n < 10 → decimal_digits (suc d) n ≡ (48 + n) ∷ []
  unfolding decimal_digits
  one_digit h = rw (lt-ltb n 10 h, decimal_digits)

  more_digits : 10 ≤ n → decimal_digits (suc d) n ≡ decimal_digits d (n / 10) ++ ((48 + n % 10) ∷ [])
  unfolding decimal_digits
  more_digits h = rw (le-ltb n 10 h, decimal_digits)

  digit_below : n % 10 < 10
  digit_below = omega arith

-- the fewest digits of a number are its numeral
digits_are : (k d n : ℕ) → k ≤ d → n < 10 ^ suc k → (0 < k → 10 ^ k ≤ n) → last_digits 10 (suc k) n ≡ decimal_digits (suc d) n
digits_are zero d n le top low =
    let h : n < 10 = omega arith in
    let e : n % 10 ≡ n = omega arith in
    ap (λ (x : ℕ). x ∷ []) (glyph_is (n % 10) (digit_below d n) ∙ ap (λ (x : ℕ). 48 + x) e) ∙ sym (one_digit d n h)
digits_are (suc k) zero n le top low = absurd (not-suc-le-zero le)
digits_are (suc k) (suc d) n le top low =
    let p : 10 ^ suc k ≤ n = low (omega arith) in
    let one : 1 ≤ 10 ^ k = ten_pos k in
    let h : 10 ≤ n = omega arith in
    let t : n / 10 < 10 ^ suc k = omega arith in
    let l : 10 ^ k ≤ n / 10 = omega arith in
    ap₂ (λ (x : List ℕ) (y : ℕ). x ++ (y ∷ [])) (digits_are k d (n / 10) (le_of_suc-le-suc le) t (λ _. l)) (glyph_is (n % 10) (digit_below d n))
    ∙ sym (more_digits (suc d) n h)

-- a number of 32 bits has at most ten digits
pub few : (n k : ℕ) → IsDigitCount 10 1 n k → n < 2 ^ 32 → k ≤ 10
few n k f h = by (dec_lt 10 k)
  where
    by : Dec (10 < k) → k ≤ 10
    by (no ge) = omega arith
    by (yes lt) =
        let p : 10 ^ 10 ≤ 10 ^ (k - 1) = pow-le-pow_right {n = 10} (omega arith) {i = 10} {j = k - 1} (omega arith) in
        let q : 10 ^ (k - 1) ≤ n = f.2 (omega arith) in
        omega arith

pub numeral_is : (n k : ℕ) → IsDigitCount 10 1 n k → n < 2 ^ 32 → last_digits 10 k n ≡ numeral n
numeral_is n zero f h = absurd (not-suc-le-zero f.0)
numeral_is n (suc k) f h =
    let e : suc k - 1 ≡ k = omega arith in
    let le : suc k ≤ 10 = few n (suc k) f h in
    digits_are k 9 n (le_of_suc-le-suc le) f.1 (λ h. subst (λ (m : ℕ). 10 ^ m ≤ n) e (f.2 (omega arith)))
