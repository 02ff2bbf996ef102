-- A numeral is in base ten: read back as decimal digits it is the number. Assumes nothing.
use Prim.Native.Nat.{ℕ, zero, suc, ◌+◌, ◌*◌, ◌-◌, ◌/◌, ◌%◌, ◌^◌, ◌≤◌, ◌<◌}
use mathlib.Core.Path.{◌≡◌, refl, ap, ◌∙◌}
use mathlib.Core.Bool.{Bool, true, false}
use mathlib.Core.List.{List, [], ◌∷◌, ◌++◌, foldl, foldl-append}
use native.Mathlib.Omega.{arith}
use native.Mathlib.Numerals.{unary_clauses}
use borrow.Author.Tests.{ltb-false}
use lib.Dec.{ltb}
use Rattle.texts.specs.Text.{decimal_digits, numeral}

-- the number that characters are read as, of which "0" has the code 48: the first digit weighs most
abbrev pub read_back : List ℕ → ℕ
read_back digits = foldl (λ (v c : ℕ). v * 10 + (c - 48)) 0 digits

more_digits : (d n : ℕ) → n < 10 ^ suc d → 10 ≤ n → 1 ≤ d
more_digits zero n l big = absurd (omega arith)
more_digits (suc d) n l big = omega arith

digits_read_back : (d n : ℕ) → n < 10 ^ d → 1 ≤ d → read_back (decimal_digits d n) ≡ n
unfolding decimal_digits
digits_read_back zero n l low = absurd (omega arith)
digits_read_back (suc d) n l low = go (ltb n 10) refl (λ h k. digits_read_back d (n / 10) h k)
  where
    go : (t : Bool) → ltb n 10 ≡ t → (n / 10 < 10 ^ d → 1 ≤ d → read_back (decimal_digits d (n / 10)) ≡ n / 10)
        → read_back (elim t [ true ↦ ((48 + n) ∷ []) | false ↦ (decimal_digits d (n / 10) ++ ((48 + n % 10) ∷ [])) ]) ≡ n
    go true e rec = omega arith
    go false e rec =
        let big = ltb-false n 10 e in
        let small : n < 10 ^ d * 10 = simp unary_clauses at l in
        let rest : n / 10 < 10 ^ d = omega arith in
        let some : 1 ≤ d = more_digits d n l big in
        foldl-append (λ (v c : ℕ). v * 10 + (c - 48)) 0 (decimal_digits d (n / 10)) ((48 + n % 10) ∷ [])
        ∙ ap (λ (v : ℕ). v * 10 + (48 + n % 10 - 48)) (rec rest some) ∙ omega arith

pub numeral_read_back : (n : ℕ) → n < 10 ^ 10 → read_back (numeral n) ≡ n
numeral_read_back n l = digits_read_back 10 n l (omega arith)

-- every byte of it is a digit, "0" to "9", with the codes 48 to 57
pub numeral_of_ten : numeral 9876543210 ≡ 57 ∷ 56 ∷ 55 ∷ 54 ∷ 53 ∷ 52 ∷ 51 ∷ 50 ∷ 49 ∷ 48 ∷ []
unfolding decimal_digits
numeral_of_ten = refl
