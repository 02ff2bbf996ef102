-- Enlargement keeps bijectivity, whatever the table of bits.
use mathlib.Core.Path.{◌≡◌, refl, sym, ap, ◌∙◌}
use mathlib.Core.Bool.{true}
use mathlib.Core.List.{List}
use Prim.Native.Nat.{ℕ, suc, ◌+◌, ◌*◌, ◌-◌, ◌/◌, ◌%◌, ◌^◌, ◌<◌, ◌≤◌}
use native.Mathlib.Omega.{arith}
use lib.Bits.{bit_xor, xor_lt, xor_zero_r}
use lib.ListN.{length}
use lib.Pow.{high, low}
use Rattle.boolean.specs.Functions.{Boolean, at}
use Rattle.boolean.proofs.Dots.{bit_cases}
use Rattle.boolean.proofs.Transform.{half_cases}
use Rattle.boolean.proofs.Xor.{xor_cancel}
use Rattle.algebraic.specs.Algebraic.{bijective}
use Rattle.algebraic.specs.Statements.{Injective}
use Rattle.algebraic.proofs.Theorems.{bijective_iff}
use Rattle.constructions.specs.Enlargement.{enlarged, enlarged_rows}
use Rattle.constructions.proofs.Halves.{input_bit_lt, enlarged_lower, enlarged_upper, length_enlarged_rows, at_enlarged_rows, low_part_lt}

module _ (n : ℕ) (rows table : List ℕ) (k : ℕ) (size : length rows ≡ 2 ^ n) (below : (x : ℕ) → x < 2 ^ n → at rows x < 2 ^ n) (bits : Boolean n (at table)) (lo : 1 ≤ k) (hi : k ≤ n) where
  -- the input that the upper half changes
  abbrev e : ℕ
  e = 2 ^ (k - 1)

  -- an input with bit k changed is an input
  shifted : (x : ℕ) → x < 2 ^ n → bit_xor x e < 2 ^ n
  shifted x l = xor_lt n x e l (input_bit_lt n k lo hi)

  -- equal rows have equal parts
  same_row : (x : ℕ) → x < 2 ^ suc n → (y : ℕ) → y < 2 ^ suc n → at (enlarged_rows n rows table k) x ≡ at (enlarged_rows n rows table k) y
      → enlarged n (at table) k 1 x * 2 ^ n + enlarged n (at rows) k 0 x ≡ enlarged n (at table) k 1 y * 2 ^ n + enlarged n (at rows) k 0 y
  same_row x hx y hy q = sym (at_enlarged_rows n rows table k x hx) ∙ q ∙ at_enlarged_rows n rows table k y hy

  -- so equal rows have equal low parts
  same_low : (x : ℕ) → x < 2 ^ suc n → (y : ℕ) → y < 2 ^ suc n → at (enlarged_rows n rows table k) x ≡ at (enlarged_rows n rows table k) y
      → enlarged n (at rows) k 0 x ≡ enlarged n (at rows) k 0 y
  same_low x hx y hy q =
      sym (low (enlarged n (at table) k 1 x) n (low_part_lt n rows table k below bits lo hi x hx)) ∙ ap (λ (z : ℕ). z % 2 ^ n) (same_row x hx y hy q)
      ∙ low (enlarged n (at table) k 1 y) n (low_part_lt n rows table k below bits lo hi y hy)

  -- and equal top bits
  same_top : (x : ℕ) → x < 2 ^ suc n → (y : ℕ) → y < 2 ^ suc n → at (enlarged_rows n rows table k) x ≡ at (enlarged_rows n rows table k) y
      → enlarged n (at table) k 1 x ≡ enlarged n (at table) k 1 y
  same_top x hx y hy q =
      sym (high (enlarged n (at table) k 1 x) n (low_part_lt n rows table k below bits lo hi x hx)) ∙ ap (λ (z : ℕ). z / 2 ^ n) (same_row x hx y hy q)
      ∙ high (enlarged n (at table) k 1 y) n (low_part_lt n rows table k below bits lo hi y hy)

  -- the low part in the upper half
  upper_row : (x : ℕ) → enlarged n (at rows) k 0 (2 ^ n + x) ≡ at rows (bit_xor x e)
  upper_row x = enlarged_upper n (at rows) k 0 x ∙ xor_zero_r (at rows (bit_xor x e))

  module _ (injective : Injective n rows) where
    -- an input of the lower half and one of the upper with equal low parts have different top bits
    apart : (x y : ℕ) → x < 2 ^ n → y < 2 ^ n → enlarged n (at rows) k 0 x ≡ enlarged n (at rows) k 0 (2 ^ n + y)
        → enlarged n (at table) k 1 x ≡ enlarged n (at table) k 1 (2 ^ n + y) → ⊥
    apart x y hx hy p q =
        let s : x ≡ bit_xor y e = injective x (bit_xor y e) hx (shifted y hy) (sym (enlarged_lower n (at rows) k 0 x hx) ∙ p ∙ upper_row y) in
        let t : at table x ≡ bit_xor (at table x) 1 =
        sym (enlarged_lower n (at table) k 1 x hx) ∙ q ∙ enlarged_upper n (at table) k 1 y ∙ ap (λ (z : ℕ). bit_xor (at table z) 1) (sym s) in
        bit_cases (λ v. v ≡ bit_xor v 1 → ⊥) (λ c. omega (arith, c)) (λ c. omega (arith, c)) (at table x) (bits x hx) t

    -- two inputs of the upper half with equal low parts are equal
    both_upper : (x y : ℕ) → x < 2 ^ n → y < 2 ^ n → enlarged n (at rows) k 0 (2 ^ n + x) ≡ enlarged n (at rows) k 0 (2 ^ n + y) → x ≡ y
    both_upper x y hx hy p =
        sym (xor_cancel x e) ∙ ap (λ (z : ℕ). bit_xor z e) (injective (bit_xor x e) (bit_xor y e) (shifted x hx) (shifted y hy) (sym (upper_row x) ∙ p ∙ upper_row y)) ∙ xor_cancel y e

    -- inputs with equal parts are equal, whatever their halves
    parts_injective : (x : ℕ) → x < 2 ^ suc n → (y : ℕ) → y < 2 ^ suc n → enlarged n (at rows) k 0 x ≡ enlarged n (at rows) k 0 y
        → enlarged n (at table) k 1 x ≡ enlarged n (at table) k 1 y → x ≡ y
    parts_injective = half_cases n (λ x. (y : ℕ) → y < 2 ^ suc n → enlarged n (at rows) k 0 x ≡ enlarged n (at rows) k 0 y → enlarged n (at table) k 1 x ≡ enlarged n (at table) k 1 y → x ≡ y)
        (λ x hx. half_cases n (λ y. enlarged n (at rows) k 0 x ≡ enlarged n (at rows) k 0 y → enlarged n (at table) k 1 x ≡ enlarged n (at table) k 1 y → x ≡ y)
        (λ y hy p q. injective x y hx hy (sym (enlarged_lower n (at rows) k 0 x hx) ∙ p ∙ enlarged_lower n (at rows) k 0 y hy))
        (λ y hy p q. absurd (apart x y hx hy p q)))
        (λ x hx. half_cases n (λ y. enlarged n (at rows) k 0 (2 ^ n + x) ≡ enlarged n (at rows) k 0 y → enlarged n (at table) k 1 (2 ^ n + x) ≡ enlarged n (at table) k 1 y → 2 ^ n + x ≡ y)
        (λ y hy p q. absurd (apart y x hy hx (sym p) (sym q)))
        (λ y hy p q. ap (λ (z : ℕ). 2 ^ n + z) (both_upper x y hx hy p)))

  -- a bijective box makes a bijective box
  pub rows_bijective : bijective n n rows ≡ true → bijective (suc n) (suc n) (enlarged_rows n rows table k) ≡ true
  rows_bijective h =
      let injective = ((bijective_iff n n rows size).0 h).1 in
      (bijective_iff (suc n) (suc n) (enlarged_rows n rows table k) (length_enlarged_rows n rows table k)).1
      (refl, λ x y hx hy q. parts_injective injective x hx y hy (same_low x hx y hy q) (same_top x hx y hy q))
