-- The inner product of bit vectors: bilinear, and split at the top digit.
use mathlib.Core.Path.{◌≡◌, refl, sym, ap, ap₂, ◌∙◌}
use mathlib.Core.Logic.{◌⊎◌, inl, inr}
use Prim.Native.Nat.{ℕ, zero, suc, ◌+◌, ◌*◌, ◌%◌, ◌/◌, ◌^◌, ◌<◌, min}
use native.Mathlib.Nat.{mod-lt, zero-lt-suc, one-mul, zero-mul, not-suc-le-zero, le_of_suc-le-suc, zero-add, mod-eq_of_lt, add-mod-mod, mod-add-mod, min-le_left, lt_of_le_of_lt}
use native.Mathlib.Decide.{ℕ_discrete}
use native.Mathlib.Omega.{arith}
use lib.Arith.{bin_ind}
use lib.Bits.{bit_and, bit_xor, and_step, and_block, xor_shr, xor_mod, and_comm}
use lib.Count.{ones, ones_in, ones_cat}
use lib.Dec.{eqb, eqb→eq}
use Rattle.boolean.specs.Bits.{parity, dot, affine}
use Rattle.boolean.proofs.Cases.{eq5, all2}
use Rattle.boolean.proofs.Xor.{xor_interchange}

two_pos : zero < 2
two_pos = zero-lt-suc 1

-- a bit is 0 or 1
pub bit_cases : (P : ℕ → Type 0) → P 0 → P 1 → (a : ℕ) → a < 2 → P a
bit_cases P p q zero h = p
bit_cases P p q (suc zero) h = q
bit_cases P p q (suc (suc a)) h = absurd (not-suc-le-zero (le_of_suc-le-suc (le_of_suc-le-suc h)))

pub dot_bit : (w x : ℕ) → dot w x < 2
unfolding dot parity
dot_bit w x = mod-lt (ones (bit_and w x)) two_pos

pub dot_comm : (w x : ℕ) → dot w x ≡ dot x w
unfolding dot parity
dot_comm w x = ap (λ (z : ℕ). ones z % 2) (and_comm w x)

-- one digit off the low end
min_bit : (p r : ℕ) → p < 2 → min p r < 2
min_bit p r h = lt_of_le_of_lt (min-le_left p r) h

pub ones_bit : (p : ℕ) → p < 2 → ones p ≡ p
unfolding ones ones_in
ones_bit = bit_cases (λ p. ones p ≡ p) refl refl

pub dot_step : (w x : ℕ) → dot w x ≡ (dot (w / 2) (x / 2) + min (w % 2) (x % 2)) % 2
unfolding dot parity
dot_step w x =
    ap (λ (z : ℕ). ones z % 2) (and_step w x)
    ∙ ap (λ (z : ℕ). z % 2) (ones_cat 1 (bit_and (w / 2) (x / 2)) (min (w % 2) (x % 2)) (min_bit (w % 2) (x % 2) (mod-lt w two_pos)))
    ∙ ap (λ (z : ℕ). (ones (bit_and (w / 2) (x / 2)) + z) % 2) (ones_bit (min (w % 2) (x % 2)) (min_bit (w % 2) (x % 2) (mod-lt w two_pos)))
    ∙ sym (mod-add-mod (ones (bit_and (w / 2) (x / 2))) 2 (min (w % 2) (x % 2)))

-- on bits, `and` distributes over `xor`
digit : (A B p q r : ℕ) → A < 2 → B < 2 → p < 2 → q < 2 → r < 2
    → (bit_xor A B + min (bit_xor p q) r) % 2 ≡ bit_xor ((A + min p r) % 2) ((B + min q r) % 2)
digit = eq5 (λ A B p q r. (bit_xor A B + min (bit_xor p q) r) % 2) (λ A B p q r. bit_xor ((A + min p r) % 2) ((B + min q r) % 2)) tt

pub dot_zero : (x : ℕ) → dot 0 x ≡ 0
unfolding dot parity ones ones_in
dot_zero x = refl

pub dot_xor : (w v x : ℕ) → dot (bit_xor w v) x ≡ bit_xor (dot w x) (dot v x)
dot_xor =
    bin_ind (λ (w : ℕ). (v x : ℕ) → dot (bit_xor w v) x ≡ bit_xor (dot w x) (dot v x)) (λ v x. ap (λ (z : ℕ). bit_xor z (dot v x)) (sym (dot_zero x)))
    (λ w ih v x.
    dot_step (bit_xor w v) x
    ∙ ap₂ (λ (a b : ℕ). (dot a (x / 2) + min b (x % 2)) % 2) (xor_shr w v 1) (xor_mod w v 1)
    ∙ ap (λ (a : ℕ). (a + min (bit_xor (w % 2) (v % 2)) (x % 2)) % 2) (ih (v / 2) (x / 2))
    ∙ digit (dot (w / 2) (x / 2)) (dot (v / 2) (x / 2)) (w % 2) (v % 2) (x % 2) (dot_bit (w / 2) (x / 2)) (dot_bit (v / 2) (x / 2)) (mod-lt w two_pos) (mod-lt v two_pos) (mod-lt x two_pos)
    ∙ sym (ap₂ bit_xor (dot_step w x) (dot_step v x)))

pub dot_xor_r : (w x y : ℕ) → dot w (bit_xor x y) ≡ bit_xor (dot w x) (dot w y)
dot_xor_r w x y = dot_comm w (bit_xor x y) ∙ dot_xor x y w ∙ ap₂ bit_xor (dot_comm x w) (dot_comm y w)

-- split at the top digit
pub dot_block : (n t u w x : ℕ) → w < 2 ^ n → x < 2 ^ n → dot (t * 2 ^ n + w) (u * 2 ^ n + x) ≡ (ones (bit_and t u) + dot w x) % 2
unfolding dot parity
dot_block n t u w x hw hx =
    ap (λ (z : ℕ). ones z % 2) (and_block n t u w x hw hx)
    ∙ ap (λ (z : ℕ). z % 2) (ones_cat n (bit_and t u) (bit_and w x) (lt_of_le_of_lt (lib.Bits.and_le_l w x) hw))
    ∙ sym (add-mod-mod (ones (bit_and t u)) (ones (bit_and w x)) 2)

pub dot_00 : (w x : ℕ) → (0 + dot w x) % 2 ≡ dot w x
dot_00 w x = ap (λ (z : ℕ). z % 2) (zero-add (dot w x)) ∙ mod-eq_of_lt (dot_bit w x)

module _ (n w x : ℕ) (hw : w < 2 ^ n) (hx : x < 2 ^ n) where
  -- a top digit of x meets no top digit of w
  pub dot_01 : dot w (2 ^ n + x) ≡ dot w x
  unfolding ones ones_in
  dot_01 =
      ap₂ dot (sym (zero-add w) ∙ ap (λ (z : ℕ). z + w) (sym (zero-mul (2 ^ n)))) (ap (λ (z : ℕ). z + x) (sym (one-mul (2 ^ n))))
      ∙ dot_block n 0 1 w x hw hx ∙ dot_00 w x

  pub dot_10 : dot (2 ^ n + w) x ≡ dot w x
  unfolding ones ones_in
  dot_10 =
      ap₂ dot (ap (λ (z : ℕ). z + w) (sym (one-mul (2 ^ n)))) (sym (zero-add x) ∙ ap (λ (z : ℕ). z + x) (sym (zero-mul (2 ^ n))))
      ∙ dot_block n 1 0 w x hw hx ∙ dot_00 w x

  pub dot_11 : dot (2 ^ n + w) (2 ^ n + x) ≡ bit_xor 1 (dot w x)
  unfolding ones ones_in
  dot_11 =
      ap₂ dot (ap (λ (z : ℕ). z + w) (sym (one-mul (2 ^ n)))) (ap (λ (z : ℕ). z + x) (sym (one-mul (2 ^ n))))
      ∙ dot_block n 1 1 w x hw hx ∙ bit_cases (λ z. (1 + z) % 2 ≡ bit_xor 1 z) refl refl (dot w x) (dot_bit w x)

-- ---- the inner product of two numbers of two parts
bits_add : (a b : ℕ) → a < 2 → b < 2 → (a + b) % 2 ≡ bit_xor a b
bits_add a b ha hb = eqb→eq ((a + b) % 2) (bit_xor a b) (all2 (λ a b. eqb ((a + b) % 2) (bit_xor a b)) tt a b ha hb)

-- the XOR of the inner products of the parts
pub dot_parts : (h u x v y : ℕ) → v < 2 ^ h → y < 2 ^ h → dot (u * 2 ^ h + v) (x * 2 ^ h + y) ≡ bit_xor (dot u x) (dot v y)
unfolding dot parity
dot_parts h u x v y hv hy =
    dot_block h u x v y hv hy ∙ sym (mod-add-mod (ones (bit_and u x)) 2 (dot v y)) ∙ bits_add (dot u x) (dot v y) (dot_bit u x) (dot_bit v y)

-- an affine function of XORs is the XOR of the affine functions
pub affine_xor : (w b v c x : ℕ) → affine (bit_xor w v) (bit_xor b c) x ≡ bit_xor (affine w b x) (affine v c x)
unfolding affine
affine_xor w b v c x = ap (λ (z : ℕ). bit_xor z (bit_xor b c)) (dot_xor w v x) ∙ xor_interchange (dot w x) (dot v x) b c

-- of some truth values one is 1, or all are 0
pub some_or_none : (f : ℕ → ℕ) → ((j : ℕ) → f j < 2) → (count : ℕ) → ((j : ℕ) × (j < count) × (f j ≡ 1)) ⊎ ((j : ℕ) → j < count → f j ≡ 0)
some_or_none f bits zero = inr (λ j l. absurd (omega arith))
some_or_none f bits (suc count) = pick (some_or_none f bits count) (ℕ_discrete (f count) 1)
  where
    pick : ((j : ℕ) × (j < count) × (f j ≡ 1)) ⊎ ((j : ℕ) → j < count → f j ≡ 0) → Dec (f count ≡ 1) → ((j : ℕ) × (j < suc count) × (f j ≡ 1)) ⊎ ((j : ℕ) → j < suc count → f j ≡ 0)
    pick (inl t) d = inl (t.0, omega (arith, t.1), t.2)
    pick (inr none) (yes e) = inl (count, omega arith, e)
    pick (inr none) (no e) = inr (λ j l. last j l (ℕ_discrete j count))
      where
        last : (j : ℕ) → j < suc count → Dec (j ≡ count) → f j ≡ 0
        last j l (yes q) = ap f q ∙ (let b = bits count in omega arith)
        last j l (no q) = none j (omega arith)
