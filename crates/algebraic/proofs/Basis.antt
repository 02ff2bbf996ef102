-- A basis of words, each with its highest one at its own place: a word is brought below the places, one after the other, and a basis that has a word at
-- every place spans all words. Assumes nothing.
use mathlib.Core.Path.{◌≡◌, refl, sym, ap, ap₂, ◌∙◌, subst}
use mathlib.Core.Logic.{◌⊎◌, inl, inr}
use mathlib.Core.List.{List}
use Prim.Native.Nat.{ℕ, zero, suc, ◌+◌, ◌-◌, ◌*◌, ◌/◌, ◌^◌, ◌<◌, ◌≤◌}
use native.Mathlib.Decide.{dec_lt}
use native.Mathlib.Nat.{le_trans}
use native.Mathlib.Omega.{arith}
use lib.Bits.{bit_xor, xor_block, xor_lt, xor_zero_r}
use lib.ListN.{set}
use lib.Pow.{pow_mono, pow_pos}
use Rattle.boolean.specs.Bits.{dot}
use Rattle.boolean.specs.Functions.{at}
use Rattle.boolean.proofs.Dots.{dot_zero, dot_xor}
use Rattle.algebraic.specs.Work.{Echelon, EvenOn, WordPlaced, Spanned}

-- two words that have their highest one at the same place: their XOR is below it
pub top_cancels : (k a b : ℕ) → 2 ^ k ≤ a → a < 2 ^ suc k → 2 ^ k ≤ b → b < 2 ^ suc k → bit_xor a b < 2 ^ k
top_cancels k a b al ah bl bh =
    let r : a - 2 ^ k < 2 ^ k = omega arith in
    let s : b - 2 ^ k < 2 ^ k = omega arith in
    let ea : a ≡ 1 * 2 ^ k + (a - 2 ^ k) = omega arith in
    let eb : b ≡ 1 * 2 ^ k + (b - 2 ^ k) = omega arith in
    let e : bit_xor a b ≡ 0 * 2 ^ k + bit_xor (a - 2 ^ k) (b - 2 ^ k) = ap₂ bit_xor ea eb ∙ xor_block k 1 1 (a - 2 ^ k) (b - 2 ^ k) r s in
    omega (arith, e, xor_lt k (a - 2 ^ k) (b - 2 ^ k) r s)

-- XOR with a word that c is even at
pub even_xor : (v b c : ℕ) → dot b c ≡ 0 → dot (bit_xor v b) c ≡ dot v c
even_xor v b c e = dot_xor v b c ∙ ap (λ (z : ℕ). bit_xor (dot v c) z) e ∙ xor_zero_r (dot v c)

-- a basis that has a word at each of m places: what is even on it is even at every word of m bits
pub all_even : (m : ℕ) (basis : List ℕ) (c : ℕ) → Echelon basis → ((k : ℕ) → k < m → at basis k ≡ 0 → ⊥) → EvenOn basis c → (v : ℕ) → v < 2 ^ m → dot v c ≡ 0
all_even zero basis c stairs full even v l = let z : v ≡ 0 = omega arith in ap (λ (v : ℕ). dot v c) z ∙ dot_zero c
all_even (suc m) basis c stairs full even v l = pick (all_even m basis c stairs (λ k h. full k (omega arith)) even) (dec_lt v (2 ^ m)) (stairs m)
  where
    pick : ((v : ℕ) → v < 2 ^ m → dot v c ≡ 0) → Dec (v < 2 ^ m) → (at basis m ≡ 0) ⊎ ((2 ^ m ≤ at basis m) × (at basis m < 2 ^ suc m)) → dot v c ≡ 0
    pick lower (yes k) s = lower v k
    pick lower (no k) (inl z) = absurd (full m (omega arith) z)
    pick lower (no k) (inr t) = sym (even_xor v (at basis m) c (even m)) ∙ lower (bit_xor v (at basis m)) (top_cancels m v (at basis m) (omega arith) l t.0 t.1)

-- what is left of the word is as odd or even as the word on what is even on the basis
pub record Reducing (m word : ℕ) (basis : List ℕ) (rest : ℕ) : Type 0 where
  pub below : rest < 2 ^ m
  pub none : word ≡ 0 → rest ≡ 0
  pub same : (c : ℕ) → EvenOn basis c → dot rest c ≡ dot word c

pub reducing_starts : (m word : ℕ) (basis : List ℕ) → word < 2 ^ m → Reducing m word basis word
reducing_starts m word basis l = record { below = l; none = λ z. z; same = λ c h. refl }

-- the place of its highest one
module _ {m word : ℕ} {basis : List ℕ} {rest : ℕ} (r : Reducing m word basis rest) (place : ℕ) (low : 2 ^ place ≤ rest) (high : rest < 2 * 2 ^ place) where
  pub place_inside : place < m
  place_inside = go (dec_lt place m)
    where
      go : Dec (place < m) → place < m
      go (yes l) = l
      go (no l) = absurd (omega (arith, r.below, pow_mono {i = m} {j = place} (omega arith)))

  some : rest ≡ 0 → ⊥
  some z = omega (arith, pow_pos place)

  -- the basis has a word there: their XOR has its highest one at a lower place
  module _ (stairs : Echelon basis) (here : at basis place ≡ 0 → ⊥) where
    pub taken_less : bit_xor rest (at basis place) < 2 ^ place
    taken_less = pick (stairs place)
      where
        pick : (at basis place ≡ 0) ⊎ ((2 ^ place ≤ at basis place) × (at basis place < 2 ^ suc place)) → bit_xor rest (at basis place) < 2 ^ place
        pick (inl z) = absurd (here z)
        pick (inr t) = top_cancels place rest (at basis place) low (omega arith) t.0 t.1

    pub reducing_taken : Reducing m word basis (bit_xor rest (at basis place))
    reducing_taken = record {
      below = omega (arith, taken_less, low, r.below);
      none = λ z. absurd (some (r.none z));
      same = λ c e. even_xor rest (at basis place) c (e place) ∙ r.same c e;
    }

  -- the place is free
  pub reducing_placed : at basis place ≡ 0 → WordPlaced m word basis (set basis place rest)
  reducing_placed e = record {
    place = place;
    rest = rest;
    inside = place_inside;
    free = e;
    low = low;
    high = omega arith;
    some = λ z. some (r.none z);
    put = refl;
    same = r.same;
  }

-- nothing is left
pub reducing_ends : {m word : ℕ} {basis : List ℕ} {rest : ℕ} → Reducing m word basis rest → rest ≡ 0 → Spanned word basis basis
reducing_ends r z = record { kept = refl; even = λ c e. sym (r.same c e) ∙ ap (λ (v : ℕ). dot v c) z ∙ dot_zero c }
