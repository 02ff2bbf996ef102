-- The pairs of one component that differ at d inputs, by its spectrum: where the magnitude is what d leaves of half the inputs, the value's sign
-- decides b. Assumes nothing.
use mathlib.Core.Path.{◌≡◌, refl, sym, ap, ◌∙◌}
use mathlib.Core.Bool.{Bool, true, false}
use mathlib.Core.List.{List, [], ◌∷◌, map, Memᴰ}
use Prim.Native.Nat.{ℕ, zero, suc, ◌+◌, ◌*◌, ◌-◌, ◌/◌, ◌^◌, ◌≤◌, ◌<◌}
use native.Mathlib.Decide.{ℕ_discrete}
use native.Mathlib.Omega.{arith}
use borrow.Author.Tests.{eq-eqb, ne_eqb, eqb-true}
use lib.Dec.{eqb}
use lib.IntN.{ℤ, pos, negsuc, ◌+ℤ◌, nat_abs}
use lib.ListN.{length}
use lib.Pow.{pow_pos}
use Rattle.boolean.specs.Sums.{list_below, each, keep}
use Rattle.boolean.specs.Functions.{value_at, component, components, distance, walsh, approximation, spectrum, sign_bit, MaskWithin}
use Rattle.boolean.specs.Selection.{Candidate, first_least}
use Rattle.boolean.proofs.Approximations.{walsh_twice, half_power}
use Rattle.boolean.proofs.Digits.{component_lt}
use Rattle.boolean.proofs.Distances.{walsh_pos, walsh_negsuc}
use Rattle.boolean.proofs.Kept.{each_each, each_cong_on, keep_takes, keep_drops, mem_keep}
use Rattle.boolean.proofs.Lists.{length_list_below, get_or_list_below, mem_list_below}
use Rattle.boolean.proofs.Selection.{first_least_chooses}
use Rattle.boolean.proofs.Walsh.{distance_sum}
use Rattle.linear.specs.Nonlinearity.{pair, pairs_of, pairs, nonlinearity}
use Rattle.linear.proofs.Theorems.{component_least, covering_bound}
use Rattle.differential.proofs.CellRows.{map_each}
use Rattle.nearest.specs.NearestPairs.{code, coded_pair, nearest_pairs}
use Rattle.nearest.specs.Work.{pairs_at, pair_number_at, pair_numbers, NonlinearityKnown}

-- ---- of two pairs, the first, the second or none is kept
module _ {A : Type 0} (p : A → Bool) (x y : A) where
  keep_first : p x ≡ true → p y ≡ false → keep p (x ∷ y ∷ []) ≡ x ∷ []
  unfolding keep each
  keep_first a b = keep_takes p x (y ∷ []) a ∙ ap (λ (l : List A). x ∷ l) (keep_drops p y [] b)

  keep_second : p x ≡ false → p y ≡ true → keep p (x ∷ y ∷ []) ≡ y ∷ []
  unfolding keep each
  keep_second a b = keep_drops p x (y ∷ []) a ∙ keep_takes p y [] b

  keep_neither : p x ≡ false → p y ≡ false → keep p (x ∷ y ∷ []) ≡ []
  unfolding keep each
  keep_neither a b = keep_drops p x (y ∷ []) a ∙ keep_drops p y [] b

-- the number at w, where the value's magnitude is the size, and where it is another
pub place_hit : (c size w : ℕ) (value : ℤ) → nat_abs value ≡ size → pair_number_at c size w value ≡ code c w (sign_bit value) ∷ []
unfolding pair_number_at
place_hit c size w value e = rw (pair_number_at, eq-eqb (nat_abs value) size e)

pub place_miss : (c size w : ℕ) (value : ℤ) → (nat_abs value ≡ size → ⊥) → pair_number_at c size w value ≡ []
unfolding pair_number_at
place_miss c size w value e = rw (pair_number_at, ne_eqb (nat_abs value) size e)

-- ---- the pairs of component c
module _ (n : ℕ) (rows : List ℕ) (c d : ℕ) where
  abbrev near : Candidate → Bool
  near p = eqb p.figure d

  abbrev both : ℕ → List Candidate
  both w = pair n rows c w 0 ∷ pair n rows c w 1 ∷ []

  -- none where all of them differ at more
  pub pairs_none : d < (first_least (pairs_of n rows c)).figure → pairs_at n rows d c ≡ []
  unfolding pairs_at
  pairs_none h = empty (keep near (pairs_of n rows c)) (λ p k.
      let t = mem_keep near (pairs_of n rows c) p k in
      omega (arith, first_least_chooses.all (pairs_of n rows c) p t.0, eqb-true p.figure d t.1))
    where
      empty : (l : List Candidate) → ((p : Candidate) → Memᴰ p l → ⊥) → map coded_pair l ≡ []
      empty [] none = refl
      empty (p ∷ l) none = absurd (none p (Memᴰ.head refl))

  module _ {values : List ℤ} (e : values ≡ spectrum n (component rows c)) (low : 1 ≤ n) (below : 2 * d < 2 ^ n) where
    abbrev size : ℕ
    size = 2 ^ n / 2 - d

    value_is : (w : ℕ) → w < 2 ^ n → value_at values w ≡ approximation n (component rows c) w
    unfolding spectrum
    value_is w l = ap (λ (vs : List ℤ). value_at vs w) e ∙ get_or_list_below (2 ^ n) (approximation n (component rows c)) w (pos 0) l

    long : length values ≡ 2 ^ n
    unfolding spectrum
    long = ap length e ∙ length_list_below (2 ^ n) (approximation n (component rows c))

    boolean : (x : ℕ) → x < 2 ^ n → component rows c x < 2
    boolean x l = component_lt rows c x

    -- the two pairs of w
    at_w : (w : ℕ) → w < 2 ^ n → map coded_pair (keep near (both w)) ≡ pair_number_at c size w (value_at values w)
    unfolding sign_bit
    at_w w l = go (value_at values w) refl
      where
        f : ℕ → ℕ
        f = component rows c

        d₀ : ℕ
        d₀ = distance n f w 0

        d₁ : ℕ
        d₁ = distance n f w 1

        sum : d₀ + d₁ ≡ 2 ^ n
        sum = distance_sum n f w boolean

        half : 2 ^ n / 2 + 2 ^ n / 2 ≡ 2 ^ n
        half = omega (arith, half_power n low)

        twice : {v : ℤ} → value_at values w ≡ v → walsh n f w ≡ v +ℤ v
        twice q = sym (ap (λ (z : ℤ). z +ℤ z) (sym q ∙ value_is w l) ∙ walsh_twice n f w low)

        neither : (d₀ ≡ d → ⊥) → (d₁ ≡ d → ⊥) → (nat_abs (value_at values w) ≡ size → ⊥) → map coded_pair (keep near (both w)) ≡ pair_number_at c size w (value_at values w)
        neither a b s =
            ap (map coded_pair) (keep_neither near (pair n rows c w 0) (pair n rows c w 1) (ne_eqb d₀ d a) (ne_eqb d₁ d b)) ∙ sym (place_miss c size w (value_at values w) s)

        go : (v : ℤ) → value_at values w ≡ v → map coded_pair (keep near (both w)) ≡ pair_number_at c size w (value_at values w)
        go (pos k) q = pick (ℕ_discrete k size)
          where
            is : 2 * d₀ + (k + k) ≡ 2 ^ n
            is = (walsh_pos n f w boolean (k + k) (twice q)).0

            pick : Dec (k ≡ size) → map coded_pair (keep near (both w)) ≡ pair_number_at c size w (value_at values w)
            pick (yes s) =
                ap (map coded_pair) (keep_first near (pair n rows c w 0) (pair n rows c w 1) (eq-eqb d₀ d (omega (arith, is, half))) (ne_eqb d₁ d (λ z. omega (arith, is, sum, half))))
                ∙ sym (place_hit c size w (value_at values w) (ap nat_abs q ∙ s) ∙ ap (λ (z : ℤ). code c w (sign_bit z) ∷ []) q)
            pick (no s) = neither (λ z. s (omega (arith, is, half))) (λ z. omega (arith, is, sum)) (λ z. s (sym (ap nat_abs q) ∙ z))
        go (negsuc k) q = pick (ℕ_discrete (suc k) size)
          where
            is : 2 * d₁ + suc (suc (k + k)) ≡ 2 ^ n
            is = (walsh_negsuc n f w boolean (suc (k + k)) (twice q)).0

            pick : Dec (suc k ≡ size) → map coded_pair (keep near (both w)) ≡ pair_number_at c size w (value_at values w)
            pick (yes s) =
                ap (map coded_pair) (keep_second near (pair n rows c w 0) (pair n rows c w 1) (ne_eqb d₀ d (λ z. omega (arith, is, sum, half))) (eq-eqb d₁ d (omega (arith, is, half))))
                ∙ sym (place_hit c size w (value_at values w) (ap nat_abs q ∙ s) ∙ ap (λ (z : ℤ). code c w (sign_bit z) ∷ []) q)
            pick (no s) = neither (λ z. omega (arith, is, sum)) (λ z. s (omega (arith, is, half))) (λ z. s (sym (ap nat_abs q) ∙ z))

    pub pairs_by_places : pairs_at n rows d c ≡ pair_numbers c size values
    unfolding pairs_at keep pairs_of pair_numbers
    pairs_by_places =
        ap (map coded_pair) (each_each (list_below (2 ^ n) (λ w. w)) both (λ p. elim (near p) [ true ↦ p ∷ [] | false ↦ [] ]))
        ∙ map_each coded_pair (list_below (2 ^ n) (λ w. w)) (λ w. keep near (both w))
        ∙ each_cong_on (list_below (2 ^ n) (λ w. w)) _ _ (λ w k. let t = mem_list_below (2 ^ n) (λ w. w) w k in at_w w (omega (arith, t.1, t.2)))
        ∙ ap (λ (k : ℕ). each (list_below k (λ w. w)) (λ w. pair_number_at c size w (value_at values w))) (sym long)

-- ---- of a box whose nonlinearity is d
module _ {n m : ℕ} {rows : List ℕ} {i d : ℕ} (t : NonlinearityKnown n m rows i d) where
  -- it is below half of the inputs
  pub least_below : 2 * d < 2 ^ n
  least_below = go (2 ^ n - 2 * (nonlinearity n m rows i).figure) refl
    where
      bound : 2 ^ n ≤ (2 ^ n - 2 * (nonlinearity n m rows i).figure) * (2 ^ n - 2 * (nonlinearity n m rows i).figure)
      bound = (covering_bound n m rows i t.box.m_low t.i_low).1

      go : (k : ℕ) → 2 ^ n - 2 * (nonlinearity n m rows i).figure ≡ k → 2 * d < 2 ^ n
      go zero e = absurd (omega (arith, bound, pow_pos n, ap (λ (z : ℕ). z * z) e))
      go (suc k) e = omega (arith, t.least)

  -- no component's nearest pair differs at fewer
  pub least_of : (c : ℕ) → MaskWithin i (2 ^ m) c → d ≤ (first_least (pairs_of n rows c)).figure
  least_of c w = omega (arith, component_least n m rows i c w, t.least)

  -- the pairs of all components are the list
  pub pairs_all : each (components m i) (λ c. pairs_at n rows d c) ≡ nearest_pairs n m rows i
  unfolding nearest_pairs pairs pairs_at keep
  pairs_all =
      ap (λ (k : ℕ). each (components m i) (λ c. map coded_pair (keep (λ p. eqb p.figure k) (pairs_of n rows c)))) t.least
      ∙ sym (ap (map coded_pair) (each_each (components m i) (pairs_of n rows) (λ p. elim (reaches p) [ true ↦ p ∷ [] | false ↦ [] ]))
      ∙ map_each coded_pair (components m i) (λ c. keep reaches (pairs_of n rows c)))
    where
      reaches : Candidate → Bool
      reaches p = eqb p.figure (nonlinearity n m rows i).figure
