-- The best pair of a component from its spectrum, and of the components one after the other.
use mathlib.Core.Path.{◌≡◌, sym, ap, ap₂, ◌∙◌, subst}
use mathlib.Core.Bool.{true, false, Bool}
use mathlib.Core.List.{List, [], ◌∷◌, Memᴰ}
use Prim.Native.Nat.{ℕ, suc, ◌+◌, ◌*◌, ◌-◌, ◌/◌, ◌^◌, ◌<◌, ◌≤◌}
use native.Mathlib.Nat.{le_trans, zero-lt-suc}
use native.Mathlib.Omega.{arith}
use native.Mathlib.Decide.{dec_lt}
use borrow.Author.Tests.{lt-ltb, le-ltb}
use lib.Pow.{pow_pos}
use lib.IntN.{ℤ, pos, negsuc, ◌+ℤ◌, nat_abs}
use lib.ListN.{length}
use Rattle.boolean.specs.Functions.{at, value_at, component, distance, walsh, approximation, spectrum, sign_bit}
use Rattle.boolean.specs.Selection.{Candidate, best, lower, first_least, ranked}
use Rattle.boolean.proofs.Counts.{count_le}
use Rattle.boolean.proofs.Digits.{component_lt}
use Rattle.boolean.proofs.Distances.{walsh_pos, walsh_negsuc, distance_walsh}
use Rattle.boolean.proofs.Dots.{bit_cases}
use Rattle.boolean.proofs.Lists.{length_list_below, get_or_list_below}
use Rattle.boolean.proofs.Selection.{best_takes, best_keeps, first_is, first_least_chooses, ranked_first}
use Rattle.boolean.proofs.Approximations.{walsh_twice, walsh_size, approximation_le, half_power}
use Rattle.walsh.specs.Magnitudes.{FirstOfMagnitude}
use Rattle.walsh.proofs.Magnitudes.{Largest, place_inside}
use Rattle.masks.specs.Masks.{outputs}
use Rattle.masks.specs.Work.{preferred}
use Rattle.masks.specs.Statements.{Blocks}
use Rattle.masks.proofs.Fewest.{least_names, lower_test, least_visited}
use Rattle.masks.proofs.Parts.{visit_part}
use Rattle.masks.proofs.Sweeps.{SweepingFrom, sweep_ends, table_size}
use Rattle.linear.specs.Nonlinearity.{pair, pairs_of, pairs_between}
use Rattle.linear.specs.Lent.{PairsSwept, PartSwept}
use Rattle.linear.specs.Statements.{pair_rank}
use Rattle.linear.proofs.Pairs.{in_pairs_of, mem_pairs_of, pairs_of_some, ascending_pairs_of}

-- ---- the pairs come in blocks, one for each component, and the loop keeps the first nearest of each
pub blocks : (n : ℕ) (rows : List ℕ) → Blocks (pairs_of n rows)
blocks n rows = record { some = pairs_of_some n rows; names = λ c p k. ap (λ (p : Candidate). at p.witness 0) (mem_pairs_of n rows c p k).4 }

abbrev pub nearest_of : ℕ → List ℕ → ℕ → List Candidate
nearest_of n rows c = first_least (pairs_of n rows c) ∷ []

-- ---- one component
module _ (n : ℕ) (rows : List ℕ) (c : ℕ) {values : List ℤ} (e : values ≡ spectrum n (component rows c)) where
  pub values_length : length values ≡ 2 ^ n
  unfolding spectrum
  values_length = ap length e ∙ length_list_below (2 ^ n) (approximation n (component rows c))

  pub values_nonempty : 0 < length values
  values_nonempty = omega (arith, values_length, pow_pos n)

module _ (n : ℕ) (rows : List ℕ) (c : ℕ) {values : List ℤ} (e : values ≡ spectrum n (component rows c)) (low : 1 ≤ n) where
  value_is : (w : ℕ) → w < 2 ^ n → value_at values w ≡ approximation n (component rows c) w
  unfolding spectrum
  value_is w l = ap (λ (vs : List ℤ). value_at vs w) e ∙ get_or_list_below (2 ^ n) (approximation n (component rows c)) w (pos 0) l

  boolean : (x : ℕ) → x < 2 ^ n → component rows c x < 2
  boolean x l = component_lt rows c x

  -- each distance at w by the value's magnitude
  near : (w b : ℕ) → w < 2 ^ n → b < 2 → 2 ^ n ≤ 2 * distance n (component rows c) w b + 2 * nat_abs (value_at values w)
  near w b l =
      let h = distance_walsh n (component rows c) w boolean in
      let v = ap nat_abs (value_is w l) in
      let twice = walsh_size n low (component rows c) w in
      bit_cases (λ b. 2 ^ n ≤ 2 * distance n (component rows c) w b + 2 * nat_abs (value_at values w)) (omega arith) (omega arith) b

  -- the sign bit has the smaller of the two, and the first where they are equal
  abbrev Signed : ℕ → ℤ → Type 0
  Signed w v =
      (sign_bit v < 2)
      × (2 * distance n (component rows c) w (sign_bit v) + 2 * nat_abs v ≡ 2 ^ n)
      × ((b : ℕ) → b < sign_bit v → distance n (component rows c) w (sign_bit v) < distance n (component rows c) w b)

  signed : (w : ℕ) → w < 2 ^ n → Signed w (value_at values w)
  unfolding sign_bit
  signed w l = go (value_at values w) (value_is w l)
    where
      twice : {v : ℤ} → v ≡ approximation n (component rows c) w → walsh n (component rows c) w ≡ v +ℤ v
      twice q = sym (ap (λ (z : ℤ). z +ℤ z) q ∙ walsh_twice n (component rows c) w low)

      go : (v : ℤ) → v ≡ approximation n (component rows c) w → Signed w v
      go (pos k) q =
          let h = walsh_pos n (component rows c) w boolean (k + k) (twice q) in
          (omega arith, omega (arith, h.0), λ b l. absurd (omega arith))
      go (negsuc k) q =
          let h = walsh_negsuc n (component rows c) w boolean (suc (k + k)) (twice q) in
          (omega arith, omega (arith, h.0), λ b l. subst (λ (z : ℕ). distance n (component rows c) w 1 < distance n (component rows c) w z) (omega arith) h.1)

  module _ {size : ℕ} (top : Largest values size) where
    -- no value is above half of the inputs
    pub largest_le : size ≤ 2 ^ n / 2
    largest_le =
        let l : top.place < 2 ^ n = omega (arith, values_length n rows c e, top.inside) in
        omega (arith, top.reached, ap nat_abs (value_is top.place l), approximation_le n low (component rows c) top.place, half_power n low)

    least_distance : (p : Candidate) → Memᴰ p (pairs_of n rows c) → 2 ^ n / 2 - size ≤ p.figure
    least_distance p k =
        let t = mem_pairs_of n rows c p k in
        omega (arith, ap (λ (p : Candidate). p.figure) t.4, near t.0 t.1 t.2 t.3, top.bounds t.0)

    -- where the largest magnitude is reached, the value's sign bit has that distance
    figure_at : (w : ℕ) → w < 2 ^ n → nat_abs (value_at values w) ≡ size → 2 ^ n / 2 - size ≡ distance n (component rows c) w (sign_bit (value_at values w))
    figure_at w l has = omega (arith, (signed w l).1)

    -- so it is the least
    pub least_figure : (first_least (pairs_of n rows c)).figure ≡ 2 ^ n / 2 - size
    least_figure =
        let l : top.place < 2 ^ n = omega (arith, values_length n rows c e, top.inside) in
        let v = value_at values top.place in
        let reached = first_least_chooses.all (pairs_of n rows c) (pair n rows c top.place (sign_bit v)) (in_pairs_of n rows c top.place (sign_bit v) l (signed top.place l).0) in
        let mem = first_least_chooses.mem (pairs_of_some n rows c).2 in
        omega (arith, reached, figure_at top.place l top.reached, least_distance (first_least (pairs_of n rows c)) mem)

    -- the first value of the largest magnitude, with its sign bit, is the first of the nearest pairs
    module _ {w : ℕ} (place : FirstOfMagnitude values size w) where
      abbrev sign : ℕ
      sign = sign_bit (value_at values w)

      there : w < length values
      there = place_inside place top.place top.inside top.reached

      inside : w < 2 ^ n
      inside = omega (arith, values_length n rows c e, there)

      figure_is : 2 ^ n / 2 - size ≡ distance n (component rows c) w sign
      figure_is = figure_at w inside (place.has there)

      earlier : (v b : ℕ) → v < 2 ^ n → b < 2 → v * 2 + b < w * 2 + sign → distance n (component rows c) w sign < distance n (component rows c) v b
      earlier v b hv hb l = pick (dec_lt v w)
        where
          pick : Dec (v < w) → distance n (component rows c) w sign < distance n (component rows c) v b
          pick (yes k) =
              let other : ¬ (nat_abs (value_at values v) ≡ size) = place.first v k in
              omega (arith, near v b hv hb, top.bounds v, place.has there, (signed w inside).1)
          pick (no k) =
              let same : w ≡ v = omega (arith, (signed w inside).0) in
              subst (λ (z : ℕ). distance n (component rows c) w sign < distance n (component rows c) z b) same ((signed w inside).2 b (omega arith))

      -- (within one component the ranks rise whatever m is)
      nearest : first_least (pairs_of n rows c) ≡ pair n rows c w sign
      unfolding first_least
      nearest =
          first_is lower r
          (ranked_first (pair_rank n 0) (λ r p. lower r p ≡ true) r (pairs_of n rows c) (ascending_pairs_of n rows c 0)
          (in_pairs_of n rows c w sign inside (signed w inside).0) (λ p k l. lt-ltb r.figure p.figure (before p k l)))
          (λ p k. le-ltb p.figure r.figure (omega (arith, figure_is, least_distance p k)))
        where
          r : Candidate
          r = pair n rows c w sign

          before : (p : Candidate) → Memᴰ p (pairs_of n rows c) → pair_rank n 0 p < pair_rank n 0 r → r.figure < p.figure
          before p k l =
              let t = mem_pairs_of n rows c p k in
              let lower_rank : t.0 * 2 + t.1 < w * 2 + sign = omega (arith, ap (pair_rank n 0) t.4) in
              omega (arith, ap (λ (p : Candidate). p.figure) t.4, earlier t.0 t.1 t.2 t.3 lower_rank)

    -- what the code does: it counts, and takes that pair or keeps the best so far
    module _ {count : ℕ} (half : count ≡ 2 ^ n / 2 - size) (b : Candidate) where
      test : preferred count b.figure c (at b.witness 0) ≡ ranked lower outputs (first_least (pairs_of n rows c)) b
      test = lower_test (first_least (pairs_of n rows c)) b (half ∙ sym least_figure) (sym (least_names (blocks n rows) c))

      pub taken : preferred count b.figure c (at b.witness 0) ≡ true → {w bit : ℕ} → FirstOfMagnitude values size w → bit ≡ sign_bit (value_at values w)
          → record { figure = count; witness = c ∷ w ∷ bit ∷ [] } ≡ best (ranked lower outputs) b (first_least (pairs_of n rows c) ∷ [])
      unfolding best
      taken h {w} place q =
          ap₂ (λ (d t : ℕ). record { figure = d; witness = c ∷ w ∷ t ∷ [] }) (half ∙ figure_is place) q ∙ sym (nearest place)
          ∙ sym (best_takes (ranked lower outputs) b (first_least (pairs_of n rows c)) [] (sym test ∙ h))

      pub kept : preferred count b.figure c (at b.witness 0) ≡ false → b ≡ best (ranked lower outputs) b (first_least (pairs_of n rows c) ∷ [])
      unfolding best
      kept h = sym (best_keeps (ranked lower outputs) b (first_least (pairs_of n rows c)) [] (sym test ∙ h))

-- ---- the components one after the other
distance_le : (n : ℕ) (f : ℕ → ℕ) (w b : ℕ) → distance n f w b ≤ 2 ^ n
unfolding distance
distance_le n f w b = count_le (2 ^ n) _

pub least_le : (n : ℕ) (rows : List ℕ) (c : ℕ) → (first_least (pairs_of n rows c)).figure ≤ 2 ^ n
least_le n rows c =
    le_trans (first_least_chooses.all (pairs_of n rows c) (pair n rows c 0 0) (in_pairs_of n rows c 0 0 (pow_pos n) (zero-lt-suc 1))) (distance_le n (component rows c) 0 0)

module _ {n m : ℕ} {rows : List ℕ} {i first : ℕ} {start found : Candidate} {table : List ℕ} {values : List ℤ} {before c : ℕ} where
  -- the arrays of a sweep are as long as the box
  pub arrays : {end : ℕ} {beats : Candidate → Candidate → Bool} {block : ℕ → List Candidate}
      → SweepingFrom first end beats block n m rows i start found table values before c → PairsSwept n m rows table values
  arrays t = record { box = t.box; table_size = table_size t; out_size = t.values_size }

  -- from a count that no pair has, it ends with the first of the nearest pairs of its part
  pub nearest_swept : {last : ℕ} → PartSwept m i first last
      → SweepingFrom first (last + 1) (ranked lower outputs) (nearest_of n rows) n m rows i start found table values before c
      → last + 1 ≤ c → 2 ^ n < start.figure → found ≡ first_least (pairs_between n m rows i first last)
  unfolding pairs_between
  nearest_swept {last} p t h l =
      sweep_ends t h
      ∙ least_visited (blocks n rows) (visit_part m i first last t.choosing.part p.few p.some) start (omega (arith, least_le n rows first))
