-- The components within a limit with their degrees, in the components' order, and the sweep over them.
use mathlib.Core.Path.{◌≡◌, refl, sym, ap, ap₂, ◌∙◌}
use mathlib.Core.Bool.{false}
use mathlib.Core.List.Memᴰ
use mathlib.Core.List.{List, [], ◌∷◌, Memᴰ}
use Prim.Native.Nat.{ℕ, ◌+◌, ◌^◌, ◌<◌, ◌≤◌}
use native.Mathlib.Decide.{dec_lt}
use native.Mathlib.Nat.{le_trans}
use native.Mathlib.Omega.{arith}
use lib.Count.{ones, ones-le}
use lib.ListN.{length}
use Rattle.boolean.specs.Bits.{dot}
use Rattle.boolean.specs.Sums.{each}
use Rattle.boolean.specs.Functions.{at, MaskWithin, components, mask_rank, normal_form}
use Rattle.boolean.specs.Selection.{Candidate, best, lower, first_least, ranked, Ascending}
use Rattle.boolean.specs.Statements.{masks_below}
use Rattle.boolean.proofs.Components.{in_components, mem_components, ascending_components, first_mask}
use Rattle.boolean.proofs.Degrees.{most_le, degree_read}
use Rattle.boolean.proofs.Kept.{each_cong}
use Rattle.boolean.proofs.Lists.{some_member, mem_each, in_each, ascending_each}
use Rattle.boolean.proofs.OneBit.{ones_none, ones_power}
use Rattle.masks.specs.Masks.{outputs}
use Rattle.masks.specs.Masks.{Next}
use Rattle.masks.specs.Statements.{Blocks}
use Rattle.masks.proofs.Fewest.{least_swept}
use Rattle.masks.proofs.Walk.{Walk, walk_starts, walk_next, best_passes}
use Rattle.masks.proofs.Sweeps.{Choosing, choosing_starts, choosing_next, choosing_ends}
use Rattle.algebraic.specs.Algebraic.{degrees, box_degree}
use Rattle.algebraic.specs.Work.{degree_at, degree_candidate, degree_of_words, degrees_of, threshold_of, FirstBelow, DegreesSwept}
use Rattle.algebraic.specs.declared.Met.{Met}
use Rattle.algebraic.specs.declared.Weakest.{Weakest}
use Rattle.algebraic.specs.Statements.{degree_rank}
use Rattle.algebraic.proofs.Preferring.{threshold_single, not_below}

-- the components with the degrees that a rule gives them
module _ (d : ℕ → ℕ) where
  abbrev pub with_rule : ℕ → List Candidate
  with_rule c = degree_at (d c) c ∷ []

  abbrev pub degrees_by : ℕ → ℕ → List Candidate
  degrees_by m i = each (components m i) with_rule

  module _ (m i : ℕ) where
    pub in_degrees : (c : ℕ) → MaskWithin i (2 ^ m) c → Memᴰ (degree_at (d c) c) (degrees_by m i)
    in_degrees c w = in_each (components m i) with_rule c (degree_at (d c) c) (in_components m i c w) (Memᴰ.head refl)

    pub mem_degrees : (p : Candidate) → Memᴰ p (degrees_by m i) → (c : ℕ) × MaskWithin i (2 ^ m) c × (p ≡ degree_at (d c) c)
    mem_degrees p k =
        let t = mem_each (components m i) with_rule p k in
        (t.0, mem_components m i t.0 t.1, Memᴰ.eq_of_singleton t.2)

    pub ascending_degrees : Ascending (degree_rank m) (degrees_by m i)
    ascending_degrees =
        ascending_each (mask_rank m) (degree_rank m) (components m i) with_rule (ascending_components m i) (λ c k. (λ p j. absurd (Memᴰ.not-nil j), tt))
        (λ b c k j l p q u v. omega (arith, ap (degree_rank m) (Memᴰ.eq_of_singleton u), ap (degree_rank m) (Memᴰ.eq_of_singleton v)))

    pub degrees_nonempty : 1 ≤ m → 1 ≤ i → (p : Candidate) × (ps : List Candidate) × (degrees_by m i ≡ p ∷ ps)
    degrees_nonempty h l = some_member (degrees_by m i) (in_degrees 1 (first_mask m i h l))

  -- a block of one for each mask
  rule_blocks : Blocks with_rule
  rule_blocks = record {
    some = λ c. (degree_at (d c) c, [], refl);
    names = λ c p k. ap (λ (p : Candidate). at p.witness 0) (Memᴰ.eq_of_singleton k);
  }

  -- visited in ascending order, from a degree that no component has, the weakest of the fewest outputs is the first that is least
  pub best_degrees : (m i : ℕ) (start : Candidate) → 1 ≤ m → 1 ≤ i → d 1 < start.figure
      → best (ranked lower outputs) start (each (masks_below i (2 ^ m)) with_rule) ≡ first_least (degrees_by m i)
  unfolding first_least best
  best_degrees m i start h l high = least_swept rule_blocks m i h l start high

-- ---- by the words of the rows' normal form
pub by_words : (n m : ℕ) (rows : List ℕ) (i : ℕ) (words : List ℕ) → words ≡ normal_form n (at rows) → first_least (degrees_of m words i) ≡ box_degree n m rows i
unfolding degrees_of degree_of_words box_degree degrees
by_words n m rows i words e = ap first_least (each_cong (components m i) _ _ (λ c. ap (λ (d : ℕ). degree_at d c ∷ []) (degree_read n rows c words e)))

-- ---- the loop
pub degree_high : (n : ℕ) (words : List ℕ) (c : ℕ) → length words ≡ 2 ^ n → degree_of_words words c ≤ n
unfolding degree_of_words
degree_high n words c e = most_le (length words) n (λ u. dot (at words u) c) (λ u l odd. ones-le n u (omega arith))

-- where the limit leaves no mask out, c + 1 comes after c: it has no more ones than there are outputs, or is 2^m, which has one
pub next_whole : (m i c : ℕ) → 1 ≤ i → m ≤ i → c < 2 ^ m → Next i c (c + 1)
next_whole m i c low whole l = record { above = omega arith; few = few (dec_lt (c + 1) (2 ^ m)); between = λ x p q. absurd (omega arith) }
  where
    few : Dec (c + 1 < 2 ^ m) → ones (c + 1) ≤ i
    few (yes h) = le_trans (ones-le m (c + 1) h) whole
    few (no h) = let last : c + 1 ≡ 2 ^ m = omega arith in omega (arith, ap ones last, ones_power m)

-- the invariant: the weakest of the components before c
abbrev pub Sweeping : ℕ → List ℕ → ℕ → Candidate → Candidate → ℕ → Type 0
Sweeping m words i start found c = Choosing (ranked lower outputs) (with_rule (degree_of_words words)) m i start found c

module _ (words : List ℕ) {m i : ℕ} {start found : Candidate} {c : ℕ} (s : Sweeping m words i start found c) where
  pub sweep_next : {new : Candidate} {degree next : ℕ} → c < 2 ^ m → Next i c next → degree ≡ degree_of_words words c → new ≡ best (ranked lower outputs) found (degree_at degree c ∷ [])
      → Sweeping m words i start new next
  sweep_next l after e q = choosing_next s l after (q ∙ ap (λ (d : ℕ). best (ranked lower outputs) found (degree_at d c ∷ [])) e)

  -- up to the next mask whose degree is below the threshold
  pub sweep_passes : (degree mask threshold : ℕ) {met : Met} → found ≡ degree_at degree mask → threshold ≡ threshold_of degree mask → FirstBelow m words i threshold c met
      → Sweeping m words i start found met.c
  sweep_passes degree mask threshold {met} is limited first = record {
    part = s.part;
    walk = record { limit = s.walk.limit; c_low = omega (arith, s.walk.c_low, first.low); c_high = first.high; few = first.few };
    past = λ x l k. absurd (omega (arith, first.high));
    so_far = best_passes (ranked lower outputs) (with_rule (degree_of_words words)) start found i 1 c met.c s.walk.c_low first.low stays s.so_far;
  }
    where
      stays : (x : ℕ) → c ≤ x → x < met.c → ones x ≤ i → (p : Candidate) → Memᴰ p (with_rule (degree_of_words words) x) → ranked lower outputs p found ≡ false
      stays x l h f p k =
          ap₂ (λ (p b : Candidate). ranked lower outputs p b) (Memᴰ.eq_of_singleton k) is
          ∙ not_below degree mask (degree_of_words words x) x (omega (arith, limited, first.none_before x l h f)) (omega (arith, s.walk.c_low))

  pub sweep_ends : {n : ℕ} → DegreesSwept n m words i → n < start.figure → 2 ^ m ≤ c → found ≡ first_least (degrees_of m words i)
  unfolding degrees_of
  sweep_ends {n} t high end =
      choosing_ends s end
      ∙ best_degrees (degree_of_words words) m i start t.m_low t.i_low (omega (arith, degree_high n words 1 t.size))

-- ---- what the loop keeps: the weakest of the components before the mask that it meets next, with the threshold, and that mask's degree
pub record Meeting (m : ℕ) (words : List ℕ) (i : ℕ) (start : Candidate) (found : Weakest) (met : Met) : Type 0 where
  pub sweeping : Sweeping m words i start (degree_candidate found) met.c
  pub degree_is : met.c < 2 ^ m → met.degree ≡ degree_of_words words met.c
  pub limited : found.threshold ≡ threshold_of found.degree found.c

module _ {n m : ℕ} {words : List ℕ} {i : ℕ} (t : DegreesSwept n m words i) where
  pub first_walk : Walk m i 1
  first_walk = walk_starts m i t.i_low

  -- from a degree that no component has, and the mask 0
  pub meeting_starts : {met : Met} → FirstBelow m words i (n + 1) 1 met
      → Meeting m words i (degree_at (n + 1) 0) (record { degree = n + 1; c = 0; threshold = n + 1 }) met
  meeting_starts first =
      let limited : n + 1 ≡ threshold_of (n + 1) 0 = sym (threshold_single (n + 1) 0 (omega (arith, ones_none))) in
      record {
        sweeping = sweep_passes words (choosing_starts t.i_low) (n + 1) 0 (n + 1) refl limited first;
        degree_is = λ l. (first.reached l).0;
        limited = limited;
      }

  -- a degree is no larger than the number of inputs
  pub meeting_low : {start : Candidate} {found : Weakest} {met : Met} → Meeting m words i start found met → met.c < 2 ^ m → met.degree ≤ 8
  meeting_low {met = met} s l = omega (arith, s.degree_is l, degree_high n words met.c t.size, t.n_high)

module _ {m : ℕ} {words : List ℕ} {i : ℕ} {start : Candidate} {found : Weakest} {met : Met} (s : Meeting m words i start found met) where
  pub meeting_walk : {next : ℕ} → met.c < 2 ^ m → Next i met.c next → Walk m i next
  meeting_walk l after = walk_next s.sweeping.walk after l

  pub meeting_next : {new : Weakest} {next : ℕ} {later : Met} → met.c < 2 ^ m → Next i met.c next
      → degree_candidate new ≡ best (ranked lower outputs) (degree_candidate found) (degree_at met.degree met.c ∷ []) → new.threshold ≡ threshold_of new.degree new.c
      → FirstBelow m words i new.threshold next later → Meeting m words i start new later
  meeting_next {new} l after e limited first = record {
    sweeping = sweep_passes words (sweep_next words s.sweeping l after (s.degree_is l) e) new.degree new.c new.threshold refl limited first;
    degree_is = λ h. (first.reached h).0;
    limited = limited;
  }
