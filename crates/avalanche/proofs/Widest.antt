-- The best change of a component from its autocorrelation, which is given 2^n times.
use mathlib.Core.Path.{◌≡◌, refl, sym, ap, ap₂, ◌∙◌, subst}
use mathlib.Core.Bool.{Bool, true, false, ◌&&◌, ◌||◌, false≢true}
use mathlib.Core.List.{List, [], ◌∷◌, Memᴰ}
use Prim.Native.Nat.{ℕ, ◌*◌, ◌/◌, ◌^◌, ◌<◌, ◌≤◌}
use native.Mathlib.Nat.{le_trans, le_of_eq, le_antisymm, mul_comm, mul-div_right, le-div_iff_mul-le, div-le_self}
use native.Mathlib.Omega.{arith}
use native.Mathlib.Decide.{dec_lt, ℕ_discrete}
use borrow.Author.Tests.{lt-ltb, le-ltb, ltb-false, ne_eqb}
use lib.Count.{ones}
use lib.Dec.{ltb, eqb}
use lib.Pow.{pow_pos}
use lib.IntN.{ℤ, pos, ◌*ℤ◌, nat_abs}
use lib.ListN.{length}
use Rattle.boolean.specs.Functions.{at, value_at, component, autocorrelation, MaskWithin}
use Rattle.boolean.specs.Selection.{Candidate, best, higher, first_largest, ranked}
use Rattle.boolean.proofs.Lists.{length_list_below, get_or_list_below}
use Rattle.boolean.proofs.Products.{abs_multiple}
use Rattle.boolean.proofs.Selection.{best_takes, best_keeps, first_is, first_largest_chooses, ranked_first}
use Rattle.masks.specs.Masks.{outputs}
use Rattle.masks.specs.Work.{preferred}
use Rattle.masks.specs.Statements.{Blocks}
use Rattle.masks.proofs.Fewest.{largest_names, higher_test}
use Rattle.avalanche.specs.Work.{correlations, LargestWithin, FirstWithin}
use Rattle.avalanche.specs.Avalanche.{correlated, change, changes_of}
use Rattle.avalanche.specs.Statements.{change_rank}
use Rattle.avalanche.proofs.Changes.{in_changes_of, mem_changes_of, changes_of_some, ascending_changes_of}

-- the changes come in blocks, one for each component, and the loop keeps the first best of each
pub blocks : (n j : ℕ) (figure : ℕ → ℕ → ℕ) → 1 ≤ n → 1 ≤ j → Blocks (changes_of n j figure)
blocks n j figure ln lj = record {
  some = λ c. changes_of_some n j figure c ln lj;
  names = λ c p k. ap (λ (p : Candidate). at p.witness 0) (mem_changes_of n j figure c p k).2;
}

-- what is not preferred for a figure is not preferred for a lower one
less_preferred : (low figure high c best : ℕ) → figure ≤ high → preferred low high c best ≡ false → preferred low figure c best ≡ false
less_preferred low figure high c best l h = go (ltb low high) refl (ℕ_discrete figure high)
  where
    go : (t : Bool) → ltb low high ≡ t → Dec (figure ≡ high) → preferred low figure c best ≡ false
    go t e (yes q) = ap (λ (k : ℕ). preferred low k c best) q ∙ h
    go true e (no q) = absurd (false≢true (sym h ∙ ap (λ (t : Bool). t || (eqb low high && ltb (ones c) (ones best))) e))
    go false e (no q) =
        let above : high ≤ low = ltb-false low high e in
        ap₂ (λ (t u : Bool). t || (u && ltb (ones c) (ones best))) (le-ltb low figure (omega arith)) (ne_eqb low figure (λ z. omega arith))

module _ (n : ℕ) (rows : List ℕ) (c j : ℕ) {values : List ℤ} (e : values ≡ correlations n rows c) where
  pub values_length : length values ≡ 2 ^ n
  unfolding correlations
  values_length = ap length e ∙ length_list_below (2 ^ n) (λ s. pos (2 ^ n) *ℤ autocorrelation n (component rows c) s)

  size_is : (s : ℕ) → s < 2 ^ n → nat_abs (value_at values s) ≡ 2 ^ n * correlated n rows c s
  unfolding correlations
  size_is s l =
      ap nat_abs
      (ap (λ (vs : List ℤ). value_at vs s) e ∙ get_or_list_below (2 ^ n) (λ s. pos (2 ^ n) *ℤ autocorrelation n (component rows c) s) s (pos 0) l)
      ∙ abs_multiple (2 ^ n) (autocorrelation n (component rows c) s)

  -- a magnitude's share
  share_at : {largest : ℕ} (s : ℕ) → s < 2 ^ n → nat_abs (value_at values s) ≡ largest → largest / 2 ^ n ≡ correlated n rows c s
  share_at s l has = ap (λ (k : ℕ). k / 2 ^ n) (sym has ∙ size_is s l) ∙ mul-div_right (correlated n rows c s) (pow_pos n)

  inside : {s : ℕ} → MaskWithin j (2 ^ n) s → MaskWithin j (length values) s
  inside {s} w = subst (λ (k : ℕ). MaskWithin j k s) (sym values_length) w

  outside : {s : ℕ} → MaskWithin j (length values) s → MaskWithin j (2 ^ n) s
  outside {s} w = subst (λ (k : ℕ). MaskWithin j k s) values_length w

  -- the first largest is one of them
  largest_mem : 1 ≤ n → 1 ≤ j → Memᴰ (first_largest (changes_of n j (correlated n rows) c)) (changes_of n j (correlated n rows) c)
  largest_mem n_low j_low =
      first_largest_chooses.mem (changes_of_some n j (correlated n rows) c n_low j_low).2

  module _ {bound : ℕ} (bounds : (s : ℕ) → MaskWithin j (length values) s → nat_abs (value_at values s) ≤ bound) where
    -- where no magnitude is above a bound, no change has more than the bound's share
    most_of : (q : Candidate) → Memᴰ q (changes_of n j (correlated n rows) c) → q.figure ≤ bound / 2 ^ n
    most_of q k =
        let t = mem_changes_of n j (correlated n rows) c q k in
        (le-div_iff_mul-le (pow_pos n)).1
        (le_trans (le_of_eq (ap (λ (r : Candidate). r.figure * 2 ^ n) t.2 ∙ mul_comm (correlated n rows c t.0) (2 ^ n)))
        (le_trans (le_of_eq (sym (size_is t.0 t.1.high))) (bounds t.0 (inside t.1))))

    -- so a best that is kept for the share is kept for the first largest
    pub beaten : 1 ≤ n → 1 ≤ j → {figure : ℕ} → figure ≡ bound / 2 ^ n → (b : Candidate) → preferred b.figure figure c (at b.witness 0) ≡ false
        → b ≡ best (ranked higher outputs) b (first_largest (changes_of n j (correlated n rows) c) ∷ [])
    unfolding best
    beaten n_low j_low {figure} share b h =
        let v = first_largest (changes_of n j (correlated n rows) c) in
        let few : v.figure ≤ figure = le_trans (most_of v (largest_mem n_low j_low)) (le_of_eq (sym share)) in
        sym (best_keeps (ranked higher outputs) b v []
        (sym (higher_test v b refl (sym (largest_names (blocks n j (correlated n rows) n_low j_low) c))) ∙ less_preferred b.figure v.figure figure c (at b.witness 0) few h))

  module _ {largest : ℕ} (top : LargestWithin values j largest) where
    -- no change has more than the largest's share
    most : (q : Candidate) → Memᴰ q (changes_of n j (correlated n rows) c) → q.figure ≤ largest / 2 ^ n
    most = most_of top.bounds

    module _ (n_low : 1 ≤ n) (j_low : 1 ≤ j) where
      -- so that is the largest figure
      largest_figure : (first_largest (changes_of n j (correlated n rows) c)).figure ≡ largest / 2 ^ n
      largest_figure = le_antisymm (most (first_largest (changes_of n j (correlated n rows) c)) (largest_mem n_low j_low)) (reached (dec_lt 0 largest))
        where
          reached : Dec (0 < largest) → largest / 2 ^ n ≤ (first_largest (changes_of n j (correlated n rows) c)).figure
          reached (yes l) =
              let t = top.reached l in
              let w = outside t.1 in
              le_trans (le_of_eq (share_at t.0 w.high t.2))
              (first_largest_chooses.all (changes_of n j (correlated n rows) c) (change (correlated n rows) c t.0) (in_changes_of n j (correlated n rows) c t.0 w))
          reached (no l) = omega (arith, div-le_self largest (2 ^ n))

      module _ {figure : ℕ} (share : figure ≡ largest / 2 ^ n) (b : Candidate) where
        test : preferred b.figure figure c (at b.witness 0) ≡ ranked higher outputs (first_largest (changes_of n j (correlated n rows) c)) b
        test = higher_test (first_largest (changes_of n j (correlated n rows) c)) b (share ∙ sym largest_figure) (sym (largest_names (blocks n j (correlated n rows) n_low j_low) c))

        -- the best so far is kept
        pub stays : preferred b.figure figure c (at b.witness 0) ≡ false → b ≡ best (ranked higher outputs) b (first_largest (changes_of n j (correlated n rows) c) ∷ [])
        unfolding best
        stays h = sym (best_keeps (ranked higher outputs) b (first_largest (changes_of n j (correlated n rows) c)) [] (sym test ∙ h))

        -- or the first that has the largest takes its place
        pub replaced : preferred b.figure figure c (at b.witness 0) ≡ true → {s : ℕ} → FirstWithin values j largest s
            → record { figure = figure; witness = c ∷ s ∷ [] } ≡ best (ranked higher outputs) b (first_largest (changes_of n j (correlated n rows) c) ∷ [])
        unfolding best first_largest
        replaced h {s} place =
            ap (λ (k : ℕ). record { figure = k; witness = c ∷ s ∷ [] }) figure_is ∙ sym widest
            ∙ sym (best_takes (ranked higher outputs) b (first_largest (changes_of n j (correlated n rows) c)) [] (sym test ∙ h))
          where
            w : MaskWithin j (2 ^ n) s
            w = outside place.within

            figure_is : figure ≡ correlated n rows c s
            figure_is = share ∙ share_at s w.high place.has

            r : Candidate
            r = change (correlated n rows) c s

            no_more : (t : ℕ) → MaskWithin j (2 ^ n) t → correlated n rows c t ≤ correlated n rows c s
            no_more t u = omega (arith, figure_is, most (change (correlated n rows) c t) (in_changes_of n j (correlated n rows) c t u))

            earlier : (t : ℕ) → MaskWithin j (2 ^ n) t → t < s → correlated n rows c t < correlated n rows c s
            earlier t u l = pick (dec_lt (correlated n rows c t) (correlated n rows c s))
              where
                pick : Dec (correlated n rows c t < correlated n rows c s) → correlated n rows c t < correlated n rows c s
                pick (yes k) = k
                pick (no k) =
                    let low : correlated n rows c t ≤ correlated n rows c s = no_more t u in
                    let same : correlated n rows c t ≡ correlated n rows c s = omega arith in
                    absurd (place.first t l (inside u) (size_is t u.high ∙ ap (λ (k : ℕ). 2 ^ n * k) same ∙ sym (size_is s w.high) ∙ place.has))

            -- (within one component the ranks rise whatever m is)
            before : (q : Candidate) → Memᴰ q (changes_of n j (correlated n rows) c) → change_rank n 0 q < change_rank n 0 r → q.figure < r.figure
            before q k l =
                let t = mem_changes_of n j (correlated n rows) c q k in
                omega (arith, ap (λ (r : Candidate). r.figure) t.2, earlier t.0 t.1 (omega (arith, ap (change_rank n 0) t.2)))

            widest : first_largest (changes_of n j (correlated n rows) c) ≡ r
            widest =
                first_is higher r
                (ranked_first (change_rank n 0) (λ r q. higher r q ≡ true) r (changes_of n j (correlated n rows) c) (ascending_changes_of n j (correlated n rows) c 0)
                (in_changes_of n j (correlated n rows) c s w) (λ q k l. lt-ltb q.figure r.figure (before q k l)))
                (λ q k. le-ltb r.figure q.figure (omega (arith, figure_is, most q k)))
