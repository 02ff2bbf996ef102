-- A component's least count, beside the largest magnitude of its Walsh values. The nonlinearity d: the least distance, the first pair that has it;
-- the covering bound, and where that is met; and all of it of what the call reports
-- (`nonlinearity_reported`).
use Rattle.std.specs.Prelude.{Ok}
use mathlib.Core.Path.{◌≡◌, sym, ap, ap₂, ◌∙◌}
use mathlib.Core.Logic.{◌↔◌}
use mathlib.Core.List.{List, ◌∷◌}
use Prim.Native.Nat.{ℕ, ◌+◌, ◌*◌, ◌-◌, ◌^◌, ◌<◌, ◌≤◌}
use native.Mathlib.Nat.{le_trans, le_of_eq, zero-lt-suc, le_refl, mul-le-mul}
use native.Mathlib.Omega.{arith}
use lib.IntN.{nat_abs}
use Rattle.boolean.specs.Functions.{Bent, MaskWithin, at, component, distance, walsh, square}
use Rattle.boolean.specs.Selection.{Candidate, shown, first_least}
use Rattle.boolean.proofs.Components.{within_more}
use Rattle.boolean.proofs.Digits.{component_lt}
use Rattle.boolean.proofs.Dots.{bit_cases}
use Rattle.boolean.proofs.Distances.{distance_walsh}
use Rattle.boolean.proofs.Spectrum.{some_walsh_large}
use Rattle.boolean.proofs.Bent.{bent_of_squares, bent_squares}
use Rattle.boolean.proofs.Selection.{first_least_chooses, first_ranked}
use Rattle.refusals.specs.Table.{figures, limit_checks, first}
use Rattle.refusals.proofs.Checks.{limited, reply_accepted}
use Rattle.linear.specs.Nonlinearity.{pair, pairs_of, pairs, nonlinearity, nonlinearity_reply}
use Rattle.linear.specs.Statements.{IsPair, PairBefore, NonlinearityReported, pair_rank}
use Rattle.refusals.proofs.Replies.{figures_accepted, head_same}
use Rattle.linear.proofs.Pairs.{before_rank, first_pair, in_pairs_of, mem_pairs_of, pairs_of_some, in_pairs, mem_pairs, ascending_pairs, pairs_nonempty}

-- ---- one component
module _ (n : ℕ) (rows : List ℕ) (c : ℕ) where
  -- its nearest pair is one of its pairs
  nearest_pair : (w b : ℕ) × (w < 2 ^ n) × (b < 2) × (first_least (pairs_of n rows c) ≡ pair n rows c w b)
  nearest_pair =
      mem_pairs_of n rows c (first_least (pairs_of n rows c)) (first_least_chooses.mem (pairs_of_some n rows c).2)

  -- Twice the least count and the largest magnitude of its Walsh values make 2^n: no value leaves less, and one leaves as much.
  pub component_within : (w : ℕ) → w < 2 ^ n → 2 * (first_least (pairs_of n rows c)).figure + nat_abs (walsh n (component rows c) w) ≤ 2 ^ n
  component_within w l =
      let p = first_least_chooses.all (pairs_of n rows c) (pair n rows c w 0) (in_pairs_of n rows c w 0 l (zero-lt-suc 1)) in
      let q = first_least_chooses.all (pairs_of n rows c) (pair n rows c w 1) (in_pairs_of n rows c w 1 l (le_refl 2)) in
      omega (arith, distance_walsh n (component rows c) w (λ x h. component_lt rows c x))

  pub component_met : (w : ℕ) × (w < 2 ^ n) × (2 * (first_least (pairs_of n rows c)).figure + nat_abs (walsh n (component rows c) w) ≡ 2 ^ n)
  component_met =
      let t = nearest_pair in
      let near = distance_walsh n (component rows c) t.0 (λ x h. component_lt rows c x) in
      let within = component_within t.0 t.2 in (
        t.0,
        t.2,
        bit_cases (λ b. (first_least (pairs_of n rows c)).figure ≡ distance n (component rows c) t.0 b → 2 * (first_least (pairs_of n rows c)).figure + nat_abs (walsh n (component rows c) t.0) ≡ 2 ^ n)
            (λ q. omega arith) (λ q. omega arith) t.1 t.3 (ap (λ (p : Candidate). p.figure) t.4),
      )

module _ (n m : ℕ) (rows : List ℕ) (i : ℕ) where
  -- every pair differs at d inputs or more
  pub nonlinearity_least : (c w b : ℕ) → IsPair n m i c w b → (nonlinearity n m rows i).figure ≤ distance n (component rows c) w b
  unfolding nonlinearity
  nonlinearity_least c w b h = first_least_chooses.all (pairs n m rows i) (pair n rows c w b) (in_pairs n m rows i c w b h)

  -- so does the nearest pair of each component
  pub component_least : (c : ℕ) → MaskWithin i (2 ^ m) c → (nonlinearity n m rows i).figure ≤ (first_least (pairs_of n rows c)).figure
  component_least c mask =
      let k = nearest_pair n rows c in
      omega (arith, nonlinearity_least c k.0 k.1 (record { mask = mask; w_high = k.2; b_high = k.3 }), ap (λ (p : Candidate). p.figure) k.4)

  module _ (m_low : 1 ≤ m) (i_low : 1 ≤ i) where
    -- a pair differs at exactly d
    pub nonlinearity_reached : (c w b : ℕ) × IsPair n m i c w b × (nonlinearity n m rows i ≡ pair n rows c w b)
    unfolding nonlinearity
    nonlinearity_reached =
        mem_pairs n m rows i (nonlinearity n m rows i) (first_least_chooses.mem (pairs_nonempty n m rows i m_low i_low).2)

    -- so does the nearest pair of one component
    pub component_reached : (c : ℕ) × MaskWithin i (2 ^ m) c × ((first_least (pairs_of n rows c)).figure ≡ (nonlinearity n m rows i).figure)
    component_reached =
        let t = nonlinearity_reached in
        let near = first_least_chooses.all (pairs_of n rows t.0) (pair n rows t.0 t.1 t.2) (in_pairs_of n rows t.0 t.1 t.2 t.3.w_high t.3.b_high) in
        (t.0, t.3.mask, omega (arith, near, ap (λ (p : Candidate). p.figure) t.4, component_least t.0 t.3.mask))

    -- and each pair before it at more
    pub nonlinearity_first : (c w b : ℕ) → nonlinearity n m rows i ≡ pair n rows c w b
        → (c' w' b' : ℕ) → IsPair n m i c' w' b' → PairBefore c' w' b' c w b → (nonlinearity n m rows i).figure < distance n (component rows c') w' b'
    unfolding nonlinearity
    nonlinearity_first c w b e c' w' b' h l =
        first_ranked (pair_rank n m) (λ r p. r.figure < p.figure) (ascending_pairs n m rows i)
        (first_least_chooses.early (pairs_nonempty n m rows i m_low i_low).2)
        (pair n rows c' w' b') (in_pairs n m rows i c' w' b' h)
        (omega (arith, ap (pair_rank n m) e, before_rank n m c' w' b' c w b h.mask.high h.w_high h.b_high l))

    -- ---- the covering bound
    boolean : (c x : ℕ) → x < 2 ^ n → component rows c x < 2
    boolean c x l = component_lt rows c x

    -- what 2d leaves of 2^n is at least each Walsh value in size
    spectrum_within : (c w : ℕ) → MaskWithin i (2 ^ m) c → w < 2 ^ n → 2 * (nonlinearity n m rows i).figure + nat_abs (walsh n (component rows c) w) ≤ 2 ^ n
    spectrum_within c w mask l = omega (arith, component_least c mask, component_within n rows c w l)

    -- and the value at the witness
    spectrum_reached : (c w b : ℕ) → IsPair n m i c w b → nonlinearity n m rows i ≡ pair n rows c w b
        → nat_abs (walsh n (component rows c) w) ≡ 2 ^ n - 2 * (nonlinearity n m rows i).figure
    spectrum_reached c w b h e =
        let near = distance_walsh n (component rows c) w (boolean c) in
        let within = spectrum_within c w h.mask h.w_high in
        bit_cases (λ b. (nonlinearity n m rows i).figure ≡ distance n (component rows c) w b → nat_abs (walsh n (component rows c) w) ≡ 2 ^ n - 2 * (nonlinearity n m rows i).figure)
        (λ q. omega arith) (λ q. omega arith) b h.b_high (ap (λ (p : Candidate). p.figure) e)

    squares_within : (c w : ℕ) → MaskWithin i (2 ^ m) c → w < 2 ^ n
        → square (walsh n (component rows c) w) ≤ (2 ^ n - 2 * (nonlinearity n m rows i).figure) * (2 ^ n - 2 * (nonlinearity n m rows i).figure)
    unfolding square
    squares_within c w mask l =
        let k : nat_abs (walsh n (component rows c) w) ≤ 2 ^ n - 2 * (nonlinearity n m rows i).figure = omega (arith, spectrum_within c w mask l) in
        mul-le-mul k k

    pub covering_bound : (2 * (nonlinearity n m rows i).figure ≤ 2 ^ n) × (2 ^ n ≤ (2 ^ n - 2 * (nonlinearity n m rows i).figure) * (2 ^ n - 2 * (nonlinearity n m rows i).figure))
    covering_bound =
        let p = first_pair n m i m_low i_low in
        let t = some_walsh_large n (component rows 1) (boolean 1) in
        (omega (arith, spectrum_within 1 0 p.mask p.w_high), le_trans t.2 (squares_within 1 t.0 p.mask t.1))

    -- it is met exactly where every component is bent
    pub covering_equality : 1 ≤ n → (2 ^ n - 2 * (nonlinearity n m rows i).figure) * (2 ^ n - 2 * (nonlinearity n m rows i).figure) ≡ 2 ^ n
        ↔ ((c : ℕ) → MaskWithin i (2 ^ m) c → Bent n (component rows c))
    unfolding square
    covering_equality low = (
      λ e c mask. bent_of_squares n (component rows c) low (boolean c) (λ w l. le_trans (squares_within c w mask l) (le_of_eq e)),
      λ bent.
          let t = nonlinearity_reached in
          let s : nat_abs (walsh n (component rows t.0) t.1) ≡ 2 ^ n - 2 * (nonlinearity n m rows i).figure = spectrum_reached t.0 t.1 t.2 t.3 t.4 in
          sym (ap₂ (λ (i j : ℕ). i * j) s s) ∙ bent_squares n (component rows t.0) low (bent t.0 t.3.mask) t.1 t.3.w_high,
    )

-- ---- what the call reports
module _ (n m : ℕ) (rows : List ℕ) (i : ℕ) where
  -- "With d the nonlinearity reported for an accepted table: every nonzero output combination differs from every affine function at d inputs or more, and
  -- the witness is the first pair that differs at exactly d."
  pub nonlinearity_reported : first (limit_checks n m rows i) ≡ (Ok tt) → NonlinearityReported n m rows i
  nonlinearity_reported accepted =
      let l = limited n m rows i accepted in
      let t = nonlinearity_reached n m rows i l.box.m_low l.i_low in
      record {
        d = (nonlinearity n m rows i).figure;
        c = t.0;
        w = t.1;
        b = t.2;
        reply = sym (reply_accepted accepted (shown (nonlinearity n m rows i)))
            ∙ ap (λ (p : Candidate). figures ((nonlinearity n m rows i).figure ∷ p.witness)) t.4;
        least = nonlinearity_least n m rows i;
        member = t.3;
        reached = sym (ap (λ (p : Candidate). p.figure) t.4);
        before = nonlinearity_first n m rows i l.box.m_low l.i_low t.0 t.1 t.2 t.4;
      }

  -- a reply of figures is that of an accepted table, and its first figure is the nonlinearity
  pub figure_told : {d : ℕ} {witness : List ℕ} → nonlinearity_reply n m rows i ≡ figures (d ∷ witness)
      → (first (limit_checks n m rows i) ≡ (Ok tt)) × ((nonlinearity n m rows i).figure ≡ d)
  figure_told e =
      let t = figures_accepted (first (limit_checks n m rows i)) (shown (nonlinearity n m rows i)) e in
      (t.0, sym (ap (λ (l : List ℕ). at l 0) t.1))

-- ---- "cover combinations of at most i outputs": a wider limit covers more, so that the nonlinearity is no larger
pub nonlinearity_falls : (n m : ℕ) (rows : List ℕ) (i j : ℕ) → i ≤ j → (d e : ℕ) (v w : List ℕ)
    → nonlinearity_reply n m rows i ≡ figures (d ∷ v) → nonlinearity_reply n m rows j ≡ figures (e ∷ w) → e ≤ d
nonlinearity_falls n m rows i j wider d e v w p q =
    let a = figures_accepted (first (limit_checks n m rows i)) (shown (nonlinearity n m rows i)) p in
    let b = figures_accepted (first (limit_checks n m rows j)) (shown (nonlinearity n m rows j)) q in
    let l = limited n m rows i a.0 in
    let t = nonlinearity_reached n m rows i l.box.m_low l.i_low in
    let pair_is = t.3 in
    let most = nonlinearity_least n m rows j t.0 t.1 t.2
    (record { mask = within_more wider pair_is.mask; w_high = pair_is.w_high; b_high = pair_is.b_high }) in
    omega (arith, most, ap (λ (p : Candidate). p.figure) t.4, head_same a.1, head_same b.1)
