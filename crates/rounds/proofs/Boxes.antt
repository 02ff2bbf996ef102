-- The sum as a box: its nonlinearity is that of the box of N inputs, and of one box it is the box's own, figure and witness. Assumes nothing.
use Rattle.std.specs.Prelude.{Result, ⊤}
use Rattle.refusals.specs.declared.Refusal.{Refusal}
use mathlib.Core.Path.{◌≡◌, refl, sym, ap, ap₂, ◌∙◌, subst}
use mathlib.Core.Bool.{true, false}
use mathlib.Core.Logic.{◌⊎◌, inl, inr}
use mathlib.Core.List.{List, [], ◌∷◌, ◌++◌, append-nil}
use Prim.Native.Nat.{ℕ, ◌+◌, ◌%◌, ◌^◌, ◌<◌, ◌≤◌}
use native.Mathlib.Nat.{le_antisymm, add-zero, mul-zero, mod-eq_of_lt}
use native.Mathlib.Omega.{arith}
use native.Mathlib.Decide.{dec_lt}
use lib.Bits.{xor_zero_r}
use lib.Count.{ones}
use Rattle.boolean.specs.Sums.{each, every, list_below}
use Rattle.boolean.specs.Bits.{dot}
use Rattle.boolean.specs.Functions.{at, component, components, distance, mask_rank}
use Rattle.boolean.specs.Selection.{Candidate, first_least, shown}
use Rattle.boolean.proofs.Components.{mem_components, in_components}
use Rattle.boolean.proofs.Digits.{component_dot}
use Rattle.boolean.proofs.Distances.{distance_cong}
use Rattle.boolean.proofs.Kept.{each_cong, each_each}
use Rattle.refusals.specs.Table.{Check, ◌unless◌, in_range, first, limit_checks, reply_after}
use Rattle.refusals.specs.declared.Refusal.TheVariants.{OutputWidths, Parameter}
use Rattle.linear.specs.Nonlinearity.{pair, pairs_of, pairs, nonlinearity, nonlinearity_reply}
use Rattle.linear.specs.Statements.{IsPair, PairBefore}
use Rattle.linear.proofs.Theorems as linear
use Rattle.rounds.specs.Round.{Summand, inputs_of, sum_at, sum_rows, masks_of_inputs, joined, sum_pair, sum_pairs_of, sum_pairs, sum_nonlinearity, summand_checks, sum_checks, sum_reply}
use Rattle.rounds.proofs.Masks.{joined_lt}
use Rattle.rounds.proofs.Products.{component_sum}
use Rattle.rounds.proofs.Decided.{Decided, by_rank}

-- ---- one pair comes before another, is the other, or comes after it
number_cases : (a b : ℕ) → (a < b) ⊎ ((a ≡ b) ⊎ (b < a))
number_cases a b = pick (dec_lt a b) (dec_lt b a)
  where
    pick : Dec (a < b) → Dec (b < a) → (a < b) ⊎ ((a ≡ b) ⊎ (b < a))
    pick (yes l) r = inl l
    pick (no l) (yes k) = inr (inr k)
    pick (no l) (no k) = inr (inl (omega arith))

pair_cases : (c' w' b' c w b : ℕ) → PairBefore c' w' b' c w b ⊎ (((c' ≡ c) × (w' ≡ w) × (b' ≡ b)) ⊎ PairBefore c w b c' w' b')
pair_cases c' w' b' c w b = go (number_cases (ones c') (ones c)) (number_cases c' c) (number_cases w' w) (number_cases b' b)
  where
    go : (ones c' < ones c) ⊎ ((ones c' ≡ ones c) ⊎ (ones c < ones c')) → (c' < c) ⊎ ((c' ≡ c) ⊎ (c < c'))
        → (w' < w) ⊎ ((w' ≡ w) ⊎ (w < w')) → (b' < b) ⊎ ((b' ≡ b) ⊎ (b < b'))
        → PairBefore c' w' b' c w b ⊎ (((c' ≡ c) × (w' ≡ w) × (b' ≡ b)) ⊎ PairBefore c w b c' w' b')
    go (inl o) x y z = inl (inl (inl o))
    go (inr (inr o)) x y z = inr (inr (inl (inl o)))
    go (inr (inl o)) (inl l) y z = inl (inl (inr (o, l)))
    go (inr (inl o)) (inr (inr l)) y z = inr (inr (inl (inr (sym o, l))))
    go (inr (inl o)) (inr (inl e)) (inl l) z = inl (inr (inl (e, l)))
    go (inr (inl o)) (inr (inl e)) (inr (inr l)) z = inr (inr (inr (inl (sym e, l))))
    go (inr (inl o)) (inr (inl e)) (inr (inl f)) (inl l) = inl (inr (inr (e, f, l)))
    go (inr (inl o)) (inr (inl e)) (inr (inl f)) (inr (inr l)) = inr (inr (inr (inr (sym e, sym f, l))))
    go (inr (inl o)) (inr (inl e)) (inr (inl f)) (inr (inl g)) = inr (inl (e, f, g))

-- ---- the sum as a box of N inputs and m outputs, within the same limit
module _ (ss : List Summand) (m i : ℕ) (m_low : 1 ≤ m) (i_low : 1 ≤ i) (r : Decided ss (components m i) (mask_rank m)) where
  abbrev whole_box : Candidate
  whole_box = nonlinearity (inputs_of ss) m (sum_rows ss) i

  witness_pair : IsPair (inputs_of ss) m i r.c (joined ss r.ws) r.b
  witness_pair = record { mask = mem_components m i r.c r.in_order; w_high = joined_lt ss r.ws r.fits; b_high = r.b_high }

  -- its figure is d: its own pair differs at d or more, and the sum's witness is one of its pairs
  same_figure : whole_box.figure ≡ r.d
  same_figure =
      let t = linear.nonlinearity_reached (inputs_of ss) m (sum_rows ss) i m_low i_low in
      let p = t.3 in
      le_antisymm (omega (arith, linear.nonlinearity_least (inputs_of ss) m (sum_rows ss) i r.c (joined ss r.ws) r.b witness_pair, r.reached))
      (omega (arith, ap (λ (q : Candidate). q.figure) t.4, r.least t.0 t.1 t.2 (in_components m i t.0 p.mask) p.w_high p.b_high))

  -- and neither witness comes before the other
  pub as_box : whole_box ≡ record { figure = r.d; witness = r.c ∷ joined ss r.ws ∷ r.b ∷ [] }
  as_box =
      let t = linear.nonlinearity_reached (inputs_of ss) m (sum_rows ss) i m_low i_low in
      go t.0 t.1 t.2 t.3 t.4 (pair_cases t.0 t.1 t.2 r.c (joined ss r.ws) r.b)
    where
      go : (c w b : ℕ) → IsPair (inputs_of ss) m i c w b → whole_box ≡ pair (inputs_of ss) (sum_rows ss) c w b
          → PairBefore c w b r.c (joined ss r.ws) r.b ⊎ (((c ≡ r.c) × (w ≡ joined ss r.ws) × (b ≡ r.b)) ⊎ PairBefore r.c (joined ss r.ws) r.b c w b)
          → whole_box ≡ record { figure = r.d; witness = r.c ∷ joined ss r.ws ∷ r.b ∷ [] }
      go c w b p e (inl l) =
          absurd (omega (
            arith,
            r.before_joined c w b (in_components m i c p.mask) p.w_high p.b_high (by_rank ◌<◌ m c p.mask.high l),
            ap (λ (q : Candidate). q.figure) e,
            same_figure,
          ))
      go c w b p e (inr (inl t)) =
          e ∙ ap (λ (d : ℕ). record { figure = d; witness = c ∷ w ∷ b ∷ [] }) (sym (ap (λ (q : Candidate). q.figure) e) ∙ same_figure)
          ∙ rw (t.0, t.1, t.2) refl
      go c w b p e (inr (inr l)) =
          absurd (omega (
            arith,
            linear.nonlinearity_first (inputs_of ss) m (sum_rows ss) i m_low i_low c w b e r.c (joined ss r.ws) r.b witness_pair l,
            r.reached,
            same_figure,
          ))

-- ---- one box
module _ (s : Summand) where
  abbrev alone : List Summand
  alone = s ∷ []

  alone_inputs : inputs_of alone ≡ s.inputs
  unfolding inputs_of
  alone_inputs = add-zero s.inputs

  alone_component : (c x : ℕ) → x < 2 ^ s.inputs → component (sum_rows alone) c x ≡ component s.rows c x
  unfolding sum_at
  alone_component c x l =
      component_sum alone c x (subst (λ (k : ℕ). x < 2 ^ k) (sym alone_inputs) l)
      ∙ ap (λ (r : ℕ). dot r c) (xor_zero_r (at s.rows (x % 2 ^ s.inputs)) ∙ ap (at s.rows) (mod-eq_of_lt l))
      ∙ sym (component_dot s.rows c x)

  alone_joined : (w : ℕ) → joined alone (w ∷ []) ≡ w
  unfolding joined
  alone_joined w = ap (λ (z : ℕ). w + z) (mul-zero (2 ^ s.inputs)) ∙ add-zero w

  alone_pair : (c w b : ℕ) → sum_pair alone c (w ∷ []) b ≡ pair s.inputs s.rows c w b
  alone_pair c w b =
      ap₂ (λ (k v : ℕ). record { figure = distance k (component (sum_rows alone) c) v b; witness = c ∷ w ∷ b ∷ [] }) alone_inputs (alone_joined w)
      ∙ ap (λ (d : ℕ). record { figure = d; witness = c ∷ w ∷ b ∷ [] }) (distance_cong s.inputs _ _ w b (alone_component c))

  alone_pairs_of : (c : ℕ) → sum_pairs_of alone c ≡ pairs_of s.inputs s.rows c
  unfolding sum_pairs_of pairs_of masks_of_inputs each
  alone_pairs_of c =
      each_each (list_below (2 ^ s.inputs) (λ w. w)) (λ w. (w ∷ []) ∷ []) (λ ws. sum_pair alone c ws 0 ∷ sum_pair alone c ws 1 ∷ [])
      ∙ each_cong (list_below (2 ^ s.inputs) (λ w. w)) _ _ (λ w. ap₂ (λ (p q : Candidate). p ∷ q ∷ []) (alone_pair c w 0) (alone_pair c w 1))

  pub one_box : (m i : ℕ) → sum_nonlinearity alone (components m i) ≡ nonlinearity s.inputs m s.rows i
  unfolding sum_nonlinearity sum_pairs nonlinearity pairs
  one_box m i = ap first_least (each_cong (components m i) _ _ alone_pairs_of)

  -- its checks are the nonlinearity's, and so is all that the call replies
  alone_checks_lem : (others : List Summand) (i : ℕ) → first (sum_checks 1 (s ∷ others) i) ≡ first (limit_checks s.inputs s.outputs s.rows i)
  unfolding sum_checks limit_checks each every first
  alone_checks_lem others i =
      ap (λ (cs : List Check). first (cs ++ ((OutputWidths unless true) ∷ (Parameter unless in_range 1 s.outputs i) ∷ []))) (append-nil (summand_checks s))
      ∙ passed_over (summand_checks s)
    where
      -- a line whose test holds is as if it were not there
      passed_over : (cs : List Check) → first (cs ++ ((OutputWidths unless true) ∷ (Parameter unless in_range 1 s.outputs i) ∷ [])) ≡ first (cs ++ ((Parameter unless in_range 1 s.outputs i) ∷ []))
      passed_over [] = refl
      passed_over ((e unless true) ∷ cs) = passed_over cs
      passed_over ((e unless false) ∷ cs) = refl

  -- With one box, whatever else is handed over, the call replies what the nonlinearity call replies within the same limit: its figure, its witness, or
  -- its refusal.
  pub one_box_reply : (others : List Summand) (i : ℕ) → sum_reply 1 (s ∷ others) i ≡ nonlinearity_reply s.inputs s.outputs s.rows i
  one_box_reply others i =
      ap₂ (λ (k : Result ⊤ Refusal) (p : Candidate). reply_after k (shown p)) (alone_checks_lem others i) (one_box s.outputs i)
