-- What decides among the components of a sum, in any order of rising ranks: the first of the largest product, each box's own first mask, and the sign of the
-- product there. Assumes nothing.
use mathlib.Core.Path.{◌≡◌, sym, ap, subst}
use mathlib.Core.Logic.{◌⊎◌, inl, inr}
use mathlib.Core.List.Memᴰ
use mathlib.Core.List.{List, [], ◌∷◌, ◌++◌, Memᴰ}
use Prim.Native.Nat.{ℕ, ◌+◌, ◌*◌, ◌^◌, ◌<◌, ◌≤◌}
use native.Mathlib.Nat.{le_refl, mul-le-mul_left}
use native.Mathlib.Omega.{arith}
use native.Mathlib.Decide.{dec_lt}
use Rattle.boolean.specs.Functions.{MaskBefore, mask_rank, sign_bit}
use Rattle.boolean.specs.Selection.{Candidate, best, Ascending}
use Rattle.boolean.proofs.Components.{rank_of_before}
use Rattle.boolean.proofs.Selection.{best_first, first_ranked}
use Rattle.rounds.specs.Round.{Summand, inputs_of, joined, sum_distance, sum_nonlinearity}
use Rattle.rounds.specs.Spectra.{product, peak_places, sign_at, by_spectra, larger}
use Rattle.rounds.specs.Statements.{MasksFit, product_at, Lex}
use Rattle.rounds.proofs.Masks.{apart, apart_fits, joined_apart}
use Rattle.rounds.proofs.Peaks.{size_at, Peaks, peaks_fit, peaks_bound, NoSmaller, as_much}
use Rattle.rounds.proofs.Nearest.{away, near, signed}
use Rattle.rounds.proofs.Spectra.{places_peaks, product_is, sign_is, spectra_half}
use Rattle.rounds.proofs.Theorems.{least, by_spectra_lem, ordered, largest_product_lem, product_reached}

-- ---- masks that come before the peaks give less, in the order from box 1 on and in that of the masks put together
not_before : (vs ws : List ℕ) → NoSmaller vs ws → ¬ (Lex vs ws)
not_before [] ws n l = l
not_before (v ∷ vs) [] n l = l
not_before (v ∷ vs) (w ∷ ws) n (inl l) = omega (arith, n.0)
not_before (v ∷ vs) (w ∷ ws) n (inr t) = not_before vs ws n.1 t.1

joined_no_smaller : (ss : List Summand) (vs ws : List ℕ) → MasksFit ss vs → NoSmaller vs ws → joined ss ws ≤ joined ss vs
unfolding joined
joined_no_smaller [] vs ws f n = le_refl 0
joined_no_smaller (s ∷ ss) [] ws f n = absurd f
joined_no_smaller (s ∷ ss) (v ∷ vs) [] f n = omega arith
joined_no_smaller (s ∷ ss) (v ∷ vs) (w ∷ ws) f n =
    omega (arith, n.0, mul-le-mul_left (2 ^ s.inputs) (joined_no_smaller ss vs ws f.1 n.1))

module _ (ss : List Summand) (c : ℕ) (ws : List ℕ) (p : Peaks ss c ws) (vs : List ℕ) (f : MasksFit ss vs) where
  gives_less : ¬ (NoSmaller vs ws) → size_at ss c vs < size_at ss c ws
  gives_less h = pick (dec_lt (size_at ss c vs) (size_at ss c ws))
    where
      pick : Dec (size_at ss c vs < size_at ss c ws) → size_at ss c vs < size_at ss c ws
      pick (yes l) = l
      pick (no l) = absurd (h (as_much ss c ws p vs f (omega arith)))

  pub lex_less : Lex vs ws → size_at ss c vs < size_at ss c ws
  lex_less l = gives_less (λ n. not_before vs ws n l)

  pub joined_less : joined ss vs < joined ss ws → size_at ss c vs < size_at ss c ws
  joined_less l = gives_less (λ n. omega (arith, joined_no_smaller ss vs ws f n))

-- ---- before: by any ranks of the components, then by any order of masks, then by b
abbrev pub BeforeBy : {W : Type 0} (rank : ℕ → ℕ) (Earlier : W → W → Type 0) (c' : ℕ) (w' : W) (b' c : ℕ) (w : W) (b : ℕ) → Type 0
BeforeBy rank Earlier c' w' b' c w b = (rank c' < rank c) ⊎ (((c' ≡ c) × Earlier w' w) ⊎ ((c' ≡ c) × (w' ≡ w) × (b' < b)))

-- by the components' order
pub by_rank : {W : Type 0} (Earlier : W → W → Type 0) (m c' : ℕ) {w' : W} {b' c : ℕ} {w : W} {b : ℕ} → c' < 2 ^ m
    → MaskBefore c' c ⊎ (((c' ≡ c) × Earlier w' w) ⊎ ((c' ≡ c) × (w' ≡ w) × (b' < b))) → BeforeBy (mask_rank m) Earlier c' w' b' c w b
by_rank Earlier m c' {w'} {b'} {c} high (inl l) = inl (rank_of_before m c' c high l)
by_rank Earlier m c' high (inr l) = inr l

-- What holds of the components cs, whose order is that of their ranks, whichever they are: d and the witness c, ws, b.
pub record Decided (ss : List Summand) (cs : List ℕ) (rank : ℕ → ℕ) : Type 0 where
  pub d : ℕ
  pub c : ℕ
  pub ws : List ℕ
  pub b : ℕ
  pub is : sum_nonlinearity ss cs ≡ record { figure = d; witness = c ∷ (ws ++ (b ∷ [])) }
  pub in_order : Memᴰ c cs
  pub fits : MasksFit ss ws
  pub b_high : b < 2
  pub reached : sum_distance ss c (joined ss ws) b ≡ d
  pub least : (c' v b' : ℕ) → Memᴰ c' cs → v < 2 ^ inputs_of ss → b' < 2 → d ≤ sum_distance ss c' v b'
  -- by the masks from box 1 on, and by the masks put together
  pub before : (c' : ℕ) (ws' : List ℕ) (b' : ℕ) → Memᴰ c' cs → MasksFit ss ws' → b' < 2 → BeforeBy rank Lex c' ws' b' c ws b
      → d < sum_distance ss c' (joined ss ws') b'
  pub before_joined : (c' v b' : ℕ) → Memᴰ c' cs → v < 2 ^ inputs_of ss → b' < 2 → BeforeBy rank ◌<◌ c' v b' c (joined ss ws) b
      → d < sum_distance ss c' v b'
  -- the figure: 2^(N − 1) less half the largest product
  pub product_largest : (c' : ℕ) → Memᴰ c' cs → product ss c' ≤ product ss c
  pub whole : 2 * d + product ss c ≡ 2 ^ inputs_of ss

module _ (ss : List Summand) (some : 1 ≤ inputs_of ss) (c₀ : ℕ) (cs₀ : List ℕ) (rank : ℕ → ℕ) (ascending : Ascending rank (c₀ ∷ cs₀)) where
  -- the component that decides, and its masks and sign
  abbrev chosen : ℕ
  chosen = best (larger ss) c₀ cs₀

  abbrev chosen_masks : List ℕ
  chosen_masks = peak_places ss chosen

  abbrev chosen_sign : ℕ
  chosen_sign = sign_at ss chosen chosen_masks

  abbrev figure : ℕ
  figure = (by_spectra ss chosen).figure

  peaks : Peaks ss chosen chosen_masks
  peaks = places_peaks ss chosen

  masks_fit : MasksFit ss chosen_masks
  masks_fit = peaks_fit ss chosen chosen_masks peaks

  sign_of : sign_bit (product_at ss chosen chosen_masks) ≡ chosen_sign
  sign_of = sign_is ss chosen chosen_masks peaks

  chosen_reached : away ss chosen chosen_masks chosen_sign ≡ figure
  chosen_reached =
      omega (arith, (signed ss chosen chosen_masks masks_fit).1, ap (away ss chosen chosen_masks) sign_of, spectra_half ss some chosen, product_is ss chosen)

  -- an earlier component differs at more, whatever the masks; so do masks of the same component that give less, and an earlier b
  earlier_component : (c' : ℕ) (vs : List ℕ) (b' : ℕ) → Memᴰ c' (c₀ ∷ cs₀) → MasksFit ss vs → b' < 2 → rank c' < rank chosen → figure < away ss c' vs b'
  earlier_component c' vs b' m f h l =
      omega (
        arith,
        first_ranked rank (λ a b. product ss b < product ss a) ascending (best_first (ordered ss some) c₀ cs₀) c' m l,
        near ss c' vs b' f h,
        peaks_bound ss c' (peak_places ss c') (places_peaks ss c') vs f,
        product_is ss c',
        spectra_half ss some chosen,
      )

  smaller_product : (c' : ℕ) (vs : List ℕ) (b' : ℕ) → MasksFit ss vs → b' < 2 → c' ≡ chosen → size_at ss chosen vs < size_at ss chosen chosen_masks → figure < away ss c' vs b'
  smaller_product c' vs b' f h e l =
      subst (λ (k : ℕ). figure < away ss k vs b') (sym e) (omega (arith, near ss chosen vs b' f h, product_is ss chosen, spectra_half ss some chosen))

  earlier_b : (c' b' : ℕ) → c' ≡ chosen → b' < chosen_sign → figure < away ss c' chosen_masks b'
  earlier_b c' b' e l =
      let k = (signed ss chosen chosen_masks masks_fit).2 b' (omega (arith, sign_of)) in
      let same : away ss c' chosen_masks b' ≡ away ss chosen chosen_masks b' = ap (λ (c : ℕ). away ss c chosen_masks b') e in
      omega (arith, k, same, ap (away ss chosen chosen_masks) sign_of, chosen_reached)

  before_masks : (c' : ℕ) (ws' : List ℕ) (b' : ℕ) → Memᴰ c' (c₀ ∷ cs₀) → MasksFit ss ws' → b' < 2 → BeforeBy rank Lex c' ws' b' chosen chosen_masks chosen_sign
      → figure < away ss c' ws' b'
  before_masks c' ws' b' m f h (inl l) = earlier_component c' ws' b' m f h l
  before_masks c' ws' b' m f h (inr (inl t)) = smaller_product c' ws' b' f h t.0 (lex_less ss chosen chosen_masks peaks ws' f t.1)
  before_masks c' ws' b' m f h (inr (inr t)) = subst (λ (vs : List ℕ). figure < away ss c' vs b') (sym t.1) (earlier_b c' b' t.0 t.2)

  before_mask : (c' v b' : ℕ) → Memᴰ c' (c₀ ∷ cs₀) → v < 2 ^ inputs_of ss → b' < 2 → BeforeBy rank ◌<◌ c' v b' chosen (joined ss chosen_masks) chosen_sign
      → figure < sum_distance ss c' v b'
  before_mask c' v b' m high h l = go (joined_apart ss v high) l
    where
      go : joined ss (apart ss v) ≡ v → BeforeBy rank ◌<◌ c' v b' chosen (joined ss chosen_masks) chosen_sign → figure < sum_distance ss c' v b'
      go e (inl l) = subst (λ (z : ℕ). figure < sum_distance ss c' z b') e (earlier_component c' (apart ss v) b' m (apart_fits ss v) h l)
      go e (inr (inl t)) =
          subst (λ (z : ℕ). figure < sum_distance ss c' z b') e
          (smaller_product c' (apart ss v) b' (apart_fits ss v) h t.0
          (joined_less ss chosen chosen_masks peaks (apart ss v) (apart_fits ss v) (omega (arith, t.1))))
      go e (inr (inr t)) = subst (λ (z : ℕ). figure < sum_distance ss c' z b') (sym t.1) (earlier_b c' b' t.0 t.2)

  decided : Decided ss (c₀ ∷ cs₀) rank
  decided =
      let e = by_spectra_lem ss some c₀ cs₀ in
      record {
        d = figure;
        c = chosen;
        ws = chosen_masks;
        b = chosen_sign;
        is = e;
        in_order = product_reached ss some c₀ cs₀;
        fits = masks_fit;
        b_high = subst (λ (k : ℕ). k < 2) sign_of (signed ss chosen chosen_masks masks_fit).0;
        reached = chosen_reached;
        least = λ c' v b' m l h. omega (arith, least ss (c₀ ∷ cs₀) c' v b' m l h, ap (λ (p : Candidate). p.figure) e);
        before = before_masks;
        before_joined = before_mask;
        product_largest = largest_product_lem ss some c₀ cs₀;
        whole = spectra_half ss some chosen;
      }

-- of any list that has a member
pub decided_of : (ss : List Summand) → 1 ≤ inputs_of ss → (rank : ℕ → ℕ) (cs : List ℕ) → Ascending rank cs → (c : ℕ) → Memᴰ c cs → Decided ss cs rank
decided_of ss some rank [] a c m = absurd (Memᴰ.not-nil m)
decided_of ss some rank (c₀ ∷ cs₀) a c m = decided ss some c₀ cs₀ rank a
