-- What the theorems beside the contracts say; no contract needs it.
use Rattle.std.specs.Prelude.{ℕ, ◌+◌, ◌*◌, ◌^◌, ◌≤◌, ◌<◌, ◌≡◌, ◌⊎◌, List, [], ◌∷◌}
use Rattle.boolean.specs.Functions.{at, component, distance, MaskWithin, MaskBefore, mask_rank}
use Rattle.boolean.specs.Selection.{Candidate}
use Rattle.refusals.specs.Table.{Reply, figures}
use Rattle.masks.specs.Statements.{Cut, MaskBetween}
use Rattle.linear.specs.Nonlinearity.{nonlinearity_reply, nonlinearity_between_reply}

-- component c and the affine function (w, b) are a pair of a box of n inputs and m outputs, within the limit i
pub record IsPair (n m i c w b : ℕ) : Type 0 where
  pub mask : MaskWithin i (2 ^ m) c
  pub w_high : w < 2 ^ n
  pub b_high : b < 2

-- (c', w', b') comes before (c, w, b): by c in the components' order, then w, then b
abbrev pub PairBefore : (c' w' b' c w b : ℕ) → Type 0
PairBefore c' w' b' c w b = MaskBefore c' c ⊎ (((c' ≡ c) × (w' < w)) ⊎ ((c' ≡ c) × (w' ≡ w) × (b' < b)))

-- What is reported of an accepted box within the limit i: d and the witness (c, w, b), as the call replies them. No pair differs at fewer
-- inputs than d, the witness is a pair that differs at exactly d, and each pair before it differs at more.
pub record NonlinearityReported (n m : ℕ) (rows : List ℕ) (i : ℕ) : Type 0 where
  pub d : ℕ
  pub c : ℕ
  pub w : ℕ
  pub b : ℕ
  pub reply : nonlinearity_reply n m rows i ≡ figures (d ∷ c ∷ w ∷ b ∷ [])
  pub least : (c' w' b' : ℕ) → IsPair n m i c' w' b' → d ≤ distance n (component rows c') w' b'
  pub member : IsPair n m i c w b
  pub reached : distance n (component rows c) w b ≡ d
  pub before : (c' w' b' : ℕ) → IsPair n m i c' w' b' → PairBefore c' w' b' c w b → d < distance n (component rows c') w' b'

-- a pair of a part of the combinations: those whose masks lie from `low` to `high`
pub record IsPairBetween (n m i low high c w b : ℕ) : Type 0 where
  pub mask : MaskBetween m i low high c
  pub w_high : w < 2 ^ n
  pub b_high : b < 2

-- What is reported of a part in which a combination within the limit lies: d and the witness (c, w, b), as the call over the part replies
-- them. No pair of the part differs at fewer inputs than d, the witness is one that differs at exactly d, and each before it differs at
-- more.
pub record NonlinearityBetweenReported (n m : ℕ) (rows : List ℕ) (i low high : ℕ) : Type 0 where
  pub d : ℕ
  pub c : ℕ
  pub w : ℕ
  pub b : ℕ
  pub reply : nonlinearity_between_reply n m rows i low high ≡ figures (d ∷ c ∷ w ∷ b ∷ [])
  pub least : (c' w' b' : ℕ) → IsPairBetween n m i low high c' w' b' → d ≤ distance n (component rows c') w' b'
  pub member : IsPairBetween n m i low high c w b
  pub reached : distance n (component rows c) w b ≡ d
  pub before : (c' w' b' : ℕ) → IsPairBetween n m i low high c' w' b' → PairBefore c' w' b' c w b → d < distance n (component rows c') w' b'

-- a pair's number in that order
abbrev pub pair_rank : (n m : ℕ) (p : Candidate) → ℕ
pair_rank n m p = mask_rank m (at p.witness 0) * (2 * 2 ^ n) + at p.witness 1 * 2 + at p.witness 2

-- what the call replies of a part
abbrev pub nonlinearity_cut : (n m : ℕ) (rows : List ℕ) (i : ℕ) (c : Cut m) → Reply
nonlinearity_cut n m rows i c = nonlinearity_between_reply n m rows i c.low c.high
