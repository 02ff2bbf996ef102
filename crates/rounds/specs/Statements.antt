-- What the theorems beside the contract say; no contract needs it.
use Rattle.std.specs.Prelude.{ℕ, ◌+◌, ◌*◌, ◌^◌, ◌≤◌, ◌<◌, ◌≡◌, ◌⊎◌, List, [], ◌∷◌, ◌++◌, ℤ, pos, ◌*ℤ◌}
use Rattle.boolean.specs.Functions.{component, walsh, MaskWithin, MaskBefore}
use Rattle.refusals.specs.Table.{Reply, figures}
use Rattle.masks.specs.Statements.{Cut, MaskBetween}
use Rattle.linear.specs.Nonlinearity.{nonlinearity}
use Rattle.linear.specs.Statements.{IsPair}
use Rattle.rounds.specs.Round.{Summand, inputs_of, first_given, outputs_of, sum_rows, joined, sum_distance, sum_reply, sum_between_reply}
use Rattle.rounds.specs.Spectra.{product}

-- a mask for each box, of its inputs' number of bits
abbrev pub MasksFit : (ss : List Summand) (ws : List ℕ) → Type 0
MasksFit [] [] = Unit {0}
MasksFit [] (w ∷ ws) = ⊥
MasksFit (s ∷ ss) [] = ⊥
MasksFit (s ∷ ss) (w ∷ ws) = (w < 2 ^ s.inputs) × MasksFit ss ws

-- the Walsh value of component c of one box
abbrev pub walsh_of : (s : Summand) (c w : ℕ) → ℤ
walsh_of s c w = walsh s.inputs (component s.rows c) w

-- the product of the boxes' Walsh values, each at its own mask
unfoldable pub product_at : (ss : List Summand) (c : ℕ) (ws : List ℕ) → ℤ
product_at [] c ws = pos 1
product_at (s ∷ ss) c [] = pos 1
product_at (s ∷ ss) c (w ∷ ws) = walsh_of s c w *ℤ product_at ss c ws

-- component c of the sum and the affine function of a mask for each box and b are a pair, within the limit i
pub record IsSumPair (ss : List Summand) (i c : ℕ) (ws : List ℕ) (b : ℕ) : Type 0 where
  pub mask : MaskWithin i (2 ^ outputs_of ss) c
  pub fits : MasksFit ss ws
  pub b_high : b < 2

-- masks vs come before masks ws: by the first box's, then the second's, and so on
abbrev pub Lex : (vs ws : List ℕ) → Type 0
Lex [] ws = ⊥
Lex (v ∷ vs) [] = ⊥
Lex (v ∷ vs) (w ∷ ws) = (v < w) ⊎ ((v ≡ w) × Lex vs ws)

-- (c', ws', b') comes before (c, ws, b): by the components' order, then the masks', then b
abbrev pub SumBefore : (c' : ℕ) (ws' : List ℕ) (b' c : ℕ) (ws : List ℕ) (b : ℕ) → Type 0
SumBefore c' ws' b' c ws b = MaskBefore c' c ⊎ (((c' ≡ c) × Lex ws' ws) ⊎ ((c' ≡ c) × (ws' ≡ ws) × (b' < b)))

module _ (count : ℕ) (handed : List Summand) (i : ℕ) where
  -- the boxes that are given
  abbrev ss : List Summand
  ss = first_given count handed

  -- What is reported of accepted boxes within the limit i: the figure d and the witness, c, a mask for each box, and b.
  pub record SumReported : Type 0 where
    pub d : ℕ
    pub c : ℕ
    pub ws : List ℕ
    pub b : ℕ
    pub reply : sum_reply count handed i ≡ figures (d ∷ c ∷ (ws ++ (b ∷ [])))
    -- no component within the limit differs from any affine function of N inputs at fewer of the 2^N inputs
    pub least : (c' v b' : ℕ) → IsPair (inputs_of ss) (outputs_of ss) i c' v b' → d ≤ sum_distance ss c' v b'
    -- the witness is a pair and differs at d of them, and every pair before it at more
    pub member : IsSumPair ss i c ws b
    pub reached : sum_distance ss c (joined ss ws) b ≡ d
    pub before : (c' : ℕ) (ws' : List ℕ) (b' : ℕ) → IsSumPair ss i c' ws' b' → SumBefore c' ws' b' c ws b
        → d < sum_distance ss c' (joined ss ws') b'
    -- it is the nonlinearity of the sum as one box of N inputs, with its witness: the masks put together come first there too
    pub as_box : nonlinearity (inputs_of ss) (outputs_of ss) (sum_rows ss) i ≡ record { figure = d; witness = c ∷ joined ss ws ∷ b ∷ [] }
    -- d is 2^(N − 1) less half the largest product; doubled, so that nothing is rounded or cut off
    pub product_largest : (c' : ℕ) → MaskWithin i (2 ^ outputs_of ss) c' → product ss c' ≤ product ss c
    pub whole : 2 * d + product ss c ≡ 2 ^ inputs_of ss

-- What is reported of a part in which a combination within the limit lies: the same of the combinations of the part.
pub record SumBetweenReported (count : ℕ) (handed : List Summand) (i low high : ℕ) : Type 0 where
  pub d : ℕ
  pub c : ℕ
  pub ws : List ℕ
  pub b : ℕ
  pub reply : sum_between_reply count handed i low high ≡ figures (d ∷ c ∷ (ws ++ (b ∷ [])))
  pub least : (c' v b' : ℕ) → MaskBetween (outputs_of (first_given count handed)) i low high c'
      → v < 2 ^ inputs_of (first_given count handed) → b' < 2 → d ≤ sum_distance (first_given count handed) c' v b'
  pub mask : MaskBetween (outputs_of (first_given count handed)) i low high c
  pub fits : MasksFit (first_given count handed) ws
  pub b_high : b < 2
  pub reached : sum_distance (first_given count handed) c (joined (first_given count handed) ws) b ≡ d
  pub before : (c' : ℕ) (ws' : List ℕ) (b' : ℕ) → MaskBetween (outputs_of (first_given count handed)) i low high c'
      → MasksFit (first_given count handed) ws' → b' < 2 → SumBefore c' ws' b' c ws b
      → d < sum_distance (first_given count handed) c' (joined (first_given count handed) ws') b'

-- what the call replies of a part
abbrev pub sum_cut_reply : (count : ℕ) (handed : List Summand) (i : ℕ) (c : Cut (outputs_of (first_given count handed))) → Reply
sum_cut_reply count handed i c = sum_between_reply count handed i c.low c.high
