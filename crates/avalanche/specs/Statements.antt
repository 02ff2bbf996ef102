-- What the theorems beside the contracts say; no contract needs it.
use Rattle.std.specs.Prelude.{ℕ, ◌+◌, ◌-◌, ◌*◌, ◌^◌, ◌<◌, ◌≤◌, ◌≡◌, ◌⊎◌, List, [], ◌∷◌, nat_abs}
use Rattle.boolean.specs.Functions.{at, autocorrelation, changes, component, MaskWithin, MaskBefore, mask_rank}
use Rattle.boolean.specs.Selection.{Candidate}
use Rattle.refusals.specs.Table.{Reply, figures}
use Rattle.avalanche.specs.Avalanche.{imbalance}
use Rattle.masks.specs.Statements.{Cut, MaskBetween}
use Rattle.avalanche.specs.Calls.{autocorrelation_reply, distance_reply}
use Rattle.avalanche.specs.Parts.{autocorrelation_between_reply, distance_between_reply}

-- a combination within the limit i, and an input change of at most j ones
pub record IsChange (n m i j c s : ℕ) : Type 0 where
  pub mask : MaskWithin i (2 ^ m) c
  pub shift : MaskWithin j (2 ^ n) s

-- (c', s') comes before (c, s): by c in the components' order, then s
abbrev pub ChangeBefore : (c' s' c s : ℕ) → Type 0
ChangeBefore c' s' c s = MaskBefore c' c ⊎ ((c' ≡ c) × (s' < s))

-- What is reported of a figure that each combination c within i has under each change s of at most j ones: the largest, d, and the first c
-- and s that have it. Where it is 0 they are 1 and 1.
pub record LargestReported (n m i j : ℕ) (figure : (c s : ℕ) → ℕ) (said : Reply) : Type 0 where
  pub d : ℕ
  pub c : ℕ
  pub s : ℕ
  pub reply : said ≡ figures (d ∷ c ∷ s ∷ [])
  pub largest : (c' s' : ℕ) → IsChange n m i j c' s' → figure c' s' ≤ d
  pub member : IsChange n m i j c s
  pub reached : figure c s ≡ d
  pub before : (c' s' : ℕ) → IsChange n m i j c' s' → ChangeBefore c' s' c s → figure c' s' < d
  pub none : d ≡ 0 → (c ≡ 1) × (s ≡ 1)

-- the autocorrelation within i: the largest |r(s)|, s from 1 (of at most n ones: every s below 2^n)
abbrev pub AutocorrelationReported : (n m : ℕ) (rows : List ℕ) (i : ℕ) → Type 0
AutocorrelationReported n m rows i =
    LargestReported n m i n (λ c s. nat_abs (autocorrelation n (component rows c) s)) (autocorrelation_reply n m rows i)

-- the dynamic distance of order (i, j): the largest |2^(n−1) − the count of x where c changes under s|
abbrev pub DistanceReported : (n m : ℕ) (rows : List ℕ) (i j : ℕ) → Type 0
DistanceReported n m rows i j = LargestReported n m i j (λ c s. imbalance n (component rows c) s) (distance_reply n m rows i j)

-- a combination within the limit i whose mask lies from `low` to `high`, and an input change of at most j ones
pub record IsChangeBetween (n m i j low high c s : ℕ) : Type 0 where
  pub mask : MaskBetween m i low high c
  pub shift : MaskWithin j (2 ^ n) s

-- What is reported of such a figure over a part in which a combination within the limit lies: the largest of the part, d, and the first c
-- and s of the part that have it.
pub record LargestBetweenReported (n m i j low high : ℕ) (figure : (c s : ℕ) → ℕ) (said : Reply) : Type 0 where
  pub d : ℕ
  pub c : ℕ
  pub s : ℕ
  pub reply : said ≡ figures (d ∷ c ∷ s ∷ [])
  pub largest : (c' s' : ℕ) → IsChangeBetween n m i j low high c' s' → figure c' s' ≤ d
  pub member : IsChangeBetween n m i j low high c s
  pub reached : figure c s ≡ d
  pub before : (c' s' : ℕ) → IsChangeBetween n m i j low high c' s' → ChangeBefore c' s' c s → figure c' s' < d

-- the autocorrelation over a part: the largest |r(s)|, s from 1
abbrev pub AutocorrelationBetweenReported : (n m : ℕ) (rows : List ℕ) (i low high : ℕ) → Type 0
AutocorrelationBetweenReported n m rows i low high =
    LargestBetweenReported n m i n low high (λ c s. nat_abs (autocorrelation n (component rows c) s))
    (autocorrelation_between_reply n m rows i low high)

-- the dynamic distance of order (i, j) over a part
abbrev pub DistanceBetweenReported : (n m : ℕ) (rows : List ℕ) (i j low high : ℕ) → Type 0
DistanceBetweenReported n m rows i j low high =
    LargestBetweenReported n m i j low high (λ c s. imbalance n (component rows c) s) (distance_between_reply n m rows i j low high)

-- f changes at half of the inputs when input bit k is flipped
abbrev pub ChangesAtHalf : (n : ℕ) (f : ℕ → ℕ) (k : ℕ) → Type 0
ChangesAtHalf n f k = changes n f (2 ^ (k - 1)) ≡ 2 ^ (n - 1)

-- a change's number in the order by c, then s
abbrev pub change_rank : (n m : ℕ) (p : Candidate) → ℕ
change_rank n m p = mask_rank m (at p.witness 0) * 2 ^ n + at p.witness 1

-- the figure of the dynamic distance, at a component and a change
abbrev pub distance_of : (n : ℕ) (rows : List ℕ) (c d : ℕ) → ℕ
distance_of n rows c d = imbalance n (component rows c) d

-- what the calls reply of a part
abbrev pub autocorrelation_cut : (n m : ℕ) (rows : List ℕ) (i : ℕ) (c : Cut m) → Reply
autocorrelation_cut n m rows i c = autocorrelation_between_reply n m rows i c.low c.high

abbrev pub distance_cut : (n m : ℕ) (rows : List ℕ) (i j : ℕ) (c : Cut m) → Reply
distance_cut n m rows i j c = distance_between_reply n m rows i j c.low c.high
