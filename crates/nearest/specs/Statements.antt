-- What the theorem beside the contract says; no contract needs it.
use Rattle.std.specs.Prelude.{ℕ, ◌<◌, ◌≤◌, ◌≡◌, List, [], ◌∷◌, length}
use Rattle.boolean.specs.Functions.{at, component, distance}
use Rattle.refusals.specs.Table.{figures}
use Rattle.linear.specs.Nonlinearity.{nonlinearity_reply}
use Rattle.linear.specs.Statements.{IsPair, PairBefore}
use Rattle.nearest.specs.NearestPairs.{code}

-- v is the number of a pair (c, w, b) within the limit that differs at exactly d inputs
pub record PairOf (n m : ℕ) (rows : List ℕ) (i d v : ℕ) : Type 0 where
  pub c : ℕ
  pub w : ℕ
  pub b : ℕ
  pub member : IsPair n m i c w b
  pub reached : distance n (component rows c) w b ≡ d
  pub is : v ≡ code c w b

-- What is reported of an accepted box within the limit i: the count, and the list that was lent, as the call leaves it. Its first entries,
-- as many as the count says, are all pairs that differ at exactly d inputs, d being the nonlinearity that its call replies: each entry is
-- one of them, each of them stands there, an entry comes before all after it, by c in the components' order, then w, then b, so that none
-- stands twice, and the first is the nonlinearity's witness. The entries past them are as they were.
pub record PairsReported (n m : ℕ) (rows : List ℕ) (i : ℕ) (lent left : List ℕ) (count : ℕ) : Type 0 where
  pub d : ℕ
  pub c : ℕ
  pub w : ℕ
  pub b : ℕ
  pub nonlinearity : nonlinearity_reply n m rows i ≡ figures (d ∷ c ∷ w ∷ b ∷ [])
  pub room : count ≤ length lent
  pub some : 1 ≤ count
  pub begins : at left 0 ≡ code c w b
  pub entry : (s : ℕ) → s < count → PairOf n m rows i d (at left s)
  pub every : (c' w' b' : ℕ) → IsPair n m i c' w' b' → distance n (component rows c') w' b' ≡ d
      → (s : ℕ) × (s < count) × (at left s ≡ code c' w' b')
  pub in_order : (s t : ℕ) (p : s < count) (q : t < count) → s < t
      → PairBefore (entry s p).c (entry s p).w (entry s p).b (entry t q).c (entry t q).w (entry t q).b
  pub stay : (s : ℕ) → count ≤ s → at left s ≡ at lent s
  pub as_long : length left ≡ length lent
