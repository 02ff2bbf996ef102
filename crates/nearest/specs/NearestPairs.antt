-- All nearest pairs: the pairs within the limit that differ at as few inputs as the nonlinearity says, in the order of the pairs.
use Rattle.std.specs.Prelude.{ℕ, ◌+◌, ◌*◌, List, map, eqb}
use Rattle.boolean.specs.Sums.{keep}
use Rattle.boolean.specs.Functions.{at}
use Rattle.boolean.specs.Selection.{Candidate}
use Rattle.linear.specs.Nonlinearity.{pairs, nonlinearity}

-- the number of the pair (c, w, b) in the list: c × 512 + 2 × w + b
abbrev pub code : (c w b : ℕ) → ℕ
code c w b = c * 512 + 2 * w + b

-- the number of a pair that stands with its count: its witness is c, w and b
abbrev pub coded_pair : Candidate → ℕ
coded_pair p = code (at p.witness 0) (at p.witness 1) (at p.witness 2)

-- of all pairs within the limit i, in the components' order, then w, then b, those that differ at as many inputs as the nonlinearity says
unfoldable pub nearest_pairs : (n m : ℕ) (rows : List ℕ) (i : ℕ) → List ℕ
unfolding keep nonlinearity pairs
nearest_pairs n m rows i = map coded_pair (keep (λ p. eqb p.figure (nonlinearity n m rows i).figure) (pairs n m rows i))
