-- The degree of a box, and bijectivity.
use Rattle.std.specs.Prelude.{ℕ, Bool, ◌&&◌, List, [], ◌∷◌, eqb}
use Rattle.boolean.specs.Sums.{each, distinct}
use Rattle.boolean.specs.Functions.{degree, component, components}
use Rattle.boolean.specs.Selection.{Candidate, first_least}

-- the component at the mask c, with its degree
abbrev pub with_degree : (n : ℕ) (rows : List ℕ) (c : ℕ) → Candidate
with_degree n rows c = record { figure = degree n (component rows c); witness = c ∷ [] }

-- all components within the limit i with their degrees, in the components' order
unfoldable pub degrees : (n m : ℕ) (rows : List ℕ) (i : ℕ) → List Candidate
unfolding each degree component components
degrees n m rows i = each (components m i) (λ c. with_degree n rows c ∷ [])

-- the degree of a box: the least degree of a component within the limit i, with the first component that has it
unfoldable pub box_degree : (n m : ℕ) (rows : List ℕ) (i : ℕ) → Candidate
unfolding first_least degrees
box_degree n m rows i = first_least (degrees n m rows i)

-- bijective: n = m and no two rows equal
unfoldable pub bijective : (n m : ℕ) (rows : List ℕ) → Bool
unfolding distinct
bijective n m rows = eqb n m && distinct eqb rows
