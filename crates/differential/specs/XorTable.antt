-- The XOR table, the field's difference distribution table.
use Rattle.std.specs.Prelude.{ℕ, ◌+◌, ◌-◌, ◌*◌, ◌^◌, List, [], ◌∷◌, map, eqb}
use Rattle.std.specs.Int.Bits.{bit_xor}
use Rattle.boolean.specs.Sums.{count_below, list_from, list_below, each, keep}
use Rattle.boolean.specs.Functions.{at}
use Rattle.boolean.specs.Selection.{Candidate, first_largest}

-- S(x) XOR S(x XOR a), the output difference at x under the input difference a
unfoldable pub difference : (rows : List ℕ) (a x : ℕ) → ℕ
difference rows a x = bit_xor (at rows x) (at rows (bit_xor x a))

-- a cell of the table: the count of x with S(x) XOR S(x XOR a) = β
unfoldable pub cell : (n : ℕ) (rows : List ℕ) (a β : ℕ) → ℕ
unfolding count_below difference
cell n rows a β = count_below (2 ^ n) (λ x. eqb (difference rows a x) β)

-- one row of the table: its 2^m counts
unfoldable pub xor_row : (n m : ℕ) (rows : List ℕ) (a : ℕ) → List ℕ
unfolding list_below cell
xor_row n m rows a = list_below (2 ^ m) (λ β. cell n rows a β)

-- the cells of one row, in ascending β
unfoldable pub cells_of : (n m : ℕ) (rows : List ℕ) (a : ℕ) → List Candidate
unfolding list_below cell
cells_of n m rows a = list_below (2 ^ m) (λ β. record { figure = cell n rows a β; witness = a ∷ β ∷ [] })

-- all cells, in ascending a from 1 to 2^n − 1, then β
unfoldable pub cells : (n m : ℕ) (rows : List ℕ) → List Candidate
unfolding each list_from cells_of
cells n m rows = each (list_from 1 (2 ^ n - 1) (λ a. a)) (λ a. cells_of n m rows a)

-- the first largest cell, the field's differential uniformity
unfoldable pub largest_cell : (n m : ℕ) (rows : List ℕ) → Candidate
unfolding first_largest cells
largest_cell n m rows = first_largest (cells n m rows)

-- a cell in the list of cells: a × 2^32 + β
abbrev pub coded : Candidate → ℕ
coded c = at c.witness 0 * 2 ^ 32 + at c.witness 1

-- the cells that reach the largest count, in the same order
unfoldable pub largest_cells : (n m : ℕ) (rows : List ℕ) → List ℕ
unfolding keep largest_cell cells
largest_cells n m rows = map coded (keep (λ c. eqb c.figure (largest_cell n m rows).figure) (cells n m rows))
