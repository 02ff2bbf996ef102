-- What no document asks for and users of the library rely on: a box and its file, all nearest pairs, and the range of a cell. Keys as
-- `[beside.1]` are those of PROMISES, "Beside the documents".
use Rattle.std.specs.Prelude.{Result, Ok, ⊤}
use Rattle.refusals.specs.declared.Refusal.{Refusal}
use Prim.Native.Nat.{ℕ, ◌^◌, ◌≤◌}
use mathlib.Core.Path.{◌≡◌}
use mathlib.Core.List.{List}
use lib.ListN.{length}
use Rattle.boolean.specs.Functions.{Below}
use Rattle.boolean.proofs.Counts.{count_le}
use Rattle.differential.specs.XorTable.{cell}
use Rattle.nearest.specs.Calls.{PairsCalled}
use Rattle.nearest.specs.Statements.{PairsReported}
use Rattle.nearest.proofs.Theorems as nearest
use Rattle.refusals.specs.declared.BoxWidths.{BoxWidths}
use Rattle.boxfile.specs.File.{ReadCalled, WriteCalled}
use Rattle.boxfile.proofs.Theorems as boxfile

-- [beside.1] A box that is written to a file (boxfile::write_box) and read again (boxfile::read_box), into any array as long as its rows, comes
-- back: of two calls, by their contracts
pub box_comes_back : (n m : ℕ) (rows lent file lent' left : List ℕ) (answer : Result ⊤ Refusal) (answer' : Result BoxWidths Refusal)
    → WriteCalled n m rows lent answer file → answer ≡ (Ok tt) → ReadCalled file lent' answer' left → length lent' ≡ length rows
    → (answer' ≡ Ok (record { n = n; m = m })) × (left ≡ rows)
box_comes_back = boxfile.box_comes_back

-- [beside.2] A file that is read and written again, to any array as long as it is, comes back byte by byte
pub file_comes_back : (file lent rows lent' left : List ℕ) (n m : ℕ) (answer : Result BoxWidths Refusal) (answer' : Result ⊤ Refusal) → Below 256 file
    → ReadCalled file lent answer rows → answer ≡ Ok (record { n = n; m = m }) → WriteCalled n m rows lent' answer' left → length lent' ≡ length file
    → (answer' ≡ (Ok tt)) × (left ≡ file)
file_comes_back = boxfile.file_comes_back

-- [beside.3] nearest::nearest_pairs lists all pairs that differ at as few inputs as the nonlinearity says, each once, in the order of 02 §6, the
-- nonlinearity's witness first; the entries past them stay (`PairsReported`)
pub pairs_reported : (n m : ℕ) (rows : List ℕ) (i : ℕ) (lent left : List ℕ) (count : ℕ) → PairsCalled n m rows i lent (Ok count) left
    → PairsReported n m rows i lent left count
pairs_reported = nearest.pairs_reported

-- [beside.4] No cell of the XOR table counts more inputs than there are
pub cell_range : (n : ℕ) (rows : List ℕ) (a β : ℕ) → cell n rows a β ≤ 2 ^ n
unfolding cell
cell_range n rows a β = count_le (2 ^ n) _
