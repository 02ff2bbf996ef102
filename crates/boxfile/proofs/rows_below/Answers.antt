-- A box has a row, and all rows are below the limit exactly if the largest is.
use Prim.Native.Nat.{ℕ, ◌<◌}
use mathlib.Core.Path.{◌≡◌, ap, sym, subst, ◌∙◌}
use lib.Dec.{ltb}
use lib.ListN.{length}
use lib.Pow.{pow_pos}
use Rattle.boolean.specs.Sums.{largest_below}
use Rattle.refusals.proofs.Bounds.{largest_below_lem}
use Rattle.boxfile.specs.File.{row_at, file_rows}
use Rattle.boxfile.proofs.FileRows.{length_rows, row_of_rows}
use Rattle.boxfile.proofs.rows_below.Goals as goal

pub returns : goal.returns
returns c =
    let a = c.args in
    let rows = file_rows a.file.now a.n in
    let many : length rows ≡ a.size = length_rows a.file.now a.n ∙ sym c.requires.0 in
    let some : 0 < length rows = subst (λ (k : ℕ). 0 < k) (sym (length_rows a.file.now a.n)) (pow_pos a.n) in
    ap (λ (k : ℕ). ltb k a.limit) (c.largest_row-most.ensures ∙ ap (λ (k : ℕ). largest_below k (row_at a.file.now)) (sym many))
    ∙ largest_below_lem a.limit rows (row_at a.file.now) some (λ x l. row_of_rows a.file.now a.n x (subst (λ (k : ℕ). x < k) (length_rows a.file.now a.n) l))
