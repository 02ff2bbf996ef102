-- Both halves look the old rows up alike; the old row stays below 2^n and the new bit is a bit, so that the shift and the sum are exact.
use Rattle.std.proofs.Common.{ℕ, ◌<◌, ap, ◌∙◌, sym, subst, arith}
use Rattle.boolean.specs.Functions.{at}
use Rattle.constructions.proofs.Enlarging.{enlarged_zero, enlarged_lt, shifted}
use Rattle.constructions.proofs.box_row.Goals as goal

pub returns : goal.returns
returns c =
    let a = c.args in
    let row = ap (at a.rows.now) c.source.ensures.0 ∙ enlarged_zero a.n a.k a.x (at a.rows.now) in
    let small = enlarged_lt a.n a.k a.x (at a.table.now) 1 1 c.requires.0.bits (omega arith) in
    let bit : c.column_at-top.result < 2 = subst (λ (r : ℕ). r < 2) (sym c.column_at-top.ensures) small in
    let exact = shifted a.n c.column_at-top.result c.requires.0.widths.n_high bit in
    cc
