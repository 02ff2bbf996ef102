-- Past the loop all rows are the file's.
use Rattle.std.proofs.Common.{arith}
use Rattle.boolean.proofs.Lists.{list_is}
use Rattle.boxfile.specs.File.{row_at, file_rows}
use Rattle.boxfile.proofs.write_rows.Goals as goal

pub returns : goal.returns
unfolding file_rows
returns c = let a = c.args in list_is 0 _ (λ x. row_at a.file.now x) c.loop-x.rows (omega arith) (λ k h. c.loop-x.invariant k (omega arith))
