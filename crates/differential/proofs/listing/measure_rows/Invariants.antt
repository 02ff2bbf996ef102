-- The rows before a were measured, and the buckets are free for the row of a.
use Rattle.differential.specs.Work.{FreeFrom}
use Rattle.differential.proofs.Measures.{Measuring}
use Rattle.differential.proofs.listing.measure_rows.Given as goal

abbrev pub invariant-loop-a : goal.invariant-loop-a
invariant-loop-a l = Measuring l.n l.m l.rows l.measured l.largest l.pairs l.a × FreeFrom l.a l.buckets
