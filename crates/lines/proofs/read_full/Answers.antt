-- The bytes that one more read gives stand behind those before.
use Rattle.std.proofs.Common.{rules, sym, subst}
use Rattle.std.proofs.KnownBytes.{Consumes-trans}
use Rattle.std.specs.Io.KnownBytes.{Consumes}
use Rattle.lines.proofs.Reading.{taken}
use Rattle.lines.proofs.read_full.Goals as goal

pub loop-count-preserved : goal.loop-count-preserved
loop-count-preserved g c =
    let more = taken c.loop-count.count _ c.in-Ok.n c.loop-count.buffer c.read.new.buf c.loop-count.invariant.0 c.in-Ok.ensures.bound.0 in (
      search rules,
      subst (Consumes _ _) (sym more) (Consumes-trans _ _ _ _ _ c.loop-count.invariant.1 c.in-Ok.ensures.bytes.0),
    )
