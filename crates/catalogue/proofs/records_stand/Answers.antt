-- A place more: a record stands there, or the whole test fails.
use mathlib.Core.Path.{sym, ◌∙◌}
use Rattle.catalogue.proofs.StandingLoop.{standing_start, standing_fails, standing_next, standing_done}
use Rattle.catalogue.proofs.records_stand.Goals as goal

pub loop-k-init : goal.loop-k-init
loop-k-init c = standing_start _ _ c.requires.2 c.requires.0

pub returns-then-not-record_stands : goal.returns-then-not-record_stands
returns-then-not-record_stands c =
    standing_fails c.loop-k.invariant c.loop-k-test.true _ c.place_at-place.ensures.0 (sym c.record_stands.ensures ∙ c.if-not-record_stands.true)

pub loop-k-preserved : goal.loop-k-preserved
loop-k-preserved c =
    standing_next c.loop-k.invariant c.loop-k-test.true _ c.place_at-place.ensures.0 (sym c.record_stands.ensures ∙ c.if-not-record_stands.false)

pub returns : goal.returns
returns c = standing_done c.loop-k.invariant c.loop-k-test.false c.values_below.ensures
