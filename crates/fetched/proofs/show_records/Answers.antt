-- One more record follows those before.
use Rattle.std.proofs.Common.{rules, sym, subst}
use Rattle.std.proofs.KnownBytes.{Appends-nil, Appends-trans}
use Rattle.std.specs.Io.KnownBytes.{Appends}
use Rattle.boolean.specs.Sums.{each, list_below, list_from}
use Rattle.boolean.proofs.Lists.{each_from_zero}
use Rattle.fetched.specs.Printed.{record_shown, records_shown}
use Rattle.fetched.proofs.show_records.Goals as goal

pub loop-index-init : goal.loop-index-init
unfolding each list_below list_from
loop-index-init g c = Appends-nil _

pub loop-index-preserved : goal.loop-index-preserved
loop-index-preserved g c =
    subst (Appends _ _) (sym (each_from_zero c.loop-index.index (λ k. record_shown c.args.catalogue.now k)))
    (Appends-trans _ _ _ _ _ c.loop-index.invariant c.in_ok-show_record.ensures)

pub returns : goal.returns
unfolding records_shown
returns g c = search rules
