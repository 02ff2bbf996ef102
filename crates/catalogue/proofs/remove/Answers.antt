-- `catalogue::remove` meets its contract: of a valid catalogue the record's bytes are cleared and its place is closed.
use mathlib.Core.Path.{◌≡◌, sym, ap, ◌∙◌}
use mathlib.Core.List.{[]}
use Prim.Native.Nat.{◌≤◌}
use native.Mathlib.Omega.{arith}
use lib.ListN.{length, replicate}
use lib.Seq.{length-sets}
use Rattle.refusals.specs.Table.{first}
use Rattle.refusals.proofs.Checks.{reply_refused, reply_accepted, after_refused, after_accepted}
use Rattle.catalogue.specs.Format.{count, place_at}
use Rattle.catalogue.specs.Work.{closed}
use Rattle.catalogue.specs.Calls.{index_checks}
use Rattle.catalogue.specs.Statements.{AllBytes}
use Rattle.catalogue.proofs.Built.{valid_says}
use Rattle.catalogue.proofs.Indexed.{Indexed, indexed}
use Rattle.catalogue.proofs.Edits.{removed_is}
use Rattle.std.specs.Prelude.{Ok}
use Rattle.catalogue.proofs.remove.Goals as goal

pub word_at-n-requires : goal.word_at-n-requires
word_at-n-requires c = omega (arith, ((indexed _ _ (sym c.in_ok-check_index.ensures))).listed)

pub word_at-offset-requires : goal.word_at-offset-requires
word_at-offset-requires c = omega (arith, ((indexed _ _ (sym c.in_ok-check_index.ensures))).listed)

pub word_at-size-requires : goal.word_at-size-requires
word_at-size-requires c = omega (arith, ((indexed _ _ (sym c.in_ok-check_index.ensures))).listed)

pub clear-requires : goal.clear-requires
unfolding place_at
clear-requires c =
    omega (arith, ((indexed _ _ (sym c.in_ok-check_index.ensures))).inside, c.word_at-offset.ensures.0, c.word_at-size.ensures.0)

pub close_place-requires : goal.close_place-requires
unfolding count
close_place-requires c =
    let i = (indexed _ _ (sym c.in_ok-check_index.ensures)) in
    let b = c.args.catalogue.now in
    let l = ap length c.clear.ensures ∙ length-sets b c.word_at-offset.result (replicate c.word_at-size.result 0) in
    (omega (arith, i.below, (c.word_at-n.ensures.0)), (omega (arith, (c.word_at-n.ensures.0), (valid_says _ ((indexed _ _ (sym c.in_ok-check_index.ensures))).whole).most)), omega (arith, l, (valid_says _ i.whole).low))

pub returns : goal.returns
unfolding place_at count
returns c =
    let a = c.args in
    record {
      reply = reply_accepted (sym c.in_ok-check_index.ensures) [];
      content = c.close_place.ensures ∙ ap (closed c.word_at-n.result a.index) c.clear.ensures
          ∙ removed_is a.catalogue.now (λ i. omega (arith, c.slice_known-1.given i)) a.index ((indexed _ _ (sym c.in_ok-check_index.ensures))) c.word_at-n.result c.word_at-offset.result c.word_at-size.result ((c.word_at-n.ensures.0)) c.word_at-offset.ensures.0 c.word_at-size.ensures.0
          ∙ after_accepted (sym c.in_ok-check_index.ensures) _ _;
    }
