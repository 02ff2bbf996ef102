use Rattle.std.proofs.Common.{◌+◌, arith, refl, sym, ◌∙◌}
use Rattle.masks.specs.Statements.{MaskRange}
use Rattle.masks.proofs.Sweeps.{choosing_from}
use Rattle.masks.proofs.Walk.{raised_before}
use Rattle.rounds.specs.Round.{outputs_of}
use Rattle.rounds.specs.Work.{summed}
use Rattle.rounds.proofs.Terms.{sweep_takes, sweep_keeps, sweep_ends}
use Rattle.rounds.proofs.sweep.Goals as goal
use Rattle.rounds.proofs.sweep.Goals.{then-is_preferred, else-is_preferred}

pub loop-c-init : goal.loop-c-init
loop-c-init c =
    let p = c.requires.2 in
    let part : MaskRange (outputs_of (summed c.args.boxes.now)) c.args.first (c.args.last + 1) =
    record { low = p.low; some = omega (arith, p.some); high = omega (arith, p.high) } in
    record { so_far = choosing_from part c.requires.1 p.few; stepped = c.requires.4; raised = raised_before c.args.first p.low }

pub loop-c-preserved : goal.loop-c-preserved
loop-c-preserved c =
    let ss = summed c.args.boxes.now in
    let i = c.loop-c.invariant in
    let next = c.next_mask-c.ensures in
    let size = c.product_at-size.ensures in
    elim c.if-is_preferred.branch [
      | then-is_preferred w ↦ record {
        so_far = rw w.found-is (sweep_takes ss c.args.first c.args.last i.so_far size.0 refl c.loop-c-test.true next.0 (sym c.is_preferred.ensures ∙ w.if-is_preferred.true));
        stepped = size.1;
        raised = next.1;
      }
      | else-is_preferred w ↦ record {
        so_far = rw w.found-is (sweep_keeps ss c.args.first c.args.last i.so_far size.0 refl c.loop-c-test.true next.0 (sym c.is_preferred.ensures ∙ w.if-is_preferred.false));
        stepped = size.1;
        raised = next.1;
      }
    ]

pub returns : goal.returns
returns c = sweep_ends (summed c.args.boxes.now) c.args.first c.args.last c.loop-c.invariant.so_far c.loop-c-test.false c.requires.2
