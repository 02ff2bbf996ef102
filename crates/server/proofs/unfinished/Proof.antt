-- `server::unfinished` meets its contract: a box's widths, and fewer than 2^m − 1 combinations examined. Assumes nothing.
use Prim.Native.Nat.{ℕ, ◌-◌, ◌^◌, ◌≤◌}
use mathlib.Core.Path.{◌≡◌, sym, ap, ◌∙◌}
use mathlib.Core.Bool.{true}
use native.Mathlib.Omega.{arith}
use borrow.Author.Rules.{rules}
use lib.Dec.{ltb}
use lib.Pow.{pow_pos, pow_mono}
use Rattle.refusals.specs.Table.{in_range}
use Rattle.refusals.proofs.Bounds.{range_high}
use Rattle.refusals.proofs.Checks.{fails, holds}
use Rattle.server.specs.Model as model
use Rattle.server.specs.Calls.{analysis_in}
use Rattle.server.proofs.Places.{spot_empty, spot_box, no_inputs, no_outputs, more_is}
use Rattle.server.proofs.unfinished.Statement.{statement}
use Rattle.server.proofs.unfinished.Tie as tie

returns : tie.Need-returns-then-p-ne1
returns c = let p = c.args.p in sym (ap model.unfinished (spot_empty p c.if-p-ne1.true))

returns-2 : tie.Need-returns-then-not-in_range
returns-2 c =
    let p = c.args.p in
    sym (ap model.unfinished (spot_box p c.if-p-ne1.false) ∙ no_inputs (analysis_in p) (fails c.in_range.ensures c.if-not-in_range.true-raw))

returns-3 : tie.Need-returns-then-not-in_range-2
returns-3 c =
    let p = c.args.p in
    sym (ap model.unfinished (spot_box p c.if-p-ne1.false) ∙ no_outputs (analysis_in p) (fails c.in_range-2.ensures c.if-not-in_range-2.true-raw))

outputs : (c : tie.Else-not-in_range-2) → in_range 1 16 c.args.p.m ≡ true
outputs c = holds c.in_range-2.ensures c.if-not-in_range-2.false-raw

power_of_two_requires : tie.Need-power_of_two-masks-requires
power_of_two_requires c κs = omega (arith, range_high 1 16 c.args.p.m (outputs c))

cast_masks : tie.Need-overflow_cast-masks
cast_masks c =
    let p = c.args.p in
    let few : 2 ^ p.m ≤ 2 ^ 16 = pow_mono (range_high 1 16 p.m (outputs c.before)) in
    omega (arith, c.power_of_two-masks.ensures.0)

sub_result : tie.Need-overflow_sub-result
sub_result c =
    omega (arith, c.power_of_two-masks.ensures.0, pow_pos c.args.p.m)

returns-4 : tie.Need-returns
returns-4 c =
    let p = c.args.p in
    ap (λ (k : ℕ). ltb p.examined (k - 1)) c.power_of_two-masks.ensures.0
    ∙ sym (ap model.unfinished (spot_box p c.if-p-ne1.false)
    ∙ more_is (analysis_in p) (holds c.in_range.ensures c.if-not-in_range.false-raw) (outputs c.before.before))

pub unfinished_spec : {M : Type 1} → statement M
unfinished_spec =
    tie.close
    (tie.spec returns (λ c κs. search rules) returns-2 (λ c κs. search rules) returns-3 power_of_two_requires cast_masks sub_result
    returns-4)
