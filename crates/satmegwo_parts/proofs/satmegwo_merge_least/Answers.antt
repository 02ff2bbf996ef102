-- What the checks found, and which of the two parts is taken.
use mathlib.Core.Path.{refl, sym, ◌∙◌}
use mathlib.Core.List.{[]}
use native.Mathlib.Omega.{arith}
use lib.Dec.{ltb}
use Rattle.refusals.proofs.Outcomes.{wrote_accepted}
use Rattle.border.specs.Border.{status}
use Rattle.border.proofs.Giving.{out_refused, wrote_out}
use Rattle.satmegwo_parts.proofs.Merging.{merges, takes_second, takes_first}
use Rattle.satmegwo_parts.proofs.satmegwo_merge_least.Goals as goal

pub returns-in-Err : goal.returns-in-Err
returns-in-Err c = out_refused (sym c.check_merging.ensures ∙ c.in-Err.is) c.number_of.ensures

pub is_second_less-requires : goal.is_second_less-requires
is_second_less-requires c =
    let size = merges c.args.x.now c.args.y.now _ (sym c.check_merging.ensures ∙ c.in_default.is) in
    (size.enough, omega (arith, size.enough, size.same))

pub write_part-requires : goal.write_part-requires
write_part-requires c =
    let size = merges c.args.x.now c.args.y.now _ (sym c.check_merging.ensures ∙ c.in_default.is) in
    size.fits ∙ sym size.same

pub returns-then-is_second_less : goal.returns-then-is_second_less
unfolding status
returns-then-is_second_less c =
    let second = takes_second ltb c.args.x.now c.args.y.now c.is_second_less.ensures c.if-is_second_less.true in
    wrote_out {given = []} (wrote_accepted (sym c.check_merging.ensures ∙ c.in_default.is) (c.write_part.ensures ∙ second)) refl

pub write_part-requires-2 : goal.write_part-requires-2
write_part-requires-2 c = (merges c.args.x.now c.args.y.now _ (sym c.check_merging.ensures ∙ c.in_default.is)).fits

pub returns : goal.returns
unfolding status
returns c =
    let first = takes_first ltb c.args.x.now c.args.y.now c.is_second_less.ensures c.if-is_second_less.false in
    wrote_out {given = []} (wrote_accepted (sym c.check_merging.ensures ∙ c.in_default.is) (c.write_part-2.ensures ∙ first)) refl
