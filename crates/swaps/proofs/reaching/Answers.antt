use Rattle.std.proofs.Common.{◌^◌, ◌<◌, rules, arith}
use Rattle.boolean.proofs.Components.{whole_within}
use Rattle.swaps.proofs.Trying.{again, reaching_starts, reaching_more, reaching_ends}
use Rattle.swaps.proofs.reaching.Goals as goal

pub loop-c-init : goal.loop-c-init
loop-c-init c = reaching_starts (again c.requires.0 c.component_count.auto.table c.component_count.auto.work)

pub returns-then-near-count : goal.returns-then-near-count
returns-then-near-count c =
    let inside : c.loop-c.c < 2 ^ c.args.m = omega arith in
    ((whole_within c.args.m c.loop-c.c c.loop-c.auto.c inside, omega arith), search rules, search rules)

pub loop-c-preserved : goal.loop-c-preserved
loop-c-preserved c =
    let i = c.loop-c.invariant in
    let inside : c.loop-c.c < 2 ^ c.args.m = omega arith in
    let arrays = again i.arrays c.component_count-near.auto.table c.component_count-near.auto.work in
    rw c.min-least.ensures (reaching_more i arrays c.loop-c.auto.c inside c.component_count-near.ensures.0 c.if-near-count.false)

pub returns : goal.returns
returns c = (reaching_ends c.loop-c.invariant (omega arith), search rules, search rules)
