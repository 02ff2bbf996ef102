-- `walsh::inverse_spectrum` meets its contract: what the checks of the lengths leave known, and that values outside the bounds have no function.
use Prim.Native.Nat.{◌-◌}
use Rattle.std.proofs.lemmas.Result.{err_from_is_err_and}
use mathlib.Core.Path.{sym, ◌∙◌}
use native.Mathlib.Omega.{arith}
use lib.ListN.{length}
use lib.Pow.{pow_mono}
use lib.Seq.{length-take-le}
use Rattle.refusals.proofs.Checks.{first_refused}
use Rattle.refusals.proofs.Outcomes.{wrote_refused, wrote_by}
use Rattle.walsh.specs.Calls.{inverse_lengths, function_check, inverse_checks}
use Rattle.walsh.proofs.Inverting.{no_function_found, outside, inverse_low, inverse_few, inverse_size, inverse_short, inverse_decided, invertible}
use Rattle.walsh.proofs.inverse_spectrum.Goals as goal

pub returns-in_err-check_lengths : goal.returns-in_err-check_lengths
unfolding inverse_checks
returns-in_err-check_lengths c =
    let a = c.args in
    let p = err_from_is_err_and c.from_residual.result c.from_residual.ensures.1 in
    rw (p.1, p.2)
    (wrote_refused
    (first_refused (inverse_lengths a.n (length a.values.now) (length a.table.now)) (function_check a.n a.values.now) (sym c.in_err-check_lengths.ensures)))

pub overflow_sub-n : goal.overflow_sub-n
overflow_sub-n c = let a = c.args in inverse_low a.n a.values.now a.table.now (sym c.in_ok-check_lengths.ensures)

pub power_of_two-requires : goal.power_of_two-requires
power_of_two-requires c = let a = c.args in omega (arith, inverse_few a.n a.values.now a.table.now (sym c.in_ok-check_lengths.ensures))

pub overflow_cast-power_of_two : goal.overflow_cast-power_of_two
overflow_cast-power_of_two c =
    let a = c.args in
    omega
    (arith, c.power_of_two.ensures.0, pow_mono {i = a.n - 1} {j = 8} (omega (arith, inverse_few a.n a.values.now a.table.now (sym c.in_ok-check_lengths.ensures))))

pub returns-then-not-all_within : goal.returns-then-not-all_within
returns-then-not-all_within c =
    let a = c.args in
    let accepted = sym c.in_ok-check_lengths.ensures in
    wrote_refused
    (inverse_decided a.n a.values.now a.table.now accepted
    ∙ no_function_found a.n a.values.now
    (outside a.n a.values.now (inverse_low a.n a.values.now a.table.now accepted) (inverse_size a.n a.values.now a.table.now accepted) c.power_of_two.result
    c.power_of_two.ensures.0 (sym c.all_within.ensures ∙ c.if-not-all_within.true)))

pub slice_bounds-work-end : goal.slice_bounds-work-end
slice_bounds-work-end c = let a = c.args in inverse_short a.n a.values.now a.table.now (sym c.in_ok-check_lengths.ensures)

pub slice_bounds-invert-end : goal.slice_bounds-invert-end
slice_bounds-invert-end c =
    let a = c.args in
    sym (length-take-le _ _ (inverse_short a.n a.values.now a.table.now (sym c.in_ok-check_lengths.ensures)))

pub invert-requires : goal.invert-requires
invert-requires c =
    let a = c.args in
    let accepted = sym c.in_ok-check_lengths.ensures in
    invertible a.n a.values.now a.table.now accepted c.power_of_two.result c.power_of_two.ensures.0
    (sym c.all_within.ensures ∙ c.if-not-all_within.false) _ (inverse_short a.n a.values.now a.table.now accepted)

pub returns : goal.returns
returns c =
    let a = c.args in
    wrote_by (sym (inverse_decided a.n a.values.now a.table.now (sym c.in_ok-check_lengths.ensures))) c.invert.ensures.inverted
