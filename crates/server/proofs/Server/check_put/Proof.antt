-- `server::Server::check_put` meets its contract: a line for the place's number, one for what stands on it, then the box's. Assumes
-- nothing.
use mathlib.Core.Path.{◌≡◌, sym, ap, ◌∙◌}
use mathlib.Core.Bool.{true, not}
use native.Mathlib.Omega.{arith}
use borrow.Author.Rules.{rules}
use borrow.Author.Tests.{eq-eqb, ne_eqb}
use Rattle.refusals.specs.Table.{in_range}
use Rattle.refusals.proofs.Checks.{fails, holds, found, stop, skip, first_passed}
use Rattle.refusals.proofs.Bounds.{range_low, range_high}
use Rattle.server.specs.Model.{put_checks}
use Rattle.server.proofs.Places.{taken_at}
use Rattle.server.proofs.Server.check_put.Statement.{statement}
use Rattle.server.proofs.Server.check_put.Tie as tie

returns : tie.Need-returns-then-not-in_range
unfolding put_checks
returns c = found (stop (fails c.in_range.ensures c.if-not-in_range.true-raw))

-- the place's number, where it was passed
numbered : (c : tie.Else-not-in_range) → in_range 1 8 c.args.place ≡ true
numbered c = holds c.in_range.ensures c.if-not-in_range.false-raw

sub_i : tie.Need-overflow_sub-i
sub_i c = range_low 1 8 _ (numbered c)

element_copy_out_here : tie.Need-bounds-self-i
element_copy_out_here c =
    let a = c.args in
    omega (arith, range_low 1 8 a.place (numbered c), range_high 1 8 a.place (numbered c))

returns-2 : tie.Need-returns-then-here-eq1
unfolding put_checks
returns-2 c =
    let a = c.args in
    found (skip (holds c.in_range.ensures c.if-not-in_range.false-raw) (stop (ap not (sym (taken_at a.self a.place) ∙ eq-eqb _ 1 c.if-here-eq1.true))))

returns-3 : tie.Need-returns
unfolding put_checks
returns-3 c =
    let a = c.args in
    c.check_box_up_to.ensures ∙ sym (first_passed _ _ _ (numbered c.before.before.before.before) ∙ first_passed _ _ _ (ap not (sym (taken_at a.self a.place) ∙ ne_eqb _ 1 c.if-here-eq1.false)))

pub check_put_spec : {M : Type 1} → statement M
check_put_spec =
    tie.close
    (tie.spec (λ c κs. search rules) returns sub_i (λ c. search rules) (λ c. search rules) element_copy_out_here returns-2
    (λ c κs. search rules) returns-3)
