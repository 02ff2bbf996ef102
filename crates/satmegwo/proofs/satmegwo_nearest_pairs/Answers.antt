-- `satmegwo::satmegwo_nearest_pairs` meets its contract: the array for the number is looked at between the limit and the list.
use Prim.Native.Nat.{ℕ}
use mathlib.Core.Path.{◌≡◌, refl, sym, ap, ◌∙◌}
use mathlib.Core.List.{List, [], ◌∷◌}
use native.Mathlib.Omega.{arith}
use borrow.Author.Tests.{eq-eqb, ne_eqb}
use lib.ListN.{length, set}
use Rattle.refusals.specs.Table.{first, limit_checks}
use Rattle.refusals.proofs.Outcomes.{wrote_by}
use Rattle.nearest.specs.NearestPairs.{nearest_pairs}
use Rattle.nearest.specs.Calls.{pairs_checks, said_pair_list}
use Rattle.border.specs.Border.{room_number}
use Rattle.satmegwo.specs.Exports.{nearest_checks}
use Rattle.border.proofs.Giving.{gives_all, out_refused, out_beside, out_figures, out_refusal, room_refused, room_passed}
use Rattle.satmegwo.proofs.satmegwo_nearest_pairs.Goals as goal

-- the one element is written
one_written : (l : List ℕ) (v : ℕ) → length l ≡ 1 → set l 0 v ≡ v ∷ []
one_written [] v e = absurd (omega arith)
one_written (x ∷ []) v e = refl
one_written (x ∷ y ∷ l) v e = absurd (omega arith)

pub returns-then-counts-ne1 : goal.returns-then-counts-ne1
unfolding nearest_checks
returns-then-counts-ne1 c =
    let a = c.args in
    let t = room_refused (limit_checks a.n a.m a.rows.now a.i) _ (ne_eqb _ 1 c.if-counts-ne1.true) in
    let n = c.number_for_room.ensures ∙ ap room_number c.check_limited.ensures ∙ t.number_is in
    record { count = out_refused t.is n; pairs = out_refused t.is n }

pub bounds-figures-0 : goal.bounds-figures-0
bounds-figures-0 c = omega (arith, c.if-counts-ne1.false)

pub returns-in-Ok : goal.returns-in-Ok
unfolding nearest_checks pairs_checks
returns-in-Ok c =
    let a = c.args in
    let as_called : first (nearest_checks a.n a.m a.rows.now a.i (length a.figures.now) (length a.list.now))
    ≡ first (pairs_checks a.n a.m a.rows.now a.i (length a.list.now)) =
    room_passed (limit_checks a.n a.m a.rows.now a.i) _ (eq-eqb _ 1 c.if-counts-ne1.false) in
    let pairs = nearest_pairs a.n a.m a.rows.now a.i in
    let wrote = wrote_by (sym as_called) c.nearest_pairs.ensures in
    let count = out_figures (length pairs ∷ []) c.if-counts-ne1.false (sym (ap said_pair_list c.in-Ok.is) ∙ wrote.reply)
    (gives_all c.if-counts-ne1.false (one_written a.figures.now c.in-Ok.count c.if-counts-ne1.false)) in
    record { count = count; pairs = out_beside count wrote }

pub returns-in-Err : goal.returns-in-Err
unfolding nearest_checks pairs_checks
returns-in-Err c =
    let a = c.args in
    let as_called : first (nearest_checks a.n a.m a.rows.now a.i (length a.figures.now) (length a.list.now))
    ≡ first (pairs_checks a.n a.m a.rows.now a.i (length a.list.now)) =
    room_passed (limit_checks a.n a.m a.rows.now a.i) _ (eq-eqb _ 1 c.if-counts-ne1.false) in
    let pairs = nearest_pairs a.n a.m a.rows.now a.i in
    let wrote = wrote_by (sym as_called) c.nearest_pairs.ensures in
    let count = out_refusal (length pairs ∷ []) (sym (ap said_pair_list c.in-Err.is) ∙ wrote.reply) c.number_of.ensures in
    record { count = count; pairs = out_beside count wrote }
