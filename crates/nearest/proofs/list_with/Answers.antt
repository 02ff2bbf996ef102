-- `nearest::list_with` meets its contract: the list has room for the pairs that were counted, or is refused. Assumes nothing.
use Prim.Native.Nat.{ℕ}
use mathlib.Core.Path.{◌≡◌, ap, ap₂, ◌∙◌}
use mathlib.Core.List.{List, [], ◌∷◌, ◌++◌}
use native.Mathlib.Omega.{arith}
use lib.ListN.{length}
use lib.Seq.{sets, length-sets}
use Rattle.refusals.specs.Table.{figures}
use Rattle.refusals.proofs.Checks.{reply_refused, reply_accepted, after_refused, after_accepted}
use Rattle.differential.proofs.ListChecks.{written_first}
use Rattle.nearest.specs.NearestPairs.{nearest_pairs}
use Rattle.nearest.specs.Work.{pairs_of_all}
use Rattle.nearest.proofs.Component.{pairs_all}
use Rattle.nearest.proofs.Checks.{too_short, long_enough}
use Rattle.nearest.proofs.Lists.{sets_nowhere}
use Rattle.nearest.proofs.Loops.{lent_again}
use borrow.Author.Rules.{rules}
use Rattle.nearest.proofs.list_with.Goals as goal

pub slice_bounds-list_all-end : goal.slice_bounds-list_all-end
slice_bounds-list_all-end c = search rules

pub slice_bounds-list_all-end-2 : goal.slice_bounds-list_all-end-2
slice_bounds-list_all-end-2 c = search rules

pub shape_of-list-then-list-count : goal.shape_of-list-then-list-count
shape_of-list-then-list-count c =
    let same_list : c.list_all-count.new.list ++ c.args.list.now ≡ c.args.list.now = ap (λ (l : List ℕ). l ++ c.args.list.now) (c.list_all-count.ensures.1 ∙ sets_nowhere 0 (pairs_of_all c.args.sought c.args.rows.now)) in
    ap length same_list

pub returns-then-list-count : goal.returns-then-list-count
returns-then-list-count c =
    let counted : c.list_all-count.result ≡ length (nearest_pairs c.args.sought.n c.args.sought.m c.args.rows.now c.args.sought.i) = c.list_all-count.ensures.0 ∙ ap length (pairs_all c.requires.0.known) in
    let same_list : c.list_all-count.new.list ++ c.args.list.now ≡ c.args.list.now = ap (λ (l : List ℕ). l ++ c.args.list.now) (c.list_all-count.ensures.1 ∙ sets_nowhere 0 (pairs_of_all c.args.sought c.args.rows.now)) in
    let old = c.args.list.now in
    let e = c.list_all-count.ensures in
    let h = too_short c.requires.0.known counted (length old) (omega (arith, c.if-list-count.true, ap length same_list)) in
    (record { reply = reply_refused h _; content = same_list ∙ after_refused h _ old }, e.2, e.3, e.4)

pub list_all-requires : goal.list_all-requires
list_all-requires c =
    let e = c.list_all-count.ensures in
    (lent_again c.requires.0 e.2 e.3 e.4, c.requires.1)

pub shape_of-list : goal.shape_of-list
shape_of-list c =
    let same_list : c.list_all-count.new.list ++ c.args.list.now ≡ c.args.list.now = ap (λ (l : List ℕ). l ++ c.args.list.now) (c.list_all-count.ensures.1 ∙ sets_nowhere 0 (pairs_of_all c.args.sought c.args.rows.now)) in
    let written : c.list_all.new.list ≡ sets c.args.list.now 0 (nearest_pairs c.args.sought.n c.args.sought.m c.args.rows.now c.args.sought.i) = c.list_all.ensures.1 ∙ ap₂ (λ (old new : List ℕ). sets old 0 new) same_list (pairs_all c.requires.0.known) in
    let a = c.args in
    ap length written ∙ length-sets a.list.now 0 (nearest_pairs a.sought.n a.sought.m a.rows.now a.sought.i)

pub returns : goal.returns
returns c =
    let counted : c.list_all-count.result ≡ length (nearest_pairs c.args.sought.n c.args.sought.m c.args.rows.now c.args.sought.i) = c.list_all-count.ensures.0 ∙ ap length (pairs_all c.requires.0.known) in
    let same_list : c.list_all-count.new.list ++ c.args.list.now ≡ c.args.list.now = ap (λ (l : List ℕ). l ++ c.args.list.now) (c.list_all-count.ensures.1 ∙ sets_nowhere 0 (pairs_of_all c.args.sought c.args.rows.now)) in
    let written : c.list_all.new.list ≡ sets c.args.list.now 0 (nearest_pairs c.args.sought.n c.args.sought.m c.args.rows.now c.args.sought.i) = c.list_all.ensures.1 ∙ ap₂ (λ (old new : List ℕ). sets old 0 new) same_list (pairs_all c.requires.0.known) in
    let a = c.args in
    let old = a.list.now in
    let pairs = nearest_pairs a.sought.n a.sought.m a.rows.now a.sought.i in
    let room = ap length same_list in
    let e = c.list_all-count.ensures in
    let e2 = c.list_all.ensures in
    let h = long_enough c.requires.0.known counted (length old) (omega (arith, c.if-list-count.false, room)) in (
      record {
        reply = ap (λ (k : ℕ). figures (k ∷ [])) counted ∙ reply_accepted h _;
        content = written_first pairs old _ (omega (arith, counted, c.if-list-count.false, room)) written ∙ after_accepted h _ old;
      },
      e2.2 ∙ e.2,
      e2.3 ∙ e.3,
      e2.4 ∙ e.4,
    )
