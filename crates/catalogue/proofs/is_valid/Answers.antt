-- Each test that was passed leaves the answer to the rest.
use mathlib.Core.Path.{◌≡◌, sym, ◌∙◌}
use mathlib.Core.Bool.{true}
use mathlib.Core.List.{List}
use Prim.Native.Nat.{ℕ, ◌≤◌}
use native.Mathlib.Omega.{arith}
use borrow.Author.Tests.{le-leb, lt-leb}
use lib.Dec.{leb}
use lib.ListN.{length}
use Rattle.refusals.specs.Table.{in_range}
use Rattle.refusals.proofs.Bounds.{range_true}
use Rattle.catalogue.specs.Format.{word_at, count, valid}
use Rattle.catalogue.proofs.Ands.{stop_at, go_on}
use Rattle.catalogue.proofs.StandingLoop.{unused_part}
use Rattle.catalogue.proofs.is_valid.Goals as goal

sized : (b : List ℕ) → 258 ≤ length b → length b ≤ 65535 → in_range 258 65535 (length b) ≡ true
sized b = range_true 258 65535 (length b)

counted : (b : List ℕ) (n : ℕ) → n ≡ word_at b 0 → n ≡ count b
unfolding count
counted b n e = e

few : (b : List ℕ) (n : ℕ) → n ≡ word_at b 0 → n ≤ 64 → leb (count b) 64 ≡ true
few b n e h = le-leb (count b) 64 (omega (arith, counted b n e))

pub returns-then-b-lt-RECORDS_START : goal.returns-then-b-lt-RECORDS_START
unfolding valid
returns-then-b-lt-RECORDS_START c = stop_at _ _ (sym (stop_at _ _ (lt-leb _ _ c.if-b-lt-RECORDS_START.true)))

pub returns-then-b-gt65535 : goal.returns-then-b-gt65535
unfolding valid
returns-then-b-gt65535 c = stop_at _ _ (sym (go_on _ _ (le-leb _ _ c.if-b-lt-RECORDS_START.false) (sym (lt-leb _ _ c.if-b-gt65535.true))))

pub returns-then-n-gt64 : goal.returns-then-n-gt64
unfolding valid
returns-then-n-gt64 c =
    let b = c.args.b.now in
    go_on _ _ (sized b c.if-b-lt-RECORDS_START.false c.if-b-gt65535.false)
    (stop_at _ _ (lt-leb (count b) 64 (omega (arith, counted b _ c.word_at-n.ensures.0, c.if-n-gt64.true))))

pub returns-then-not-values_below : goal.returns-then-not-values_below
unfolding valid
returns-then-not-values_below c =
    let b = c.args.b.now in
    go_on _ _ (sized b c.if-b-lt-RECORDS_START.false c.if-b-gt65535.false)
    (go_on _ _ (few b _ c.word_at-n.ensures.0 c.if-n-gt64.false)
    (stop_at _ _ (sym (unused_part _ _ _ (counted b _ c.word_at-n.ensures.0) c.if-n-gt64.false) ∙ sym c.values_below.ensures ∙ c.if-not-values_below.true)))

pub records_stand-requires : goal.records_stand-requires
records_stand-requires c = (c.if-b-lt-RECORDS_START.false, c.if-n-gt64.false, counted _ _ c.word_at-n.ensures.0)

pub returns : goal.returns
unfolding valid
returns c =
    let b = c.args.b.now in
    go_on _ _ (sized b c.if-b-lt-RECORDS_START.false c.if-b-gt65535.false)
    (go_on _ _ (few b _ c.word_at-n.ensures.0 c.if-n-gt64.false)
    (go_on _ _ (sym (unused_part _ _ _ (counted b _ c.word_at-n.ensures.0) c.if-n-gt64.false) ∙ sym c.values_below.ensures ∙ c.if-not-values_below.false) c.records_stand.ensures))
