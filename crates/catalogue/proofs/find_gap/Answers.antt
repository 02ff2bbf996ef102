-- The gap before the next record is long enough, or the search goes on behind that record.
use Prim.Native.Nat.{ℕ}
use mathlib.Core.Path.{◌≡◌, ap, ◌∙◌}
use native.Mathlib.Omega.{arith}
use Rattle.catalogue.specs.declared.Place.{Place}
use Rattle.catalogue.proofs.Built.{valid_says}
use Rattle.catalogue.proofs.GapSearch.{starts, search_start, search_past, search_found, search_next, search_last, search_nowhere}
use Rattle.catalogue.proofs.find_gap.Goals as goal

pub loop-index-init : goal.loop-index-init
loop-index-init c = search_start _ _ _ c.requires.0 c.requires.1

pub place_at-place-requires : goal.place_at-place-requires
place_at-place-requires c =
    let v = valid_says _ c.requires.0 in
    omega (arith, v.low, v.most, c.requires.1, c.loop-index-test.true)

pub overflow_sub-place : goal.overflow_sub-place
overflow_sub-place c =
    let offset = ap (λ (p : Place). p.offset) c.place_at-place.ensures.0 in
    omega (arith, offset, search_past c.loop-index.invariant c.loop-index-test.true)

pub returns-then-need-place : goal.returns-then-need-place
returns-then-need-place c =
    let offset = ap (λ (p : Place). p.offset) c.place_at-place.ensures.0 in
    let past = search_past c.loop-index.invariant c.loop-index-test.true in
    search_found c.loop-index.invariant c.loop-index-test.true (omega (arith, offset, past, c.if-need-place.true))

pub loop-index-preserved : goal.loop-index-preserved
loop-index-preserved c =
    let offset = ap (λ (p : Place). p.offset) c.place_at-place.ensures.0 in
    let size = ap (λ (p : Place). p.size) c.place_at-place.ensures.0 in
    let past = search_past c.loop-index.invariant c.loop-index-test.true in
    search_next c.loop-index.invariant c.loop-index-test.true offset size (omega (arith, offset, past, c.if-need-place.false))

pub returns-then-need-b : goal.returns-then-need-b
returns-then-need-b c =
    let last : c.args.n ≡ c.loop-index.index = omega (arith, c.loop-index.invariant.inside, c.loop-index-test.false) in
    ap (λ (k : ℕ). starts k c.loop-index.start) last
    ∙ search_last c.loop-index.invariant c.loop-index-test.false (omega (arith, c.loop-index.invariant.reach, c.if-need-b.true))

pub returns : goal.returns
returns c = search_nowhere c.loop-index.invariant c.loop-index-test.false (omega (arith, c.loop-index.invariant.reach, c.if-need-b.false))
