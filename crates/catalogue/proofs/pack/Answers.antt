-- A record more moves down, and its place names where it is then.
use Prim.Native.Nat.{ℕ, ◌+◌, ◌*◌, ◌≤◌}
use mathlib.Core.Path.{◌≡◌, ap, ◌∙◌}
use mathlib.Core.Bool.{true}
use mathlib.Core.List.{List}
use native.Mathlib.Omega.{arith}
use lib.Seq.{sets}
use Rattle.catalogue.specs.declared.Place.{Place}
use Rattle.catalogue.specs.Format.{word, count, valid}
use Rattle.catalogue.proofs.Built.{valid_says}
use Rattle.catalogue.proofs.Packing.{packing_start, packing_length, packing_ready, packing_step, packing_done}
use Rattle.catalogue.proofs.pack.Goals as goal

few : (b : List ℕ) (n : ℕ) → valid b ≡ true → n ≡ count b → n ≤ 64
few b n h e = omega (arith, (valid_says b h).most)

pub loop-k-init : goal.loop-k-init
loop-k-init c = packing_start _ _ (λ i. omega (arith, c.type_inv.b i)) c.requires.0 c.requires.1

pub place_at-place-requires : goal.place_at-place-requires
place_at-place-requires c =
    let most = few _ _ c.requires.0 c.requires.1 in
    omega (arith, most, packing_length c.loop-k.invariant most, (valid_says _ c.requires.0).low, c.loop-k-test.true)

pub overflow_sub-place : goal.overflow_sub-place
overflow_sub-place c =
    let offset = ap (λ (p : Place). p.offset) c.place_at-place.ensures.0 in
    let size = ap (λ (p : Place). p.size) c.place_at-place.ensures.0 in
    let ready = packing_ready c.loop-k.invariant c.loop-k-test.true (few _ _ c.requires.0 c.requires.1) offset size in
    omega (arith, ready.past)

pub slide_down-requires : goal.slide_down-requires
slide_down-requires c =
    let offset = ap (λ (p : Place). p.offset) c.place_at-place.ensures.0 in
    let size = ap (λ (p : Place). p.size) c.place_at-place.ensures.0 in
    let ready = packing_ready c.loop-k.invariant c.loop-k-test.true (few _ _ c.requires.0 c.requires.1) offset size in
    (omega (arith, ready.past, ready.room), ready.gap)

pub overflow_mul-k : goal.overflow_mul-k
overflow_mul-k c = omega (arith, few _ _ c.requires.0 c.requires.1, c.loop-k-test.true)

pub overflow_add-k : goal.overflow_add-k
overflow_add-k c = omega (arith, few _ _ c.requires.0 c.requires.1, c.loop-k-test.true)

pub put_word-requires : goal.put_word-requires
put_word-requires c =
    let most = few _ _ c.requires.0 c.requires.1 in
    let offset = ap (λ (p : Place). p.offset) c.place_at-place.ensures.0 in
    let size = ap (λ (p : Place). p.size) c.place_at-place.ensures.0 in
    let ready = packing_ready c.loop-k.invariant c.loop-k-test.true most offset size in (
      omega (arith, most, packing_length c.loop-k.invariant most, (valid_says _ c.requires.0).low, c.loop-k-test.true, c.slide_down.auto.b),
      omega (arith, ready.past, c.place_at-place.ensures.1),
    )

pub overflow_add-to : goal.overflow_add-to
overflow_add-to c =
    let offset = ap (λ (p : Place). p.offset) c.place_at-place.ensures.0 in
    let size = ap (λ (p : Place). p.size) c.place_at-place.ensures.0 in
    let ready = packing_ready c.loop-k.invariant c.loop-k-test.true (few _ _ c.requires.0 c.requires.1) offset size in
    omega (arith, ready.past, c.place_at-place.ensures.1, c.place_at-place.ensures.2)

pub loop-k-preserved : goal.loop-k-preserved
loop-k-preserved c =
    let offset = ap (λ (p : Place). p.offset) c.place_at-place.ensures.0 in
    let size = ap (λ (p : Place). p.size) c.place_at-place.ensures.0 in
    packing_step c.loop-k.invariant c.loop-k-test.true (few _ _ c.requires.0 c.requires.1) offset size _
    (c.put_word.ensures ∙ ap (λ (x : List ℕ). sets x (4 * c.loop-k.k + 2) (word c.loop-k.to)) c.slide_down.ensures)

pub returns : goal.returns
returns c = packing_done c.loop-k.invariant c.loop-k-test.false
