-- `walsh::narrow::copy_eight` meets its contract: a word holds what was read of an array of words. Assumes nothing.
use mathlib.Core.Path.{◌≡◌, refl}
use Prim.Native.Nat.{◌+◌}
use native.Mathlib.Omega.{arith}
use lib.ListN.{length-set}
use Rattle.boolean.specs.Functions.{value_at}
use Rattle.walsh.specs.Work.{with_four}
use Rattle.walsh.proofs.Short.{narrow, narrow_told}
use Rattle.walsh.proofs.narrow.copy_eight.Goals as goal

pub bounds-out-4 : goal.bounds-out-4
bounds-out-4 c = simp length-set (omega arith)

pub bounds-out-5 : goal.bounds-out-5
bounds-out-5 c = simp length-set (omega arith)

pub bounds-out-6 : goal.bounds-out-6
bounds-out-6 c = simp length-set (omega arith)

pub bounds-out-7 : goal.bounds-out-7
bounds-out-7 c = simp length-set (omega arith)

pub shape_of-out : goal.shape_of-out
shape_of-out c = simp length-set

pub returns : goal.returns
unfolding with_four
returns c =
    let fixed = c.args.fixed.now in
    let from = c.args.from in
    let later = from + 4 in
    let ea : narrow (value_at fixed from) ≡ value_at fixed from = narrow_told _ c.a-1.given in
    let eb : narrow (value_at fixed (from + 1)) ≡ value_at fixed (from + 1) = narrow_told _ c.b-1.given in
    let ec : narrow (value_at fixed (from + 2)) ≡ value_at fixed (from + 2) = narrow_told _ c.c-1.given in
    let ed : narrow (value_at fixed (from + 3)) ≡ value_at fixed (from + 3) = narrow_told _ c.d-1.given in
    let ee : narrow (value_at fixed later) ≡ value_at fixed later = narrow_told _ c.e-1.given in
    let ef : narrow (value_at fixed (later + 1)) ≡ value_at fixed (later + 1) = narrow_told _ c.f-1.given in
    let eg : narrow (value_at fixed (later + 2)) ≡ value_at fixed (later + 2) = narrow_told _ c.g-1.given in
    let eh : narrow (value_at fixed (later + 3)) ≡ value_at fixed (later + 3) = narrow_told _ c.h-1.given in
    rw (ea, eb, ec, ed, ee, ef, eg, eh) refl
