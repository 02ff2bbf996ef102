-- `walsh::copy_four` meets its contract: a word holds what was read of an array of words. Assumes nothing.
use mathlib.Core.Path.{◌≡◌, refl}
use Prim.Native.Nat.{◌+◌}
use native.Mathlib.Omega.{arith}
use lib.ListN.{set}
use lib.Seq.{lt-length-set}
use Rattle.boolean.specs.Functions.{value_at}
use Rattle.boolean.proofs.Words.{word}
use Rattle.walsh.proofs.Short.{narrow, widens, widened}
use Rattle.walsh.specs.Work.{with_four}
use Rattle.walsh.proofs.copy_four.Goals as goal

pub overflow_cast-a : goal.overflow_cast-a
overflow_cast-a c = widens (value_at c.args.fixed.now c.args.from) c.a-1.given

pub overflow_cast-b : goal.overflow_cast-b
overflow_cast-b c = widens (value_at c.args.fixed.now (c.args.from + 1)) c.b-1.given

pub overflow_cast-c : goal.overflow_cast-c
overflow_cast-c c = widens (value_at c.args.fixed.now (c.args.from + 2)) c.c-1.given

pub overflow_cast-d : goal.overflow_cast-d
overflow_cast-d c = widens (value_at c.args.fixed.now (c.args.from + 3)) c.d-1.given

pub bounds-out-to-2 : goal.bounds-out-to-2
bounds-out-to-2 c = lt-length-set (c.args.out.now) _ _ (omega arith)

pub bounds-out-to-3 : goal.bounds-out-to-3
bounds-out-to-3 c = lt-length-set (set (c.args.out.now) _ _) _ _ (lt-length-set (c.args.out.now) _ _ (omega arith))

pub bounds-out-to-4 : goal.bounds-out-to-4
bounds-out-to-4 c = lt-length-set (set (set (c.args.out.now) _ _) _ _) _ _ (lt-length-set (set (c.args.out.now) _ _) _ _ (lt-length-set (c.args.out.now) _ _ (omega arith)))

pub returns : goal.returns
unfolding with_four
returns c =
    let fixed = c.args.fixed.now in
    let from = c.args.from in
    let first : word (narrow (value_at fixed from)) ≡ value_at fixed from = widened _ c.a-1.given in
    let second : word (narrow (value_at fixed (from + 1))) ≡ value_at fixed (from + 1) = widened _ c.b-1.given in
    let third : word (narrow (value_at fixed (from + 2))) ≡ value_at fixed (from + 2) = widened _ c.c-1.given in
    let fourth : word (narrow (value_at fixed (from + 3))) ≡ value_at fixed (from + 3) = widened _ c.d-1.given in
    rw (first, second, third, fourth) refl
