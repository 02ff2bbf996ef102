-- The first change, where every magnitude is 0. Assumes nothing.
use mathlib.Core.Path.{◌≡◌, sym, subst}
use mathlib.Core.List.{List}
use Prim.Native.Nat.{ℕ, ◌^◌, ◌≤◌}
use native.Mathlib.Omega.{arith}
use lib.IntN.{ℤ}
use lib.ListN.{length}
use Rattle.boolean.specs.Functions.{MaskWithin}
use Rattle.boolean.proofs.Components.{first_mask}
use Rattle.avalanche.specs.Work.{LargestWithin, FirstWithin}

pub first_one : {values : List ℤ} {n j largest : ℕ} → 1 ≤ n → 1 ≤ j → length values ≡ 2 ^ n → largest ≡ 0 → LargestWithin values j largest
    → FirstWithin values j largest 1
first_one {values} {n} {j} ln lj e z top =
    let within : MaskWithin j (length values) 1 = subst (λ (k : ℕ). MaskWithin j k 1) (sym e) (first_mask n j ln lj) in
    record { within = within; has = omega (arith, top.bounds 1 within); first = λ t l w h. absurd (omega (arith, w.low)) }
