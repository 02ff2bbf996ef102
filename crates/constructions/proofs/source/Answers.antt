-- `constructions::source` meets its contract: in the lower half x is its own source, and in the upper half the flip stays below 2^n. Assumes nothing.
use Prim.Native.Nat.{ℕ, ◌-◌, ◌^◌, ◌≤◌, ◌<◌}
use mathlib.Core.Path.{◌≡◌, sym, ap₂, ◌∙◌, subst}
use native.Mathlib.Omega.{arith}
use lib.Bits.{bit_xor}
use Rattle.constructions.proofs.Enlarging.{source_lower, source_upper, flipped_lt}
use Rattle.constructions.proofs.source.Goals as goal

pub returns-then-x-size : goal.returns-then-x-size
returns-then-x-size c =
    let a = c.args in
    (source_lower a.n a.k a.x (omega arith), omega arith)

pub returns : goal.returns
returns c =
    let flipped : bit_xor (c.args.x - c.power_of_two-size.result) c.power_of_two.result ≡ bit_xor (c.args.x - 2 ^ c.args.n) (2 ^ (c.args.k - 1)) = ap₂ (λ (s t : ℕ). bit_xor (c.args.x - s) t) c.power_of_two-size.ensures.0 c.power_of_two.ensures.0 in
    let a = c.args in
    let p = c.requires in
    let upper : 2 ^ a.n ≤ a.x = omega arith in
    (flipped ∙ source_upper a.n a.k a.x upper, subst (λ (r : ℕ). r < 2 ^ a.n) (sym flipped) (flipped_lt a.n a.k a.x p.0 upper p.1))
