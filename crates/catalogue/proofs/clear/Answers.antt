-- The zeros stand in the part that is written.
use mathlib.Core.Path.{◌≡◌, sym, ap, ◌∙◌}
use Prim.Native.Nat.{ℕ, ◌+◌, ◌-◌}
use native.Mathlib.Omega.{arith}
use lib.ListN.{length, replicate, length-replicate}
use lib.Seq.{sets}
use Rattle.boxfile.proofs.Parts.{written_part}
use Rattle.catalogue.proofs.Built.{length_part}
use Rattle.catalogue.proofs.clear.Goals as goal

pub returns : goal.returns
returns c =
    let a = c.args in
    let k : a.start + a.size - a.start ≡ a.size = omega arith in
    let is = c.fill.ensures.after (λ y h. h) ∙ ap (λ (n : ℕ). replicate n 0) (length_part a.start (a.start + a.size - a.start) a.b.now (omega (arith, c.requires)) ∙ k) in
    written_part a.start (a.start + a.size - a.start) a.b.now _ (ap length is ∙ length-replicate a.size 0 ∙ sym k) (omega (arith, c.requires))
    ∙ ap (sets a.b.now a.start) is
