-- The two bytes stand in the part that is written.
use mathlib.Core.Path.{◌≡◌, sym, ap, ◌∙◌}
use mathlib.Core.List.{[], ◌∷◌}
use Prim.Native.Nat.{ℕ, ◌+◌, ◌-◌, ◌/◌, ◌%◌}
use native.Mathlib.Omega.{arith}
use lib.ListN.{length}
use lib.Seq.{sets}
use Rattle.boxfile.proofs.Parts.{written_part}
use Rattle.catalogue.specs.Format.{word}
use Rattle.catalogue.proofs.put_word.Goals as goal

pub returns : goal.returns
unfolding word
returns c =
    let a = c.args in
    let high : a.v / 256 % 256 ≡ a.v / 256 = omega (arith, c.requires.1) in
    let is = c.copy_from_slice.ensures.after ∙ c.to_le_bytes.ensures ∙ ap (λ (h : ℕ). a.v % 256 ∷ h ∷ []) high in
    let k : a.i + 2 - a.i ≡ 2 = omega arith in
    written_part a.i (a.i + 2 - a.i) a.b.now _ (ap length is ∙ sym k) (omega (arith, c.requires.0)) ∙ ap (sets a.b.now a.i) is
