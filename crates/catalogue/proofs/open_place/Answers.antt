-- The places from k on move up, the new one is written, and the count is one more.
use mathlib.Core.Path.{◌≡◌, ap, ◌∙◌}
use mathlib.Core.List.{List}
use Prim.Native.Nat.{ℕ, ◌+◌, ◌*◌, ◌-◌}
use native.Mathlib.Omega.{arith}
use lib.Seq.{sets}
use Rattle.catalogue.specs.Format.{part, word}
use Rattle.catalogue.specs.Work.{opened}
use Rattle.catalogue.proofs.open_place.Goals as goal

pub slide_up-requires : goal.slide_up-requires
slide_up-requires c =
    let a = c.args in
    let e : 4 * a.k + 2 + 4 * (a.n - a.k) ≡ 4 * a.n + 2 = omega (arith, c.requires.0) in
    (omega arith, omega (arith, c.requires.0, c.requires.1, c.requires.2), ap (λ (i : ℕ). part i 4 a.b.now) e ∙ c.requires.5)

pub returns : goal.returns
unfolding opened
returns c =
    let a = c.args in
    c.put_word-3.ensures
    ∙ ap (λ (l : List ℕ). sets l 0 (word (a.n + 1)))
    (c.put_word-2.ensures ∙ ap (λ (l : List ℕ). sets l (4 * a.k + 4) (word a.size))
    (c.put_word.ensures ∙ ap (λ (l : List ℕ). sets l (4 * a.k + 2) (word a.offset)) c.slide_up.ensures))
