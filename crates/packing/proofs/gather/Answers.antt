-- A turn adds the bits of one entry more, and all eight make the bytes.
use mathlib.Core.Path.{◌≡◌, refl, sym, ap, ◌∙◌}
use Prim.Native.Nat.{ℕ, ◌*◌, ◌^◌}
use native.Mathlib.Omega.{arith}
use native.Mathlib.Numerals.{add-one}
use Rattle.packing.specs.Work.{word_of, eight}
use Rattle.packing.proofs.Gathering.{upper, gathered_none, gathered_more, gathered_fits, gathered_lt, gathered_all}
use Rattle.packing.proofs.gather.Goals as goal

pub loop-k-init : goal.loop-k-init
loop-k-init c = gathered_none _ _

pub overflow_mul-word : goal.overflow_mul-word
overflow_mul-word c =
    omega (arith, gathered_fits (eight c.args.values.now c.args.start c.args.step) c.args.i c.loop-k.k c.loop-k.invariant refl c.requires.0 (omega arith))

pub overflow_add-word : goal.overflow_add-word
overflow_add-word c =
    omega (
      arith,
      gathered_fits (eight c.args.values.now c.args.start c.args.step) c.args.i c.loop-k.k c.loop-k.invariant c.kept.ensures c.requires.0
          (omega arith),
    )

pub loop-k-preserved : goal.loop-k-preserved
loop-k-preserved c =
    let a = c.args in
    let f = eight a.values.now a.start a.step in
    gathered_more f a.i c.loop-k.k c.loop-k.invariant c.kept.ensures ∙ ap (λ (k : ℕ). 2 ^ a.i * word_of (λ j. upper f j k) a.i) (sym (add-one c.loop-k.k))

-- past the loop all eight were gathered
all : (c : goal.After-loop-k) →
    let a = c.args in
    c.loop-k.word ≡ 2 ^ a.i * word_of (λ j. upper (eight a.values.now a.start a.step) j 8) a.i
all c =
    let a = c.args in
    let k_is : c.loop-k.k ≡ 8 = omega arith in
    c.loop-k.invariant ∙ ap (λ (k : ℕ). 2 ^ a.i * word_of (λ j. upper (eight a.values.now a.start a.step) j k) a.i) k_is

pub overflow_cast-result-2 : goal.overflow_cast-result-2
overflow_cast-result-2 c = let a = c.args in omega (arith, gathered_lt a.values.now a.start a.step a.i (all c))

pub returns : goal.returns
returns c = let a = c.args in gathered_all a.values.now a.start a.step a.i (all c)
