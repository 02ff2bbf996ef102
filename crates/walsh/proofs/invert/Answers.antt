-- `walsh::invert` meets its contract: the transform of the values decides whether a function has them, and its signs are the function.
use Prim.Native.Nat.{ℕ, ◌-◌, ◌^◌}
use mathlib.Core.Bool.{Bool}
use mathlib.Core.List.{List}
use mathlib.Core.Path.{◌≡◌, sym, ap, subst, ◌∙◌}
use lib.Dec.{eqb}
use lib.IntN.{ℤ, nat_abs}
use lib.ListN.{length}
use Rattle.boolean.specs.Sums.{every, list_below}
use Rattle.boolean.specs.Functions.{value_at, transform, sign_bit, is_spectrum}
use Rattle.refusals.proofs.Outcomes.{wrote_refused, wrote_accepted}
use Rattle.walsh.specs.Work.{Summable, Invertible}
use Rattle.walsh.proofs.Inverting.{no_function_found, function_found, full_test, signs_are, summable}
use Rattle.walsh.proofs.invert.Goals as goal

pub transform-requires : goal.transform-requires
transform-requires c = subst (Summable c.args.n) (sym c.copy_from_slice.ensures.after) (summable c.args.n c.args.values.now c.args.work.now c.args.table.now c.requires)

-- the test of the transform, whose values are those of a copy, is whether a function has the values
decided : (n power : ℕ) (values copied moved work : List ℤ) (table : List ℕ) (full : Bool) → Invertible n values work table → copied ≡ values
    → moved ≡ list_below (2 ^ n) (λ x. transform n (value_at copied) x) → power ≡ 2 ^ (n - 1)
    → full ≡ every (λ v. eqb (nat_abs v) power) moved → full ≡ is_spectrum n values
decided n power values copied moved work table full q e m p f =
    f ∙ ap (every (λ v. eqb (nat_abs v) power)) (m ∙ ap (λ (l : List ℤ). list_below (2 ^ n) (λ x. transform n (value_at l) x)) e)
    ∙ full_test n values q.low q.size power p

pub returns-then-not-all_full-clause-inverted : goal.returns-then-not-all_full-clause-inverted
returns-then-not-all_full-clause-inverted c =
    wrote_refused
    (no_function_found c.args.n c.args.values.now
    (sym (decided _ _ _ _ _ _ _ _ c.requires c.copy_from_slice.ensures.after c.transform.ensures c.power_of_two.ensures.0 c.all_full.ensures) ∙ c.if-not-all_full.true))

pub returns-clause-inverted : goal.returns-clause-inverted
returns-clause-inverted c =
    let n = c.args.n in
    let moved = c.transform.ensures ∙ ap (λ (l : List ℤ). list_below (2 ^ n) (λ x. transform n (value_at l) x)) c.copy_from_slice.ensures.after in
    wrote_accepted
    (function_found n c.args.values.now
    (sym (decided _ _ _ _ _ _ _ _ c.requires c.copy_from_slice.ensures.after c.transform.ensures c.power_of_two.ensures.0 c.all_full.ensures) ∙ c.if-not-all_full.false))
    (c.write_signs.ensures ∙ ap (λ (l : List ℤ). list_below (length l) (λ x. sign_bit (value_at l x))) moved
    ∙ signs_are n c.args.values.now c.requires.low c.requires.size)
