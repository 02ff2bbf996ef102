use Rattle.std.proofs.Common.{sym, ap, ◌∙◌, arith, ℕ, length, drop, ◌++◌, length-append, length-drop}
use lib.Seq.{length-take-le}
use Rattle.boolean.specs.Functions.{component}
use Rattle.boolean.specs.Sums.{list_below, AnyContent}
use Rattle.rounds.proofs.Steps.{table_begins}
use Rattle.rounds.proofs.Tops.{twice_largest}
use Rattle.rounds.proofs.size_in.Goals as goal

pub overflow_mul-result : goal.overflow_mul-result
overflow_mul-result c =
    let s = c.args.s.now in
    let b = c.requires.0 in
    let t = twice_largest s.n s.m s.rows.now c.args.c b.n_low c.next_peak-largest.ensures.0 in
    omega (arith, t.1, b.size, b.small)

pub returns : goal.returns
returns c =
    let s = c.args.s.now in
    let b = c.requires.0 in
    let t = twice_largest s.n s.m s.rows.now c.args.c b.n_low c.next_peak-largest.ensures.0 in
    let size : ℕ = length s.rows.now in
    let work = c.next_peak-largest.new.work in
    let worked : AnyContent c.args.out.now (work ++ drop size c.args.out.now) =
    omega (arith, length-append work (drop size c.args.out.now), length-drop size c.args.out.now, c.next_peak-largest.auto.work, length-take-le size c.args.out.now (omega (arith, b.size, b.small))) in (
      t.0,
      omega (arith, t.1, b.size, b.small),
      record {
        steps_are = c.requires.2.steps_are;
        table_is = table_begins s.m s.rows.now c.args.c _ _ (c.next_peak-largest.ensures.1 ∙ ap (λ k. list_below k (λ x. component s.rows.now c.args.c x)) (sym b.size));
      },
      worked,
    )
