use Rattle.std.proofs.Common.{◌≡◌, ◌≤◌, ◌++◌, rules, arith, sym, ◌∙◌, subst, List, ℕ, length, take, drop}
use Rattle.std.proofs.lemmas.List.{take_at, length-take-le}
use Rattle.boolean.specs.Functions.{swapped}
use Rattle.refusals.specs.Table.{Box}
use Rattle.refusals.proofs.Swapped.{swapped_box}
use Rattle.swaps.specs.Work.{Tried}
use Rattle.swaps.proofs.Raising.{not_apart, other_distance, this_distance}
use Rattle.swaps.proofs.try_swap.Goals as goal

pub returns-then-not-all_apart : goal.returns-then-not-all_apart
returns-then-not-all_apart c =
    let s = c.requires.0 in
    (not_apart s.box s.figure_is c.args.d c.args.low c.args.high c.requires.3 c.requires.4 c.requires.2 s.gathered (search rules), search rules)

pub returns-then-differing-d : goal.returns-then-differing-d
returns-then-differing-d c =
    let s = c.requires.0 in
    (other_distance s.box s.figure_is c.args.d c.args.low c.args.high c.requires.2 (λ e. c.if-differing-d.true (c.differing.ensures ∙ e)), search rules)

-- the rows after the swap, which take a part of their array
later_rows : (rows array out : List ℕ) (low high : ℕ) → length rows ≤ length array → length out ≡ length (take (length rows) array) → out ≡ swapped rows low high
    → take (length rows) (out ++ drop (length rows) array) ≡ swapped rows low high
later_rows rows array out low high wide long is = take_at out (drop (length rows) array) (length rows) (long ∙ length-take-le _ _ wide) ∙ is

pub reaching-requires : goal.reaching-requires
reaching-requires c =
    let s = c.requires.0 in
    let a = c.args in
    let wide : length a.rows.now ≤ length a.space.now.rows = omega (arith, s.box.small) in
    let later = later_rows a.rows.now a.space.now.rows c.write_swapped.new.out a.low a.high wide c.write_swapped.auto.out c.write_swapped.ensures in (
      record {
        box = subst (Box a.job.now.n a.job.now.m) (sym later) (swapped_box s.box a.low a.high);
        table_size = length-take-le _ _ (omega (arith, s.box.small)) ∙ s.box.size;
        out_size = length-take-le _ _ (omega (arith, s.box.small)) ∙ s.box.size;
      },
      c.requires.1,
      c.requires.2,
      s.few,
    )

pub returns : goal.returns
returns c =
    let s = c.requires.0 in
    let a = c.args in
    let wide : length a.rows.now ≤ length a.space.now.rows = omega (arith, s.box.small) in
    let later = later_rows a.rows.now a.space.now.rows c.write_swapped.new.out a.low a.high wide c.write_swapped.auto.out c.write_swapped.ensures in (
      this_distance s.box s.figure_is a.d a.low a.high (sym c.differing.ensures ∙ c.if-differing-d.false) c.reaching.result
          (subst (λ (l : List ℕ). Tried a.job.now.n a.job.now.m l a.job.now.figure c.reaching.result) later c.reaching.ensures.0),
      search rules,
    )
