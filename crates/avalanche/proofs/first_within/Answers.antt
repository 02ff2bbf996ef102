use Rattle.std.proofs.Common.{ℕ, sym, subst, arith}
use Rattle.std.proofs.Math.Pow.{pow_mono}
use Rattle.avalanche.specs.Work.{Listed}
use Rattle.avalanche.proofs.Scans.{largest_anywhere, first_anywhere}
use Rattle.avalanche.proofs.Listing.{first_listed_within}
use Rattle.avalanche.proofs.first_within.Goals as goal

pub first_from_one-requires : goal.first_from_one-requires
first_from_one-requires c =
    let short = pow_mono {i = c.args.n} {j = 8} c.requires.0 in
    (omega (arith, c.requires.1), largest_anywhere c.args.values.now c.requires.1 c.if-n-j.true c.requires.0 c.requires.3, c.requires.4)

pub returns-then-n-j : goal.returns-then-n-j
returns-then-n-j c = first_anywhere c.args.values.now c.requires.1 c.requires.0 c.if-n-j.true c.first_from_one.ensures

pub returns-else-n-j : goal.returns-else-n-j
returns-else-n-j c =
    let listed = subst (λ (k : ℕ). Listed c.args.j k c.args.list.now) (sym c.requires.1) (c.requires.2 c.if-n-j.false) in
    first_listed_within c.args.values.now listed c.first_listed.ensures
