use Rattle.std.proofs.Common.{◌≡◌, ℕ, ◌/◌, ◌≤◌, Bool, true, false, not, length, refl, sym, ap, ◌∙◌, arith}
use Rattle.std.proofs.lemmas.Bool.{false≢true}
use lib.Count.{ones-le}
use Rattle.std.proofs.Math.Pow.{pow_pos}
use borrow.Author.Tests.{le-ltb}
use Rattle.avalanche.specs.Work.{change_candidate}
use Rattle.avalanche.proofs.Widest.{values_length, beaten}
use Rattle.avalanche.proofs.is_beaten.Goals as goal

unless : (t : Bool) → not t ≡ true → t ≡ false
unless true z = absurd (false≢true z)
unless false z = refl

pub largest_from_one-requires : goal.largest_from_one-requires
largest_from_one-requires c =
    let a = c.args in
    let size = values_length a.n a.rows.now a.c a.j c.requires.values_are in
    (omega (arith, size, pow_pos a.n), omega (arith, size, c.requires.box.size, c.requires.box.small))

pub returns : goal.returns
returns c =
    let a = c.args in
    let size = values_length a.n a.rows.now a.c a.j c.requires.values_are in
    let short : length a.values.now ≤ 256 = omega (arith, size, c.requires.box.size, c.requires.box.small) in (
      (λ z. beaten a.n a.rows.now a.c a.j c.requires.values_are
          (λ t w. c.largest_from_one.ensures.0.bounds t (record { low = w.low; high = w.high; few = ones-le 8 t (omega (arith, w.high, short)) }))
          c.requires.box.n_low c.requires.j_low (ap (λ (k : ℕ). c.largest_from_one.result / k) c.requires.box.size) (change_candidate a.found)
          (sym c.is_preferred.ensures ∙ unless c.is_preferred.result z)),
      simp (le-ltb (length a.list.now) (length a.values.now / 2) c.if-list-values.false, c.is_preferred.ensures, c.largest_from_one.ensures.1),
    )
