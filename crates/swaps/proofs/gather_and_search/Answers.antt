use Rattle.swaps.proofs.Gathering.{count_is, witness_nearest}
use Rattle.swaps.proofs.gather_and_search.Goals as goal

pub gather_pairs-requires : goal.gather_pairs-requires
gather_pairs-requires c =
    let a = c.args in
    (c.requires.0, c.spectra-fixed.ensures, c.requires.1, witness_nearest a.n a.m a.rows.now c.requires.0 c.requires.2)

pub search-requires : goal.search-requires
search-requires c =
    let a = c.args in (
      record { box = c.requires.0; few = c.requires.1; figure_is = count_is a.n a.m a.rows.now c.requires.2; gathered = c.gather_pairs.ensures },
      c.spectra-fixed.ensures,
      (witness_nearest a.n a.m a.rows.now c.requires.0 c.requires.2).mask,
    )
