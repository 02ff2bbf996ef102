-- The rows are padded, gathered to words, and written byte after byte.
use mathlib.Core.Path.{sym, ap, ◌∙◌, subst}
use mathlib.Core.List.{List, ◌++◌}
use Prim.Native.Nat.{ℕ, ◌*◌}
use lib.ListN.{length, drop}
use Rattle.boolean.specs.Sums.{list_below}
use Rattle.packing.specs.Packing.{column_bytes}
use Rattle.packing.specs.Work.{GatheredWords, Padded, word_byte}
use Rattle.packing.proofs.Arrays.{padded_by}
use Rattle.packing.proofs.Laws.{packed_from_words}
use Rattle.packing.proofs.pack_rows.Goals as goal

pub returns : goal.returns
returns c =
    let a = c.args in
    let rest : List ℕ = drop (length a.rows.now) a.padded.now in
    let words = c.gather_words.new.words in
    let copied : Padded a.rows.now (c.copy_from_slice.new.self ++ rest) =
    subst (λ (l : List ℕ). Padded a.rows.now (l ++ rest)) (sym c.copy_from_slice.ensures.after) (padded_by a.rows.now a.padded.now c.requires.1.none) in
    let held : GatheredWords (c.copy_from_slice.new.self ++ rest) (column_bytes a.n) words =
    subst (λ (k : ℕ). GatheredWords (c.copy_from_slice.new.self ++ rest) k words) c.column_bytes-size.ensures.0 c.gather_words.ensures in (
      c.write_columns.ensures ∙ ap (λ (k : ℕ). list_below (a.m * k) (word_byte words k)) c.column_bytes-size.ensures.0
          ∙ packed_from_words a.n a.m a.rows.now (c.copy_from_slice.new.self ++ rest) words c.requires.0.m_high copied held,
      copied,
      held,
    )
