-- The bytes are padded, joined to words, and gathered row after row.
use mathlib.Core.Path.{sym, ap₂, ◌∙◌, subst}
use mathlib.Core.List.{List, ◌++◌}
use Prim.Native.Nat.{ℕ, ◌/◌, ◌%◌}
use native.Mathlib.Omega.{arith}
use lib.ListN.{length, drop}
use Rattle.boolean.specs.Sums.{list_below}
use Rattle.packing.specs.Packing.{column_bytes}
use Rattle.packing.specs.Work.{bits_gathered, BytesWords, Padded}
use Rattle.packing.proofs.Arrays.{padded_by}
use Rattle.packing.proofs.Widths.{bytes_hold}
use Rattle.packing.proofs.Laws.{unpacked_from_words}
use Rattle.packing.proofs.unpack_bytes.Goals as goal

pub write_rows-requires : goal.write_rows-requires
write_rows-requires c =
    let size = c.column_bytes-size in
    (size.ensures.2, omega arith, omega (arith, c.requires.3, size.ensures.0, bytes_hold c.args.n c.requires.0.n_high))

pub returns : goal.returns
returns c =
    let a = c.args in
    let rest : List ℕ = drop (length a.bytes.now) a.padded.now in
    let words = c.join_words.new.words in
    let copied : Padded a.bytes.now (c.copy_from_slice.new.self ++ rest) =
    subst (λ (l : List ℕ). Padded a.bytes.now (l ++ rest)) (sym c.copy_from_slice.ensures.after) (padded_by a.bytes.now a.padded.now c.requires.1.none) in
    let held : BytesWords (c.copy_from_slice.new.self ++ rest) (column_bytes a.n) words =
    subst (λ (k : ℕ). BytesWords (c.copy_from_slice.new.self ++ rest) k words) c.column_bytes-size.ensures.0 c.join_words.ensures in (
      c.write_rows.ensures
          ∙ ap₂ (λ (k size : ℕ). list_below k (λ x. bits_gathered words (x / 8) size (x % 8))) c.requires.3 c.column_bytes-size.ensures.0
          ∙ unpacked_from_words a.n a.m a.bytes.now (c.copy_from_slice.new.self ++ rest) words c.requires.0 copied held,
      copied,
      held,
    )
