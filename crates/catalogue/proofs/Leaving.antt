-- What the writing calls leave: records that fit, so that the buffer is a valid catalogue with them. Assumes nothing.
use Rattle.std.specs.Prelude.{Ok}
use Prim.Native.Nat.{ℕ, suc, ◌+◌, ◌≤◌, ◌<◌}
use mathlib.Core.Path.{◌≡◌, refl, sym, ap, ◌∙◌, subst}
use mathlib.Core.Bool.{Bool, true, false}
use mathlib.Core.List.{List, [], ◌∷◌, ◌++◌, map}
use native.Mathlib.Nat.{le_refl}
use native.Mathlib.Numerals.{add-one}
use native.Mathlib.Omega.{arith}
use borrow.Author.Tests.{leb-true, lt-leb}
use lib.Dec.{leb}
use lib.ListN.{length, take, drop, length-append, take-append-drop}
use lib.Seq.{split_at}
use Rattle.refusals.specs.Table.{is_accepted}
use Rattle.refusals.proofs.Checks.{passed}
use Rattle.boxfile.specs.File.{file_checks, alone_checks, file_found}
use Rattle.catalogue.specs.declared.Gap.{Gap}
use Rattle.catalogue.specs.Format.{Item, accepted, count, records, valid, build}
use Rattle.catalogue.specs.Calls.{no_item, record_at, without, lowest, gap_for, is_gap, added_at, without_gaps, removed, added, compacted}
use Rattle.catalogue.specs.Statements.{LieInOrder, Holds, bytes_taken}
use Rattle.catalogue.proofs.Built.{Valid, valid_says, records_fit, length_records, build_length, build_records, build_valid}
use Rattle.catalogue.proofs.Bodies.{ends, fits_rest, fits_join, fits_lower}
use Rattle.catalogue.proofs.Adding.{Accepts, gap_found}
use Rattle.catalogue.proofs.GapSearch.{starts}
use Rattle.std.proofs.Common.{Option, None}

-- A file that is accepted has a byte.
pub accepted_some : (file : List ℕ) → file_found file ≡ (Ok tt) → 0 < length file
unfolding file_found file_checks
accepted_some file h = let t = leb-true 2 (length file) (passed (alone_checks file) h).0 in omega arith

-- The record of an index, with those before it and those behind it, and what is left without it.
pub record Cut (b : List ℕ) (k : ℕ) : Type 0 where
  pub before : List Item
  pub behind : List Item
  pub cut : records b ≡ before ++ (record_at b k ∷ behind)
  pub rest : without k (records b) ≡ before ++ behind

pub cut_at : (b : List ℕ) (k : ℕ) → k < count b → Cut b k
unfolding record_at without
cut_at b k h =
    let rs = records b in
    record {
      before = take k rs;
      behind = drop (suc k) rs;
      cut = split_at rs k no_item (omega (arith, length_records b));
      rest = ap (λ (j : ℕ). take k rs ++ drop j rs) (add-one k);
    }

-- The records without one of them fit.
pub fits_without : (size : ℕ) (ps ss : List Item) (r : Item) → LieInOrder 258 size (ps ++ (r ∷ ss)) → LieInOrder 258 size (ps ++ ss)
fits_without size ps ss r f =
    let g = fits_rest 258 size ps (r ∷ ss) f in
    fits_join 258 size ps (r ∷ ss) ss f (fits_lower (ends 258 ps) (r.start + length r.bytes) size ss (omega (arith, g.0)) g.2)

-- Records that are packed fit where they fitted.
pub fits_without_gaps : (pos low size : ℕ) (rs : List Item) → low ≤ pos → LieInOrder pos size rs → LieInOrder low size (without_gaps low rs)
unfolding without_gaps
fits_without_gaps pos low size [] h f = omega (arith, f)
fits_without_gaps pos low size (r ∷ rs) h f = (le_refl low, f.1, fits_without_gaps (r.start + length r.bytes) (low + length r.bytes) size rs (omega (arith, f.0)) f.2)

pub length_without_gaps : (pos : ℕ) (rs : List Item) → length (without_gaps pos rs) ≡ length rs
unfolding without_gaps
length_without_gaps pos [] = refl
length_without_gaps pos (r ∷ rs) = ap suc (length_without_gaps (pos + length r.bytes) rs)

-- the files of packed records, and their order, are the same
pub without_gaps_bytes : (pos : ℕ) (rs : List Item) → map (λ (r : Item). r.bytes) (without_gaps pos rs) ≡ map (λ (r : Item). r.bytes) rs
unfolding without_gaps
without_gaps_bytes pos [] = refl
without_gaps_bytes pos (r ∷ rs) = ap (λ (l : List (List ℕ)). r.bytes ∷ l) (without_gaps_bytes (pos + length r.bytes) rs)

-- Of packed records the only gap is behind the last one.
pub lowest_without_gaps : (need size k pos : ℕ) (rs : List Item) → 0 < need → is_gap (lowest need size k pos (without_gaps pos rs)) ≡ leb (pos + bytes_taken rs + need) size
unfolding lowest without_gaps bytes_taken
lowest_without_gaps need size k pos [] h = by (leb (pos + need) size) refl
  where
    by : (t : Bool) → leb (pos + need) size ≡ t → is_gap (elim t [ true ↦ starts k pos | false ↦ None ]) ≡ leb (pos + 0 + need) size
    by true e = let z : pos + need ≡ pos + 0 + need = omega arith in sym e ∙ ap (λ (x : ℕ). leb x size) z
    by false e = let z : pos + need ≡ pos + 0 + need = omega arith in sym e ∙ ap (λ (x : ℕ). leb x size) z
lowest_without_gaps need size k pos (r ∷ rs) h =
    let n = length r.bytes in
    let none : leb (pos + need) pos ≡ false = lt-leb (pos + need) pos (omega arith) in
    let z : pos + n + bytes_taken rs + need ≡ pos + (n + bytes_taken rs) + need = omega arith in
    ap (λ (t : Bool). is_gap (elim t [ true ↦ starts k pos | false ↦ lowest need size (k + 1) (pos + n) (without_gaps (pos + n) rs) ])) none
    ∙ lowest_without_gaps need size (k + 1) (pos + n) rs h ∙ ap (λ (x : ℕ). leb x size) z

-- What is left is valid, and has the records that its equation names.
pub leaves : (size : ℕ) (rs : List Item) → length rs ≤ 64 → LieInOrder 258 size rs → size ≤ 65535 → Holds (build size rs) rs
leaves size rs few fits high = record { whole = build_valid size rs few fits high; holds = build_records size rs few fits }

module _ (b : List ℕ) (whole : valid b ≡ true) where
  v : Valid b
  v = valid_says b whole

  module _ (k : ℕ) (x : Cut b k) where
    pub fits_cut : LieInOrder 258 (length b) (x.before ++ (record_at b k ∷ x.behind))
    fits_cut = subst (LieInOrder 258 (length b)) x.cut (records_fit b whole)

    fits_rest_of : LieInOrder 258 (length b) (without k (records b))
    fits_rest_of = subst (LieInOrder 258 (length b)) (sym x.rest) (fits_without (length b) x.before x.behind (record_at b k) fits_cut)

    pub fewer_left : length (without k (records b)) < 64
    fewer_left =
        let all = length-append x.before (record_at b k ∷ x.behind) in
        let left = length-append x.before x.behind in
        omega (arith, all, left, ap length x.cut, ap length x.rest, length_records b, v.most)

    few_left : length (without k (records b)) ≤ 64
    few_left = let f = fewer_left in omega arith

    pub length_removed : length (removed b k) ≡ length b
    length_removed = build_length (length b) (without k (records b)) few_left fits_rest_of

    pub leaves_removed : Holds (removed b k) (without k (records b))
    leaves_removed = leaves (length b) (without k (records b)) few_left fits_rest_of v.high

  pub without_gaps_few : length (without_gaps 258 (records b)) ≤ 64
  without_gaps_few = omega (arith, length_without_gaps 258 (records b), length_records b, v.most)

  pub without_gaps_fit : LieInOrder 258 (length b) (without_gaps 258 (records b))
  without_gaps_fit = fits_without_gaps 258 258 (length b) (records b) (le_refl 258) (records_fit b whole)

  pub leaves_compacted : Holds (compacted b) (without_gaps 258 (records b))
  leaves_compacted = leaves (length b) (without_gaps 258 (records b)) without_gaps_few without_gaps_fit v.high

module _ (b file : List ℕ) (t : Accepts b file) where
  pub added_is_at : added_at (gap_for b file) file (records b) ≡ take t.index (records b) ++ (record { start = t.start; bytes = file } ∷ drop t.index (records b))
  added_is_at = ap (λ (g : Option Gap). added_at g file (records b)) t.gap

  pub added_fit : LieInOrder 258 (length b) (added_at (gap_for b file) file (records b))
  unfolding accepted
  added_fit =
      let g = gap_found b file t.whole t.gap in
      let rs = records b in
      let ps = take g.before rs in
      let ss = drop g.before rs in
      let r : Item = record { start = t.start; bytes = file } in
      let ji : g.before ≡ t.index = omega (arith, g.counts) in
      let join : ps ++ ss ≡ rs = take-append-drop g.before rs in
      let low : ends 258 ps ≤ t.start = omega (arith, g.begins) in
      let fits : LieInOrder 258 (length b) (ps ++ (r ∷ ss)) =
      fits_join 258 (length b) ps ss (r ∷ ss) (subst (LieInOrder 258 (length b)) (sym join) (records_fit b t.whole)) (low, ap is_accepted t.good, g.room) in
      subst (LieInOrder 258 (length b)) (sym added_is_at)
      (subst (λ (i : ℕ). LieInOrder 258 (length b) (take i rs ++ (r ∷ drop i rs))) ji fits)

  pub added_few : length (added_at (gap_for b file) file (records b)) ≤ 64
  added_few =
      let rs = records b in
      let r : Item = record { start = t.start; bytes = file } in
      let a = length-append (take t.index rs) (drop t.index rs) in
      let d = length-append (take t.index rs) (r ∷ drop t.index rs) in
      let j = ap length (take-append-drop t.index rs) in
      omega (arith, a, d, j, ap length added_is_at, length_records b, t.few)

  pub leaves_added : Holds (added b file) (added_at (gap_for b file) file (records b))
  leaves_added = leaves (length b) (added_at (gap_for b file) file (records b)) added_few added_fit (valid_says b t.whole).high
