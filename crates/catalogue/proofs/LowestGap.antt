-- The gap that a file is put into is the lowest: its bytes are free, and so many free bytes lie nowhere lower. Assumes nothing.
use Rattle.std.specs.Prelude.{Ok}
use Prim.Native.Nat.{ℕ, zero, suc, ◌+◌, ◌-◌, ◌≤◌, ◌<◌}
use mathlib.Core.Path.{◌≡◌, refl, sym, ap, ◌∙◌, subst}
use mathlib.Core.Bool.{Bool, true, false}
use mathlib.Core.List.{List, [], ◌∷◌, ◌++◌}
use native.Mathlib.Nat.{le_refl, le_trans, not-suc-le-zero, le_of_suc-le-suc, zero-lt-suc}
use native.Mathlib.Omega.{arith}
use borrow.Author.Tests.{leb-true, leb-false, lt-ltb}
use lib.Dec.{leb}
use lib.ListN.{length, get_or, take, drop, length-drop}
use lib.Seq.{get_or-drop}
use Rattle.refusals.specs.Table.{first}
use Rattle.refusals.proofs.Checks.{found, skip, end, is_accepted_lem}
use Rattle.catalogue.specs.declared.Gap.{Gap}
use Rattle.catalogue.specs.Format.{Item, accepted, count, place_at, records, valid}
use Rattle.catalogue.specs.Calls.{index_checks, no_item, record_at, removed, lowest, gap_for}
use Rattle.catalogue.specs.Rules.{InRecord}
use Rattle.catalogue.specs.Statements.{LieInOrder, Free}
use Rattle.catalogue.proofs.Built.{records_fit, length_records}
use Rattle.catalogue.proofs.Bodies.{ends}
use Rattle.catalogue.proofs.Indexed.{Indexed, indexed, lies}
use Rattle.catalogue.proofs.Adding.{Accepts, gap_found, gap_room}
use Rattle.catalogue.proofs.Leaving.{accepted_some, cut_at, fits_cut, leaves_removed, length_removed}
use Rattle.catalogue.proofs.GapSearch.{starts}
use Rattle.std.proofs.Common.{Option, Some, None}

-- where the record of an index begins and ends, in a list of records
abbrev begin : List Item → ℕ → ℕ
begin rs k = (get_or rs k no_item).start

abbrev past : List Item → ℕ → ℕ
past rs k = (get_or rs k no_item).start + length (get_or rs k no_item).bytes

-- so many bytes from p on are in none of these records
abbrev Clear : ℕ → ℕ → List Item → Type 0
Clear p need rs = (k i : ℕ) → k < length rs → begin rs k ≤ i → i < past rs k → p ≤ i → i < p + need → ⊥

-- a gap that starts at p or lower
abbrev pub Reaches : ℕ → Option Gap → Type 0
Reaches p (Some gap) = gap.start ≤ p
Reaches p None = ⊥

some_bytes : (bytes : List ℕ) → accepted bytes ≡ true → 0 < length bytes
unfolding accepted
some_bytes bytes h = accepted_some bytes (is_accepted_lem _ h)

-- a record that begins before the end of free bytes, and does not end before them, would share a byte with them
crossing : (start size p need : ℕ) → 0 < size → 0 < need → start < p + need → ((i : ℕ) → start ≤ i → i < start + size → p ≤ i → i < p + need → ⊥) → start + size ≤ p
crossing start size p need s n before out = by (leb (start + size) p) refl (leb start p) refl
  where
    by : (t : Bool) → leb (start + size) p ≡ t → (u : Bool) → leb start p ≡ u → start + size ≤ p
    by true e u f = leb-true (start + size) p e
    by false e true f = absurd (out p (leb-true start p f) (leb-false (start + size) p e) (le_refl p) (omega arith))
    by false e false f = let l = leb-false start p f in absurd (out start (le_refl start) (omega arith) (omega arith) before)

-- the search stops no later than at free bytes
reaches : (need size k pos p : ℕ) (rs : List Item) → 0 < need → LieInOrder pos size rs → pos ≤ p → p + need ≤ size → Clear p need rs → Reaches p (lowest need size k pos rs)
unfolding lowest
reaches need size k pos p [] n f low inside out = by (leb (pos + need) size) refl
  where
    by : (t : Bool) → leb (pos + need) size ≡ t → Reaches p (elim t [ true ↦ starts k pos | false ↦ None ])
    by true e = low
    by false e = let l = leb-false (pos + need) size e in omega arith
reaches need size k pos p (r ∷ rs) n f low inside out =
    by (λ l. reaches need size (k + 1) (r.start + length r.bytes) p rs n f.2 l inside (λ j i m. out (suc j) i (omega arith))) (leb (pos + need) r.start) refl
  where
    by : (r.start + length r.bytes ≤ p → Reaches p (lowest need size (k + 1) (r.start + length r.bytes) rs))
        → (t : Bool) → leb (pos + need) r.start ≡ t → Reaches p (elim t [ true ↦ starts k pos | false ↦ lowest need size (k + 1) (r.start + length r.bytes) rs ])
    by rec true e = low
    by rec false e =
        let l = leb-false (pos + need) r.start e in
        rec (crossing r.start (length r.bytes) p need (some_bytes r.bytes f.1) n (omega arith) (λ i. out 0 i (zero-lt-suc _)))

-- records that fit, by index: none begins before the first position, and those before an index end where it lies
fits_begin : (pos size : ℕ) (rs : List Item) → LieInOrder pos size rs → (k : ℕ) → k < length rs → pos ≤ begin rs k
fits_begin pos size [] f k l = absurd (not-suc-le-zero l)
fits_begin pos size (r ∷ rs) f zero l = f.0
fits_begin pos size (r ∷ rs) f (suc k) l = omega (arith, f.0, fits_begin (r.start + length r.bytes) size rs f.2 k (le_of_suc-le-suc l))

ends_past : (pos size n : ℕ) (rs : List Item) → LieInOrder pos size rs → pos ≤ ends pos (take n rs)
unfolding ends
ends_past pos size zero rs f = le_refl pos
ends_past pos size (suc n) [] f = le_refl pos
ends_past pos size (suc n) (r ∷ rs) f = omega (arith, f.0, ends_past (r.start + length r.bytes) size n rs f.2)

fits_past : (pos size n : ℕ) (rs : List Item) → LieInOrder pos size rs → (k : ℕ) → k < n → k < length rs → past rs k ≤ ends pos (take n rs)
unfolding ends
fits_past pos size n [] f k m l = absurd (not-suc-le-zero l)
fits_past pos size zero (r ∷ rs) f k m l = absurd (not-suc-le-zero m)
fits_past pos size (suc n) (r ∷ rs) f zero m l = ends_past (r.start + length r.bytes) size n rs f.2
fits_past pos size (suc n) (r ∷ rs) f (suc k) m l = fits_past (r.start + length r.bytes) size n rs f.2 k (le_of_suc-le-suc m) (le_of_suc-le-suc l)

-- a record of a list that fits begins at the first position or later, and its bytes are in none of the others
fits_until : (pos size : ℕ) (ps ss : List Item) (r : Item) → LieInOrder pos size (ps ++ (r ∷ ss)) → pos ≤ r.start
fits_until pos size [] ss r f = f.0
fits_until pos size (p ∷ ps) ss r f = omega (arith, f.0, fits_until (p.start + length p.bytes) size ps ss r f.2)

clear_without : (pos size : ℕ) (ps ss : List Item) (r : Item) → LieInOrder pos size (ps ++ (r ∷ ss)) → Clear r.start (length r.bytes) (ps ++ ss)
clear_without pos size [] ss r f k i l x y low high = omega (arith, fits_begin (r.start + length r.bytes) size ss f.2 k l)
clear_without pos size (p ∷ ps) ss r f zero i l x y low high = omega (arith, fits_until (p.start + length p.bytes) size ps ss r f.2)
clear_without pos size (p ∷ ps) ss r f (suc k) i l x y low high =
    clear_without (p.start + length p.bytes) size ps ss r f.2 k i (le_of_suc-le-suc l) x y low high

module _ (b : List ℕ) (whole : valid b ≡ true) where
  known : (k : ℕ) → k < count b → Indexed b k
  unfolding index_checks
  known k l = indexed b k (sym (found (skip whole (skip (lt-ltb k (count b) l) end))))

  -- a record of the directory is that of the list
  same_place : (k : ℕ) → k < count b → ((place_at b k).offset ≡ begin (records b) k) × ((place_at b k).size ≡ length (get_or (records b) k no_item).bytes)
  unfolding record_at
  same_place k l = let t = lies b k (place_at b k).offset (place_at b k).size (known k l) refl refl in (t.0, t.1)

  free_clear : (p need : ℕ) → Free b p need → Clear p need (records b)
  free_clear p need f k i l x y =
      let m : k < count b = omega (arith, length_records b) in
      let t = same_place k m in
      f.none k i m (omega (arith, t.0), omega (arith, t.0, t.1))

  clear_free : (p need : ℕ) → 258 ≤ p → p + need ≤ length b → Clear p need (records b) → Free b p need
  clear_free p need low inside out = record {
    above = low;
    inside = inside;
    none = λ k i l w. let t = same_place k l in out k i (omega (arith, length_records b)) (omega (arith, w.0, t.0)) (omega (arith, w.1, t.0, t.1));
  }

  -- free bytes are reached by the search
  pub free_reached : (file : List ℕ) (p : ℕ) → 0 < length file → Free b p (length file) → Reaches p (gap_for b file)
  unfolding gap_for
  free_reached file p n f = reaches (length file) (length b) 0 258 p (records b) n (records_fit b whole) f.above f.inside (free_clear p (length file) f)

-- and where it stops, the bytes are free
pub gap_free : (b file : List ℕ) (t : Accepts b file) → Free b t.start (length file)
gap_free b file t =
    let g = gap_found b file t.whole t.gap in
    let rs = records b in
    let fit = records_fit b t.whole in
    let low : 258 ≤ t.start = le_trans (ends_past 258 (length b) g.before rs fit) (omega (arith, g.begins)) in
    record { above = low; inside = gap_room b file t.whole t.gap; none = out }
  where
    out : (k i : ℕ) → k < count b → InRecord b k i → t.start ≤ i → i < t.start + length file → ⊥
    out k i l w x y = by (leb (suc k) (gap_found b file t.whole t.gap).before) refl
      where
        by : (u : Bool) → leb (suc k) (gap_found b file t.whole t.gap).before ≡ u → ⊥
        by true e =
            let g = gap_found b file t.whole t.gap in
            let s = same_place b t.whole k l in
            let m : k < length (records b) = omega (arith, length_records b) in
            omega (arith, w.1, s.0, s.1, g.begins, fits_past 258 (length b) g.before (records b) (records_fit b t.whole) k (leb-true _ _ e) m)
        by false e =
            let g = gap_found b file t.whole t.gap in
            let s = same_place b t.whole k l in
            let j = k - g.before in
            let m = leb-false (suc k) g.before e in
            let n : j < length (drop g.before (records b)) = omega (arith, length-drop g.before (records b), length_records b) in
            let back : g.before + j ≡ k = omega arith in
            let same : begin (drop g.before (records b)) j ≡ begin (records b) k =
            ap (λ (r : Item). r.start) (get_or-drop g.before (records b) j no_item ∙ ap (λ (a : ℕ). get_or (records b) a no_item) back) in
            omega (arith, w.0, s.0, same, fits_begin (t.start + length file) (length b) (drop g.before (records b)) g.room j n)

-- Where a record is removed its bytes are free.
pub removed_free : (b : List ℕ) (index : ℕ) → first (index_checks b index) ≡ (Ok tt)
    → Free (removed b index) (record_at b index).start (length (record_at b index).bytes)
removed_free b index h =
    let i = indexed b index h in
    let x = cut_at b index i.below in
    let r = record_at b index in
    let fits = fits_cut b i.whole index x in
    let left = leaves_removed b i.whole index x in
    let l = lies b index (place_at b index).offset (place_at b index).size i refl refl in
    clear_free (removed b index) left.whole r.start (length r.bytes)
    (fits_until 258 (length b) x.before x.behind r fits)
    (omega (arith, length_removed b i.whole index x, i.inside, l.0, l.1))
    (subst (Clear r.start (length r.bytes)) (sym (left.holds ∙ x.rest)) (clear_without 258 (length b) x.before x.behind r fits))

-- Fewer bytes are free where more are.
pub free_fewer : {b : List ℕ} {p need fewer : ℕ} → fewer ≤ need → Free b p need → Free b p fewer
free_fewer {b} {p} {need} {fewer} le f =
    record { above = f.above; inside = omega (arith, f.inside); none = λ k i l w x y. f.none k i l w x (omega arith) }
