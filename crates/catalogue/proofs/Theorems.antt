-- What a customer may rely on of a catalogue, from what a call's checks find. Assumes nothing.
use Rattle.std.specs.Prelude.{Result, Ok, Err, ⊤}
use Prim.Native.Nat.{ℕ, zero, suc, ◌+◌, ◌-◌, ◌≤◌, ◌<◌, zero-le}
use mathlib.Core.Path.{◌≡◌, refl, sym, ap, ap₂, ◌∙◌, subst}
use mathlib.Core.Bool.{Bool, true, false, ◌&&◌, true≢false}
use mathlib.Core.List.{List, [], ◌∷◌, ◌++◌, map}
use mathlib.Core.Logic.{◌⊎◌, ◌↔◌, inl, inr}
use native.Mathlib.Nat.{not-suc-le-zero, le_of_suc-le-suc}
use native.Mathlib.Omega.{arith}
use borrow.Author.Tests.{ltb-true, ltb-false, lt-ltb, leb-true, le-leb}
use lib.Dec.{leb, ltb}
use denote.Ref.{Bor}
use lib.ListN.{length, get_or, take, drop, replicate, length-append, take-append-drop, replicate-append-replicate}
use lib.Seq.{take_at, drop_at, get_or_at, length-take-le, drop-drop}
use Rattle.boolean.specs.Sums.{each}
use Rattle.boolean.specs.Functions.{at}
use Rattle.boolean.proofs.Every.{both, both_true}
use Rattle.refusals.specs.Table.{first, Box}
use Rattle.refusals.specs.declared.Refusal.{Refusal}
use Rattle.refusals.specs.declared.Refusal.TheVariants.{NoRoom}
use Rattle.refusals.proofs.Checks.{passed, found, skip, end, is_accepted_lem, after_accepted, after_refused}
use Rattle.boxfile.specs.File.{file_found, file_rows}
use Rattle.boxfile.proofs.FileRows.{box_of_file}
use Rattle.catalogue.specs.declared.Gap.{Gap}
use Rattle.catalogue.specs.Format.{Item, word, place_at, item_at, accepted, count, records, valid, directory, body, build}
use Rattle.catalogue.specs.Calls.{catalogue_checks, index_checks, no_item, record_at, PartOf, Handed, without, removed, lowest, gap_for, is_gap, gap_index}
use Rattle.catalogue.specs.Calls.{offered_checks, add_checks, added_at, added, without_gaps, compacted}
use Rattle.catalogue.specs.Statements.{AllBytes, LieInOrder, Holds, Free, gap_start, bytes_taken, room_found}
use Rattle.catalogue.proofs.Built.{built, records_fit, length_records, valid_says, build_length, build_count}
use Rattle.catalogue.proofs.Indexed.{indexed}
use Rattle.catalogue.proofs.Adding.{Accepts, accepts, offered, offered_whole, offered_good, gap_index_lem, add_full, add_nowhere, add_accepted}
use Rattle.catalogue.proofs.Leaving.{accepted_some, leaves, cut_at, fewer_left, leaves_removed, length_without_gaps, without_gaps_bytes, lowest_without_gaps}
use Rattle.catalogue.proofs.Leaving.{without_gaps_few, without_gaps_fit, leaves_compacted, added_is_at, added_fit, added_few, leaves_added}
use Rattle.catalogue.proofs.RuleByRule.{rules}
use Rattle.catalogue.proofs.LowestGap.{Reaches, free_reached, gap_free, removed_free, free_fewer}
use Rattle.std.proofs.Common.{Option, Some, None}

-- ---- Each accepted writing call leaves a valid catalogue, with exactly the records that its equation names.

-- removing keeps the others in order
pub removed_leaves : (b : List ℕ) (index : ℕ) → first (index_checks b index) ≡ (Ok tt) → Holds (removed b index) (without index (records b))
removed_leaves b index h = let i = indexed b index h in leaves_removed b i.whole index (cut_at b index i.below)

pub added_leaves : (b file : List ℕ) → first (add_checks b file) ≡ (Ok tt) → Holds (added b file) (added_at (gap_for b file) file (records b))
added_leaves b file h = leaves_added b file (accepts b file h)

pub compacted_leaves : (b : List ℕ) → first (catalogue_checks b) ≡ (Ok tt) → Holds (compacted b) (without_gaps 258 (records b))
unfolding catalogue_checks
compacted_leaves b h = leaves_compacted b (passed (catalogue_checks b) h).0

-- compaction keeps the files, and their order
pub compacted_files : (b : List ℕ) → first (catalogue_checks b) ≡ (Ok tt) → map (λ (r : Item). r.bytes) (records (compacted b)) ≡ map (λ (r : Item). r.bytes) (records b)
compacted_files b h = ap (map (λ (r : Item). r.bytes)) (compacted_leaves b h).holds ∙ without_gaps_bytes 258 (records b)

-- a buffer of zeros of an allowed length is a catalogue of no records: it is built from none
pub zeros_empty : (size : ℕ) → 258 ≤ size → size ≤ 65535 → Holds (replicate size 0) []
unfolding build directory body word each
zeros_empty size low high =
    let z : 258 + (size - 258) ≡ size = omega arith in
    subst (λ (b : List ℕ). Holds b []) (replicate-append-replicate 258 (size - 258) 0 ∙ ap (λ (n : ℕ). replicate n 0) z) (leaves size [] zero-le low high)

-- ---- Removing clears the record's bytes: they are in no record any more, and such bytes are zero.
pub removed_clears : (b : List ℕ) (index : ℕ) → first (index_checks b index) ≡ (Ok tt)
    → (i : ℕ) → (record_at b index).start ≤ i → i < (record_at b index).start + length (record_at b index).bytes → at (removed b index) i ≡ 0
removed_clears b index h i low high =
    let free = removed_free b index h in
    (rules (removed b index) (removed_leaves b index h).whole).between i (omega (arith, free.above)) (omega (arith, free.inside)) (λ k l w. free.none k i l w low high)

-- ---- The gap of a removed record serves again: an accepted file that is no longer than the record is added, and no higher than where the record lay.
pub removed_serves : (b file : List ℕ) (index : ℕ) → first (index_checks b index) ≡ (Ok tt) → file_found file ≡ (Ok tt)
    → length file ≤ length (record_at b index).bytes
    → (first (add_checks (removed b index) file) ≡ (Ok tt)) × (gap_start (gap_for (removed b index) file) ≤ (record_at b index).start)
removed_serves b file index h good short = by (gap_for (removed b index) file) refl
  where
    start : ℕ
    start = (record_at b index).start

    left : Holds (removed b index) (without index (records b))
    left = removed_leaves b index h

    reached : Reaches start (gap_for (removed b index) file)
    reached = free_reached (removed b index) left.whole file start (accepted_some file good) (free_fewer short (removed_free b index h))

    room : count (removed b index) < 64
    room =
        let i = indexed b index h in
        omega (arith, length_records (removed b index), ap length left.holds, fewer_left b i.whole index (cut_at b index i.below))

    by : (g : Option Gap) → gap_for (removed b index) file ≡ g
        → (first (add_checks (removed b index) file) ≡ (Ok tt)) × (gap_start (gap_for (removed b index) file) ≤ start)
    by (Some found) e = (
      add_accepted (removed b index) file (offered (removed b index) file left.whole good) room e,
      subst (λ (g : Option Gap). gap_start g ≤ start) (sym e) (subst (Reaches start) e reached),
    )
    by None e = absurd (subst (Reaches start) e reached)

-- ---- Fetching hands back the part of the lent catalogue that the directory's place of that index names, not a copy; refused, an empty part.
module _ (lent part : Bor (List ℕ)) (index : ℕ) (handed : Handed lent index part) where
  pub fetched_part : first (index_checks lent.now index) ≡ (Ok tt) → PartOf lent (item_at lent.now (place_at lent.now index)) part
  fetched_part h =
      subst (λ (item : Item). PartOf lent item part) (sym (after_accepted h (record_at lent.now index) no_item) ∙ (indexed lent.now index h).is) handed

  pub fetched_none : {e : Refusal} → first (index_checks lent.now index) ≡ Err e → PartOf lent no_item part
  fetched_none h = subst (λ (item : Item). PartOf lent item part) (sym (after_refused h (record_at lent.now index) no_item)) handed

-- ---- A fetched record is a box file that is accepted, and its box is one that every call takes.

fits_accepted : (pos size : ℕ) (rs : List Item) → LieInOrder pos size rs → (k : ℕ) → k < length rs → accepted (get_or rs k no_item).bytes ≡ true
fits_accepted pos size [] f k h = absurd (not-suc-le-zero h)
fits_accepted pos size (r ∷ rs) f zero h = f.1
fits_accepted pos size (r ∷ rs) f (suc k) h = fits_accepted (r.start + length r.bytes) size rs f.2 k (le_of_suc-le-suc h)

pub fetched_accepted : (b : List ℕ) (index : ℕ) → first (index_checks b index) ≡ (Ok tt) → file_found (record_at b index).bytes ≡ (Ok tt)
unfolding record_at accepted
fetched_accepted b index h =
    let i = indexed b index h in
    is_accepted_lem _ (fits_accepted 258 (length b) (records b) (records_fit b i.whole) index (omega (arith, length_records b, i.below)))

pub fetched_box : (b : List ℕ) (index : ℕ) → first (index_checks b index) ≡ (Ok tt) →
    let file = (record_at b index).bytes in
    Box (at file 0) (at file 1) (file_rows file (at file 0))
fetched_box b index h = box_of_file (record_at b index).bytes (fetched_accepted b index h)

-- ---- Adding, where it is accepted.
module _ (b file : List ℕ) (h : first (add_checks b file) ≡ (Ok tt)) where
  t : Accepts b file
  t = accepts b file h

  index_is : gap_index (gap_for b file) ≡ t.index
  unfolding t
  index_is = ap gap_index t.gap

  among : t.index ≤ length (records b)
  among = omega (arith, gap_index_lem b file t.whole t.gap, length_records b)

  after : records (added b file) ≡ take t.index (records b) ++ (record { start = t.start; bytes = file } ∷ drop t.index (records b))
  unfolding t
  after = (leaves_added b file t).holds ∙ added_is_at b file t

  -- fetching the new index gives the file back, which lies at the start of the gap
  pub added_found : record_at (added b file) (gap_index (gap_for b file)) ≡ record { start = gap_start (gap_for b file); bytes = file }
  unfolding record_at
  added_found =
      let r : Item = record { start = t.start; bytes = file } in
      ap (λ (i : ℕ). get_or (records (added b file)) i no_item) index_is
      ∙ ap (λ (rs : List Item). get_or rs t.index no_item) after
      ∙ get_or_at (take t.index (records b)) r (drop t.index (records b)) no_item t.index (length-take-le t.index (records b) among)
      ∙ ap (λ (s : ℕ). record { start = s; bytes = file }) (sym (ap gap_start t.gap))

  -- and that index is one that the catalogue has
  pub added_fetched : first (index_checks (added b file) (gap_index (gap_for b file))) ≡ (Ok tt)
  unfolding index_checks
  added_fetched =
      let rs = records b in
      let r : Item = record { start = t.start; bytes = file } in
      let d = length-append (take t.index rs) (r ∷ drop t.index rs) in
      let n = length-take-le t.index rs among in
      let inside : gap_index (gap_for b file) < count (added b file) = omega (arith, index_is, length_records (added b file), ap length after, d, n) in
      sym (found (skip (leaves_added b file t).whole (skip (lt-ltb (gap_index (gap_for b file)) (count (added b file)) inside) end)))

  -- the other records stay, with their bytes and in order
  pub added_others : without (gap_index (gap_for b file)) (records (added b file)) ≡ records b
  unfolding without
  added_others =
      let rs = records b in
      let r : Item = record { start = t.start; bytes = file } in
      let n : length (take t.index rs) ≡ t.index = length-take-le t.index rs among in
      ap₂ (λ (i : ℕ) (l : List Item). take i l ++ drop (i + 1) l) index_is after
      ∙ ap₂ (λ (x y : List Item). x ++ y) (take_at (take t.index rs) (r ∷ drop t.index rs) t.index n)
      (sym (drop-drop 1 t.index (take t.index rs ++ (r ∷ drop t.index rs))) ∙ ap (drop 1) (drop_at (take t.index rs) (r ∷ drop t.index rs) t.index n))
      ∙ take-append-drop t.index rs

  -- removing the same index restores the buffer
  pub add_then_remove : AllBytes b → removed (added b file) (gap_index (gap_for b file)) ≡ b
  add_then_remove small =
      ap₂ build (build_length (length b) (added_at (gap_for b file) file (records b)) (added_few b file t) (added_fit b file t)) added_others
      ∙ sym (built b small t.whole)

  -- the gap is free, and so many free bytes lie nowhere lower
  pub added_free : Free b (gap_start (gap_for b file)) (length file)
  added_free = subst (λ (s : ℕ). Free b s (length file)) (sym (ap gap_start t.gap)) (gap_free b file t)

  pub added_lowest : (p : ℕ) → Free b p (length file) → gap_start (gap_for b file) ≤ p
  added_lowest p f = subst (λ (g : Option Gap). gap_start g ≤ p) (sym t.gap) (subst (Reaches p) t.gap (free_reached b t.whole file p (accepted_some file t.good) f))

-- ---- 14, where the catalogue and the file are accepted: 64 records stand, or so many free bytes lie nowhere.
pub no_room : (b file : List ℕ) → first (offered_checks b file) ≡ (Ok tt) → first (add_checks b file) ≡ Err NoRoom → (count b ≡ 64) ⊎ ((p : ℕ) → Free b p (length file) → ⊥)
no_room b file ok h = by (ltb (count b) 64) refl (gap_for b file) refl
  where
    by : (t : Bool) → ltb (count b) 64 ≡ t → (g : Option Gap) → gap_for b file ≡ g → (count b ≡ 64) ⊎ ((p : ℕ) → Free b p (length file) → ⊥)
    by false e g f = inl (omega (arith, ltb-false (count b) 64 e, (valid_says b (offered_whole b file ok)).most))
    by true e (Some found) f =
        absurd (let z = sym h ∙ add_accepted b file ok (ltb-true (count b) 64 e) f in let y : ◌≡◌ {A = ℕ} 0 1 = cc in omega arith)
    by true e None f = inr (λ p free. subst (Reaches p) f (free_reached b (offered_whole b file ok) file p (accepted_some file (offered_good b file ok)) free))

-- ---- Right after compaction an accepted file is added exactly if fewer than 64 records stand and the free bytes in all are enough; else the answer is 14.
pub add_after_compaction : (b file : List ℕ) → first (offered_checks b file) ≡ (Ok tt)
    → first (add_checks (compacted b) file) ≡ room_found (ltb (count b) 64 && leb (258 + bytes_taken (records b) + length file) (length b))
unfolding gap_for
add_after_compaction b file ok = by (ltb (count b) 64) refl (lowest (length file) (length c) 0 258 (records c)) refl
  where
    whole : valid b ≡ true
    whole = offered_whole b file ok

    c : List ℕ
    c = compacted b

    left : Holds c (without_gaps 258 (records b))
    left = leaves_compacted b whole

    still : first (offered_checks c file) ≡ (Ok tt)
    still = offered c file left.whole (offered_good b file ok)

    same_count : count c ≡ count b
    same_count = build_count (length b) (without_gaps 258 (records b)) (without_gaps_few b whole) (without_gaps_fit b whole) ∙ length_without_gaps 258 (records b) ∙ length_records b

    gap : is_gap (lowest (length file) (length c) 0 258 (records c)) ≡ leb (258 + bytes_taken (records b) + length file) (length b)
    gap = ap₂ (λ (n : ℕ) (rs : List Item). is_gap (lowest (length file) n 0 258 rs)) (build_length (length b) (without_gaps 258 (records b)) (without_gaps_few b whole) (without_gaps_fit b whole)) left.holds
        ∙ lowest_without_gaps (length file) (length b) 0 258 (records b) (accepted_some file (offered_good b file ok))

    by : (t : Bool) → ltb (count b) 64 ≡ t → (g : Option Gap) → lowest (length file) (length c) 0 258 (records c) ≡ g
        → first (add_checks c file) ≡ room_found (ltb (count b) 64 && leb (258 + bytes_taken (records b) + length file) (length b))
    by false e g h = add_full c file still (omega (arith, same_count, ltb-false (count b) 64 e)) ∙ ap (λ (x : Bool). room_found (x && leb (258 + bytes_taken (records b) + length file) (length b))) (sym e)
    by true e (Some found) h =
        add_accepted c file still (omega (arith, same_count, ltb-true (count b) 64 e)) h
        ∙ ap₂ (λ (x y : Bool). room_found (x && y)) (sym e) (sym (ap is_gap h) ∙ gap)
    by true e None h =
        add_nowhere c file still (omega (arith, same_count, ltb-true (count b) 64 e)) h
        ∙ ap₂ (λ (x y : Bool). room_found (x && y)) (sym e) (sym (ap is_gap h) ∙ gap)

-- ---- The same in words: "right after it, adding an accepted file fails only with 64 records or too few free bytes in all."
room_iff : (t : Bool) → (room_found t ≡ Ok tt) ↔ (t ≡ true)
room_iff true = (λ h. refl, λ h. refl)
room_iff false = (λ h. cc, λ h. cc)

room_or_none : (t : Bool) → (room_found t ≡ (Ok tt)) ⊎ (room_found t ≡ Err NoRoom)
room_or_none true = inl refl
room_or_none false = inr refl

pub added_after_compaction : (b file : List ℕ) → first (offered_checks b file) ≡ (Ok tt)
    → ((first (add_checks (compacted b) file) ≡ (Ok tt)) ↔ ((count b < 64) × (258 + bytes_taken (records b) + length file ≤ length b)))
    × ((first (add_checks (compacted b) file) ≡ (Ok tt)) ⊎ (first (add_checks (compacted b) file) ≡ Err NoRoom))
added_after_compaction b file ok =
    let few = ltb (count b) 64 in
    let room = leb (258 + bytes_taken (records b) + length file) (length b) in
    subst (λ (k : Result ⊤ Refusal). ((k ≡ (Ok tt)) ↔ ((count b < 64) × (258 + bytes_taken (records b) + length file ≤ length b))) ×
    ((k ≡ (Ok tt)) ⊎ (k ≡ Err NoRoom)))
    (sym (add_after_compaction b file ok)) (
      (
        λ h. let t = both few room ((room_iff (few && room)).0 h) in (ltb-true (count b) 64 t.0, leb-true _ (length b) t.1),
        λ t. (room_iff (few && room)).1 (both_true few room (lt-ltb (count b) 64 t.0) (le-leb _ (length b) t.1)),
      ),
      room_or_none (few && room),
    )
