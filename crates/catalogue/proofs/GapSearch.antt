-- The search for the lowest gap that is long enough: the loop, and what a gap that is found says. Assumes nothing.
use Prim.Native.Nat.{ℕ, suc, ◌+◌, ◌-◌, ◌≤◌, ◌<◌, zero-le}
use mathlib.Core.Path.{◌≡◌, refl, sym, ap, ap₂, ◌∙◌, subst}
use mathlib.Core.Bool.{Bool, true, false}
use mathlib.Core.List.{List, [], ◌∷◌, map}
use native.Mathlib.Numerals.{add-one}
use native.Mathlib.Omega.{arith}
use borrow.Author.Tests.{leb-true, le-leb, lt-leb}
use lib.Dec.{leb}
use lib.ListN.{length, take, drop}
use Rattle.boolean.specs.Sums.{list_from, list_below}
use Rattle.catalogue.specs.declared.Place.{Place}
use Rattle.catalogue.specs.Format.{Item, count, place_at, places, item_at, records, stand, valid}
use Rattle.catalogue.specs.declared.Gap.{Gap}
use Rattle.catalogue.specs.Calls.{lowest, gap_index}
use Rattle.catalogue.specs.Statements.{LieInOrder, gap_start}
use Rattle.catalogue.proofs.Built.{Stands, stand_cons, valid_says, length_part}
use Rattle.catalogue.proofs.Bodies.{ends}
use Rattle.std.proofs.Common.{Option, Some, None}

-- a gap with this index and this start
abbrev pub starts : (index start : ℕ) → Option Gap
starts index start = Some (record { index = index; start = start })

-- one line of the search
module _ (need size k pos : ℕ) where
  lowest_here : (r : Item) (rs : List Item) → pos + need ≤ r.start → lowest need size k pos (r ∷ rs) ≡ starts k pos
  unfolding lowest
  lowest_here r rs h = rw (le-leb (pos + need) r.start h, lowest)

  lowest_past : (r : Item) (rs : List Item) → r.start < pos + need → lowest need size k pos (r ∷ rs) ≡ lowest need size (k + 1) (r.start + length r.bytes) rs
  unfolding lowest
  lowest_past r rs h = rw (lt-leb (pos + need) r.start h, lowest)

  lowest_end : pos + need ≤ size → lowest need size k pos [] ≡ starts k pos
  unfolding lowest
  lowest_end h = rw (le-leb (pos + need) size h, lowest)

  lowest_none : size < pos + need → lowest need size k pos [] ≡ None
  unfolding lowest
  lowest_none h = rw (lt-leb (pos + need) size h, lowest)

pub record Searching (b : List ℕ) (n need start k : ℕ) : Type 0 where
  pub inside : k ≤ n
  pub reach : start ≤ length b
  pub rest : stand b start (list_from k (n - k) (λ i. place_at b i)) ≡ true
  pub same : lowest need (length b) k start (map (item_at b) (list_from k (n - k) (λ i. place_at b i))) ≡ lowest need (length b) 0 258 (records b)

pub search_start : (b : List ℕ) (n need : ℕ) → valid b ≡ true → n ≡ count b → Searching b n need 258 0
unfolding records places list_below
search_start b n need h e =
    let v = valid_says b h in
    let z : n - 0 ≡ count b = omega (arith, e) in
    record {
      inside = zero-le;
      reach = v.low;
      rest = ap (λ (m : ℕ). stand b 258 (list_from 0 m (λ i. place_at b i))) z ∙ v.standing_all;
      same = ap (λ (m : ℕ). lowest need (length b) 0 258 (map (item_at b) (list_from 0 m (λ i. place_at b i)))) z;
    }

module _ {b : List ℕ} {n need start k : ℕ} (s : Searching b n need start k) where
  next : k < n → list_from k (n - k) (λ i. place_at b i) ≡ place_at b k ∷ list_from (k + 1) (n - (k + 1)) (λ i. place_at b i)
  unfolding list_from
  next h =
      let e : n - k ≡ suc (n - (k + 1)) = omega arith in
      ap (λ (m : ℕ). list_from k m (λ i. place_at b i)) e ∙ ap (λ (j : ℕ). place_at b k ∷ list_from j (n - (k + 1)) (λ i. place_at b i)) (sym (add-one k))

  here : k < n → Stands b start (place_at b k) × (stand b ((place_at b k).offset + (place_at b k).size) (list_from (k + 1) (n - (k + 1)) (λ i. place_at b i)) ≡ true)
  here h = stand_cons b start _ _ (sym (ap (stand b start) (next h)) ∙ s.rest)

  pub search_past : k < n → start ≤ (place_at b k).offset
  search_past h = (here h).0.past

  -- the gap before the next record is long enough
  pub search_found : k < n → start + need ≤ (place_at b k).offset → starts k start ≡ lowest need (length b) 0 258 (records b)
  search_found h long =
      sym (ap (λ (l : List Place). lowest need (length b) k start (map (item_at b) l)) (next h) ∙ lowest_here need (length b) k start (item_at b (place_at b k)) (map (item_at b) (list_from (k + 1) (n - (k + 1)) (λ i. place_at b i))) long) ∙ s.same

  -- or it is not
  pub search_next : k < n → {offset size : ℕ} → offset ≡ (place_at b k).offset → size ≡ (place_at b k).size → offset < start + need → Searching b n need (offset + size) (k + 1)
  search_next h eo es less =
      let t = here h in
      let short : (place_at b k).offset < start + need = omega (arith, eo, less) in
      let o = (place_at b k).offset in
      let z = (place_at b k).size in
      let rest = list_from (k + 1) (n - (k + 1)) (λ i. place_at b i) in
      subst (λ (m : ℕ). Searching b n need m (k + 1)) (sym (ap₂ (λ (x y : ℕ). x + y) eo es)) (record {
        inside = omega arith;
        reach = t.0.inside;
        rest = t.1;
        same =
            ap (λ (m : ℕ). lowest need (length b) (k + 1) (o + m) (map (item_at b) rest)) (sym (length_part o z b t.0.inside))
            ∙ sym (ap (λ (l : List Place). lowest need (length b) k start (map (item_at b) l)) (next h) ∙ lowest_past need (length b) k start (item_at b (place_at b k)) (map (item_at b) rest) short)
            ∙ s.same;
      })

  none_left : n ≤ k → lowest need (length b) k start [] ≡ lowest need (length b) 0 258 (records b)
  unfolding list_from
  none_left h =
      let z : n - k ≡ 0 = omega arith in
      sym (ap (λ (m : ℕ). lowest need (length b) k start (map (item_at b) (list_from k m (λ i. place_at b i)))) z) ∙ s.same

  -- behind the last record
  pub search_last : n ≤ k → start + need ≤ length b → starts k start ≡ lowest need (length b) 0 258 (records b)
  search_last h long = sym (lowest_end need (length b) k start long) ∙ none_left h

  pub search_nowhere : n ≤ k → length b < start + need → None ≡ lowest need (length b) 0 258 (records b)
  search_nowhere h short = sym (lowest_none need (length b) k start short) ∙ none_left h

-- a gap that is found: it begins where the records before it end, and the file fits between
pub record Found (need size k pos : ℕ) (rs : List Item) (index start : ℕ) : Type 0 where
  pub before : ℕ
  pub counts : index ≡ k + before
  pub among : before ≤ length rs
  pub begins : start ≡ ends pos (take before rs)
  pub room : LieInOrder (start + need) size (drop before rs)

pub lowest_found : (need size k pos : ℕ) (rs : List Item) (index start : ℕ) → LieInOrder pos size rs → lowest need size k pos rs ≡ starts index start → Found need size k pos rs index start
unfolding lowest ends
lowest_found need size k pos [] index start f e = by (leb (pos + need) size) refl e
  where
    by : (t : Bool) → leb (pos + need) size ≡ t → elim t [ true ↦ starts k pos | false ↦ None ] ≡ starts index start → Found need size k pos [] index start
    by true h e =
        let i : k ≡ index = ap gap_index e in
        let s : pos ≡ start = ap gap_start e in
        let l = leb-true (pos + need) size h in
        record { before = 0; counts = omega arith; among = zero-le; begins = sym s; room = omega arith }
    by false h e = absurd (let z : ◌≡◌ {A = ℕ} 0 1 = cc in omega arith)
lowest_found need size k pos (r ∷ rs) index start f e = by (λ e. lowest_found need size (k + 1) (r.start + length r.bytes) rs index start f.2 e) (leb (pos + need) r.start) refl e
  where
    by : (lowest need size (k + 1) (r.start + length r.bytes) rs ≡ starts index start → Found need size (k + 1) (r.start + length r.bytes) rs index start)
        → (t : Bool) → leb (pos + need) r.start ≡ t → elim t [ true ↦ starts k pos | false ↦ lowest need size (k + 1) (r.start + length r.bytes) rs ] ≡ starts index start → Found need size k pos (r ∷ rs) index start
    by rec true h e =
        let i : k ≡ index = ap gap_index e in
        let s : pos ≡ start = ap gap_start e in
        let l = leb-true (pos + need) r.start h in
        record { before = 0; counts = omega arith; among = zero-le; begins = sym s; room = (omega arith, f.1, f.2) }
    by rec false h e =
        let g = rec e in
        record { before = suc g.before; counts = omega (arith, g.counts); among = omega (arith, g.among); begins = g.begins; room = g.room }
