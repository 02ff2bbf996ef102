-- Compaction: the records before the place that the loop has come to are packed, and the others stand where they stood. Assumes nothing.
use Prim.Native.Nat.{ℕ, ◌+◌, ◌-◌, ◌*◌, ◌≤◌, ◌<◌}
use mathlib.Core.Path.{◌≡◌, refl, sym, ap, ap₂, ◌∙◌, subst}
use mathlib.Core.Bool.{true}
use mathlib.Core.List.{List, [], ◌∷◌, ◌++◌, map, append_assoc}
use native.Mathlib.Nat.{le_refl}
use native.Mathlib.Omega.{arith}
use lib.ListN.{length, get_or, replicate, length-map, length-append}
use lib.Seq.{sets, get_or_at}
use Rattle.boolean.proofs.Lists.{get_or_list_below}
use Rattle.catalogue.specs.declared.Place.{Place}
use Rattle.catalogue.specs.Format.{Item, part, word, count, place_at, places, records, valid, directory, body, place_of_item, build}
use Rattle.catalogue.specs.Work.{slid_down}
use Rattle.catalogue.specs.Calls.{without_gaps}
use Rattle.catalogue.specs.Statements.{AllBytes, LieInOrder}
use Rattle.catalogue.proofs.Built.{built, records_fit, length_records, length_directory, fits_inside, build_count, build_places, build_length}
use Rattle.catalogue.proofs.Directories.{moved_place}
use Rattle.catalogue.proofs.Bodies.{ends, moved_is, gap_is, fits_rest, fits_join, fits_lower}
use Rattle.catalogue.proofs.Edits.{map_append}

pub record Packing (old : List ℕ) (n to k : ℕ) (b : List ℕ) : Type 0 where
  pub done : List Item
  pub left : List Item
  pub reached : length done ≡ k
  pub all : length (done ++ left) ≡ n
  pub to_is : to ≡ ends 258 done
  pub fits : LieInOrder 258 (length old) (done ++ left)
  pub is : b ≡ build (length old) (done ++ left)
  pub same : without_gaps 258 (records old) ≡ done ++ without_gaps (ends 258 done) left

pub packing_start : (b : List ℕ) (n : ℕ) → AllBytes b → valid b ≡ true → n ≡ count b → Packing b n 258 0 b
unfolding ends
packing_start b n small h e = record {
  done = [];
  left = records b;
  reached = refl;
  all = length_records b ∙ sym e;
  to_is = refl;
  fits = records_fit b h;
  is = built b small h;
  same = refl;
}

-- the place of a record in a build
pub place_in : (size : ℕ) (ps ss : List Item) (r : Item) (k : ℕ) → length ps ≡ k → length (ps ++ (r ∷ ss)) ≤ 64 → LieInOrder 258 size (ps ++ (r ∷ ss))
    → place_at (build size (ps ++ (r ∷ ss))) k ≡ place_of_item r
unfolding places
place_in size ps ss r k lk few f =
    let rs = ps ++ (r ∷ ss) in
    let b = build size rs in
    let d = place_of_item r in
    let n = build_count size rs few f in
    let a = length-append ps (r ∷ ss) in
    let m : k < count b = omega (arith, n, a, lk) in
    sym (get_or_list_below (count b) (λ i. place_at b i) k d m)
    ∙ ap (λ (l : List Place). get_or l k d) (build_places size rs few f ∙ map_append place_of_item ps (r ∷ ss))
    ∙ get_or_at (map place_of_item ps) (place_of_item r) (map place_of_item ss) d k (length-map ps place_of_item ∙ lk)

-- where the records end with one more
ends_more : (pos : ℕ) (ps : List Item) (r : Item) → ends pos (ps ++ (r ∷ [])) ≡ r.start + length r.bytes
unfolding ends
ends_more pos [] r = refl
ends_more pos (p ∷ ps) r = ends_more (p.start + length p.bytes) ps r

-- a record moved down to the end of those before it, and its place written anew
module _ (size : ℕ) (ps ss : List Item) (r : Item) (few : length (ps ++ (r ∷ ss)) ≤ 64) (f : LieInOrder 258 size (ps ++ (r ∷ ss))) where
  D-long : length (directory (map place_of_item (ps ++ (r ∷ ss)))) ≡ 258
  D-long = length_directory (map place_of_item (ps ++ (r ∷ ss))) (omega (arith, length-map (ps ++ (r ∷ ss)) place_of_item))

  pub settled_gap : part (ends 258 ps) (r.start - ends 258 ps) (build size (ps ++ (r ∷ ss))) ≡ replicate (r.start - ends 258 ps) 0
  unfolding build
  settled_gap = gap_is (directory (map place_of_item (ps ++ (r ∷ ss)))) size ps ss D-long r f

  pub settled_is : (k : ℕ) → length ps ≡ k
      → sets (slid_down (ends 258 ps) (r.start - ends 258 ps) (length r.bytes) (build size (ps ++ (r ∷ ss)))) (4 * k + 2) (word (ends 258 ps))
      ≡ build size (ps ++ (record { start = ends 258 ps; bytes = r.bytes } ∷ ss))
  unfolding build
  settled_is k lk =
      let q : Item = record { start = ends 258 ps; bytes = r.bytes } in
      let D = directory (map place_of_item (ps ++ (r ∷ ss))) in
      let B = body 258 size (ps ++ (q ∷ ss)) in
      ap (λ (l : List ℕ). sets l (4 * k + 2) (word (ends 258 ps))) (moved_is D size ps ss D-long r f ∙ ap (λ (l : List Place). directory l ++ B) (map_append place_of_item ps (r ∷ ss)))
      ∙ moved_place (map place_of_item ps) (map place_of_item ss) B (place_of_item r) (ends 258 ps) k (length-map ps place_of_item ∙ lk)
      ∙ ap (λ (l : List Place). directory l ++ B) (sym (map_append place_of_item ps (q ∷ ss)))

pub packing_length : {old : List ℕ} {n to k : ℕ} {b : List ℕ} (s : Packing old n to k b) → n ≤ 64 → length b ≡ length old
packing_length {old} s most = ap length s.is ∙ build_length (length old) (s.done ++ s.left) (omega (arith, s.all)) s.fits

-- the next record that is left
pub record Next (old : List ℕ) (n to k : ℕ) (b : List ℕ) (s : Packing old n to k b) : Type 0 where
  pub r : Item
  pub rest : List Item
  pub split : s.left ≡ r ∷ rest

pub next_of : (old : List ℕ) (n to k : ℕ) (b : List ℕ) (s : Packing old n to k b) → k < n → Next old n to k b s
next_of old n to k b s h = by s.left refl
  where
    by : (l : List Item) → s.left ≡ l → Next old n to k b s
    by [] e = absurd (let a = length-append s.done s.left in let z = ap length e in omega (arith, a, z, s.all, s.reached))
    by (r ∷ rest) e = record { r = r; rest = rest; split = e }

module _ {old : List ℕ} {n to k : ℕ} {b : List ℕ} (s : Packing old n to k b) (h : k < n) (most : n ≤ 64) where
  x : Next old n to k b s
  x = next_of old n to k b s h

  pub here : Item
  here = x.r

  rs : List Item
  rs = s.done ++ (here ∷ x.rest)

  joined : s.done ++ s.left ≡ rs
  unfolding rs here
  joined = ap (λ (l : List Item). s.done ++ l) x.split

  few : length rs ≤ 64
  few = omega (arith, ap length joined, s.all)

  fit : LieInOrder 258 (length old) rs
  fit = subst (LieInOrder 258 (length old)) joined s.fits

  now_is : b ≡ build (length old) rs
  now_is = s.is ∙ ap (build (length old)) joined

  -- what the two reads find
  pub packing_place : place_at b k ≡ place_of_item here
  unfolding rs
  packing_place = ap (λ (l : List ℕ). place_at l k) now_is ∙ place_in (length old) s.done x.rest here k s.reached few fit

  behind : LieInOrder (ends 258 s.done) (length old) (here ∷ x.rest)
  unfolding rs
  behind = fits_rest 258 (length old) s.done (here ∷ x.rest) fit

  pub packing_past : to ≤ here.start
  packing_past = omega (arith, s.to_is, behind.0)

  pub packing_room : here.start + length here.bytes ≤ length b
  packing_room = omega (arith, packing_length s most, fits_inside (here.start + length here.bytes) (length old) x.rest behind.2)

  pub packing_gap : part to (here.start - to) b ≡ replicate (here.start - to) 0
  unfolding rs
  packing_gap =
      ap₂ (λ (i : ℕ) (l : List ℕ). part i (here.start - i) l) s.to_is now_is
      ∙ settled_gap (length old) s.done x.rest here few fit
      ∙ ap (λ (i : ℕ). replicate (here.start - i) 0) (sym s.to_is)

  pub packing_next : (b' : List ℕ) → b' ≡ sets (slid_down to (here.start - to) (length here.bytes) b) (4 * k + 2) (word to) → Packing old n (to + length here.bytes) (k + 1) b'
  unfolding rs here ends without_gaps
  packing_next b' e =
      let q : Item = record { start = ends 258 s.done; bytes = here.bytes } in
      let done = s.done ++ (q ∷ []) in
      let more : ends 258 done ≡ ends 258 s.done + length here.bytes = ends_more 258 s.done q in
      let group : done ++ x.rest ≡ s.done ++ (q ∷ x.rest) = append_assoc s.done (q ∷ []) x.rest in
      let a = length-append s.done (q ∷ []) in
      let c = length-append s.done (q ∷ x.rest) in
      let d = length-append s.done (here ∷ x.rest) in
      let lower = behind in
      record {
        done = done;
        left = x.rest;
        reached = omega (arith, a, s.reached);
        all = ap length group ∙ c ∙ sym d ∙ ap length (sym joined) ∙ s.all;
        to_is = ap (λ (i : ℕ). i + length here.bytes) s.to_is ∙ sym more;
        fits = subst (LieInOrder 258 (length old)) (sym group)
            (fits_join 258 (length old) s.done (here ∷ x.rest) (q ∷ x.rest) fit
            (le_refl (ends 258 s.done), lower.1, fits_lower (ends 258 s.done + length here.bytes) (here.start + length here.bytes) (length old) x.rest (omega (arith, lower.0)) lower.2));
        is = e
            ∙ ap₂ (λ (i : ℕ) (l : List ℕ). sets (slid_down i (here.start - i) (length here.bytes) l) (4 * k + 2) (word i)) s.to_is now_is
            ∙ settled_is (length old) s.done x.rest here few fit k s.reached
            ∙ ap (build (length old)) (sym group);
        same = s.same ∙ ap (λ (l : List Item). s.done ++ without_gaps (ends 258 s.done) l) x.split
            ∙ sym (append_assoc s.done (q ∷ []) (without_gaps (ends 258 s.done + length here.bytes) x.rest))
            ∙ ap (λ (i : ℕ). done ++ without_gaps i x.rest) (sym more);
      }

  -- as the code has it, from the two numbers read
  pub packing_step : {offset size : ℕ} → offset ≡ (place_at b k).offset → size ≡ (place_at b k).size
      → (b' : List ℕ) → b' ≡ sets (slid_down to (offset - to) size b) (4 * k + 2) (word to) → Packing old n (to + size) (k + 1) b'
  packing_step eo es b' e =
      let o = eo ∙ ap (λ (p : Place). p.offset) packing_place in
      let z = es ∙ ap (λ (p : Place). p.size) packing_place in
      subst (λ (i : ℕ). Packing old n (to + i) (k + 1) b') (sym z)
      (packing_next b' (e ∙ ap₂ (λ (x y : ℕ). sets (slid_down to (x - to) y b) (4 * k + 2) (word to)) o z))

  -- what sliding the record down asks
  pub record Ready (offset size : ℕ) : Type 0 where
    pub past : to ≤ offset
    pub room : offset + size ≤ length b
    pub gap : part to (offset - to) b ≡ replicate (offset - to) 0

  pub packing_ready : {offset size : ℕ} → offset ≡ (place_at b k).offset → size ≡ (place_at b k).size → Ready offset size
  packing_ready eo es =
      let o = eo ∙ ap (λ (p : Place). p.offset) packing_place in
      let z = es ∙ ap (λ (p : Place). p.size) packing_place in
      record {
        past = omega (arith, o, packing_past);
        room = omega (arith, o, z, packing_room);
        gap = ap (λ (x : ℕ). part to (x - to) b) o ∙ packing_gap ∙ ap (λ (x : ℕ). replicate (x - to) 0) (sym o);
      }

-- at the end all are packed
pub packing_done : {old : List ℕ} {n to k : ℕ} {b : List ℕ} (s : Packing old n to k b) → n ≤ k → b ≡ build (length old) (without_gaps 258 (records old))
unfolding without_gaps
packing_done {old} {n} {to} {k} {b} s h = by s.left refl
  where
    by : (l : List Item) → s.left ≡ l → b ≡ build (length old) (without_gaps 258 (records old))
    by [] e = s.is ∙ ap (build (length old)) (ap (λ (l : List Item). s.done ++ l) e ∙ sym (s.same ∙ ap (λ (l : List Item). s.done ++ without_gaps (ends 258 s.done) l) e))
    by (r ∷ rest) e = absurd (let a = length-append s.done s.left in let z = ap length e in omega (arith, a, z, s.all, s.reached))
