-- A valid catalogue is the build of its own records, and the build of records that fit is valid, with those records. Assumes nothing.
use Prim.Native.Nat.{ℕ, zero, suc, ◌+◌, ◌-◌, ◌*◌, ◌/◌, ◌%◌, ◌≤◌, ◌<◌}
use mathlib.Core.Path.{◌≡◌, refl, sym, ap, ap₂, ◌∙◌, subst}
use mathlib.Core.Bool.{true}
use mathlib.Core.List.{List, [], ◌∷◌, ◌++◌, map, append_assoc}
use native.Mathlib.Numerals.{add-one}
use native.Mathlib.Omega.{arith}
use borrow.Author.Tests.{leb-true, le-leb}
use lib.ListN.{length, take, drop, replicate, length-append, length-drop, length-replicate, take-append-drop, length-map}
use lib.Seq.{drop-cons, drop-drop, take-add, take_at, drop_at, get_or-drop, length-take-le}
use Rattle.boolean.specs.Sums.{list_from, list_below, each}
use Rattle.boolean.specs.Functions.{at}
use Rattle.boolean.proofs.Every.{both, both_true, zeros_are, zeros_true}
use Rattle.boolean.proofs.Lists.{length_list_below, part_then}
use Rattle.refusals.proofs.Bounds.{range_low, range_high, range_true}
use Rattle.catalogue.specs.declared.Place.{Place}
use Rattle.catalogue.specs.Format.{word_at, word, part, all_zero, Item, accepted, count, place_at, places, item_at, records, stands, stand, valid, place_bytes, directory, body, place_of_item, build}
use Rattle.catalogue.specs.Statements.{AllBytes, LieInOrder}

-- Parts.
pub length_part : (pos n : ℕ) (b : List ℕ) → pos + n ≤ length b → length (part pos n b) ≡ n
length_part pos n b h = length-take-le n (drop pos b) (omega (arith, length-drop pos b))

-- What a record that stands says.
pub record Stands (b : List ℕ) (end : ℕ) (p : Place) : Type 0 where
  pub past : end ≤ p.offset
  pub inside : p.offset + p.size ≤ length b
  pub gap : all_zero (part end (p.offset - end) b) ≡ true
  pub file : accepted (part p.offset p.size b) ≡ true

pub standing : (b : List ℕ) (end : ℕ) (p : Place) → stands b end p ≡ true → Stands b end p
unfolding stands
standing b end p h =
    let t = both _ _ h in
    let u = both _ _ t.1 in
    let v = both _ _ u.1 in
    record { past = leb-true _ _ t.0; inside = leb-true _ _ u.0; gap = v.0; file = v.1 }

pub stands_true : (b : List ℕ) (end : ℕ) (p : Place) → Stands b end p → stands b end p ≡ true
unfolding stands
stands_true b end p s =
    both_true _ _ (le-leb _ _ s.past) (both_true _ _ (le-leb _ _ s.inside) (both_true _ _ s.gap s.file))

pub stand_cons : (b : List ℕ) (end : ℕ) (p : Place) (ps : List Place) → stand b end (p ∷ ps) ≡ true → Stands b end p × (stand b (p.offset + p.size) ps ≡ true)
unfolding stand
stand_cons b end p ps h = let t = both (stands b end p) (stand b (p.offset + p.size) ps) h in (standing b end p t.0, t.1)

-- The bytes from a position on, where records stand.
pub body_is : (b : List ℕ) (pos : ℕ) (ps : List Place) → stand b pos ps ≡ true → drop pos b ≡ body pos (length b) (map (item_at b) ps)
unfolding stand body
body_is b pos [] h = zeros_are (drop pos b) h ∙ ap (λ (n : ℕ). replicate n 0) (length-drop pos b)
body_is b pos (p ∷ ps) h =
    let t = stand_cons b pos p ps h in
    let s = t.0 in
    let o = p.offset in
    let l = p.size in
    let size : length (part o l b) ≡ l = length_part o l b s.inside in
    let gap : length (part pos (o - pos) b) ≡ o - pos = length_part pos (o - pos) b (omega (arith, s.past, s.inside)) in
    let there : pos + (o - pos) ≡ o = omega (arith, s.past) in
    part_then pos (o - pos) b
    ∙ ap₂ (λ (x y : List ℕ). x ++ y) (zeros_are _ s.gap ∙ ap (λ (n : ℕ). replicate n 0) gap)
    (ap (λ (n : ℕ). drop n b) there ∙ part_then o l b
    ∙ ap (λ (x : List ℕ). part o l b ++ x) (body_is b (o + l) ps t.1 ∙ ap (λ (n : ℕ). body (o + n) (length b) (map (item_at b) ps)) (sym size)))

pub fits_of : (b : List ℕ) (pos : ℕ) (ps : List Place) → pos ≤ length b → stand b pos ps ≡ true → LieInOrder pos (length b) (map (item_at b) ps)
fits_of b pos [] l h = l
fits_of b pos (p ∷ ps) l h =
    let t = stand_cons b pos p ps h in
    let s = t.0 in
    (s.past, s.file, subst (λ (n : ℕ). LieInOrder (p.offset + n) (length b) (map (item_at b) ps)) (sym (length_part _ _ b s.inside)) (fits_of b (p.offset + p.size) ps s.inside t.1))

pub places_back : (b : List ℕ) (pos : ℕ) (ps : List Place) → stand b pos ps ≡ true → map place_of_item (map (item_at b) ps) ≡ ps
places_back b pos [] h = refl
places_back b pos (p ∷ ps) h =
    let t = stand_cons b pos p ps h in
    ap₂ (λ (n : ℕ) (l : List Place). record { offset = p.offset; size = n } ∷ l) (length_part _ _ b t.0.inside) (places_back b (p.offset + p.size) ps t.1)

-- The directory.
word_back : (lo hi : ℕ) → lo < 256 → word (lo + 256 * hi) ≡ lo ∷ hi ∷ []
unfolding word
word_back lo hi h =
    let r : (lo + 256 * hi) % 256 ≡ lo = omega arith in
    let q : (lo + 256 * hi) / 256 ≡ hi = omega arith in
    ap₂ (λ (x y : ℕ). x ∷ y ∷ []) r q

pub word_part : (b : List ℕ) (i : ℕ) → AllBytes b → i + 1 < length b → part i 2 b ≡ word (word_at b i)
unfolding word_at
word_part b i small h =
    let j : suc i < length b = omega arith in
    let k : i < length b = omega arith in
    ap (take 2) (drop-cons b i 0 k ∙ ap (λ (l : List ℕ). at b i ∷ l) (drop-cons b (suc i) 0 j))
    ∙ ap (λ (n : ℕ). at b i ∷ at b n ∷ []) (sym (add-one i)) ∙ sym (word_back (at b i) (at b (i + 1)) (small i))

pub parts_join : (i n m : ℕ) (b : List ℕ) → part i (n + m) b ≡ part i n b ++ part (i + n) m b
parts_join i n m b = take-add n m (drop i b) ∙ ap (λ (l : List ℕ). part i n b ++ take m l) (drop-drop n i b)

pub place_part : (b : List ℕ) (k : ℕ) → AllBytes b → 4 * k + 5 < length b → part (4 * k + 2) 4 b ≡ place_bytes (place_at b k)
unfolding place_bytes place_at
place_part b k small h =
    let e : 4 * k + 2 + 2 ≡ 4 * k + 4 = omega arith in
    parts_join (4 * k + 2) 2 2 b
    ∙ ap₂ (λ (x y : List ℕ). x ++ y) (word_part b (4 * k + 2) small (omega arith)) (ap (λ (n : ℕ). part n 2 b) e ∙ word_part b (4 * k + 4) small (omega arith))

pub places_part : (b : List ℕ) (i k : ℕ) → AllBytes b → 4 * (i + k) + 2 ≤ length b → part (4 * i + 2) (4 * k) b ≡ each (list_from i k (λ k. place_at b k)) place_bytes
unfolding list_from each
places_part b i zero small h = refl
places_part b i (suc k) small h =
    let e : 4 * suc k ≡ 4 + 4 * k = omega arith in
    let f : 4 * i + 2 + 4 ≡ 4 * suc i + 2 = omega arith in
    ap (λ (n : ℕ). part (4 * i + 2) n b) e ∙ parts_join (4 * i + 2) 4 (4 * k) b
    ∙ ap₂ (λ (x y : List ℕ). x ++ y) (place_part b i small (omega arith)) (ap (λ (n : ℕ). part n (4 * k) b) f ∙ places_part b (suc i) k small (omega arith))

pub length_each : (ps : List Place) → length (each ps place_bytes) ≡ 4 * length ps
unfolding each place_bytes word
length_each [] = refl
length_each (p ∷ ps) = let r = length_each ps in omega arith

-- What a valid catalogue says.
pub record Valid (b : List ℕ) : Type 0 where
  pub low : 258 ≤ length b
  pub high : length b ≤ 65535
  pub most : count b ≤ 64
  pub unused : all_zero (part (4 * count b + 2) (4 * (64 - count b)) b) ≡ true
  pub standing_all : stand b 258 (places b) ≡ true

pub valid_says : (b : List ℕ) → valid b ≡ true → Valid b
unfolding valid
valid_says b h =
    let t = both _ _ h in
    let u = both _ _ t.1 in
    let v = both _ _ u.1 in
    record { low = range_low 258 65535 _ t.0; high = range_high 258 65535 _ t.0; most = leb-true _ _ u.0; unused = v.0; standing_all = v.1 }

pub valid_true : (b : List ℕ) → Valid b → valid b ≡ true
unfolding valid
valid_true b v =
    both_true _ _ (range_true 258 65535 _ v.low v.high) (both_true _ _ (le-leb _ _ v.most) (both_true _ _ v.unused v.standing_all))

pub places_from : (b : List ℕ) (n : ℕ) → AllBytes b → 4 * n + 2 ≤ length b → part 2 (4 * n) b ≡ each (list_below n (λ k. place_at b k)) place_bytes
unfolding list_below
places_from b n small h = places_part b 0 n small (let g : 4 * (0 + n) + 2 ≤ length b = omega arith in g)

-- the directory of a valid catalogue
pub directory_is : (b : List ℕ) → AllBytes b → Valid b → take 258 b ≡ directory (places b)
unfolding directory places count
directory_is b small v =
    let n = count b in
    let long : length (places b) ≡ n = length_list_below n (λ k. place_at b k) in
    let e : 258 ≡ 2 + (4 * n + 4 * (64 - n)) = omega (arith, v.most) in
    let f : 2 + 4 * n ≡ 4 * n + 2 = omega arith in
    let z : length (part (4 * n + 2) (4 * (64 - n)) b) ≡ 4 * (64 - n) = length_part (4 * n + 2) (4 * (64 - n)) b (omega (arith, v.most, v.low)) in
    ap (λ (k : ℕ). part 0 k b) e ∙ parts_join 0 2 (4 * n + 4 * (64 - n)) b
    ∙ ap₂ (λ (x y : List ℕ). x ++ y) (word_part b 0 small (omega (arith, v.low)) ∙ ap word (sym long))
    (parts_join 2 (4 * n) (4 * (64 - n)) b
    ∙ ap₂ (λ (x y : List ℕ). x ++ y) (places_from b n small (omega (arith, v.most, v.low)))
    (ap (λ (k : ℕ). part k (4 * (64 - n)) b) f ∙ zeros_are _ v.unused ∙ ap (λ (k : ℕ). replicate k 0) z
    ∙ ap (λ (k : ℕ). replicate (4 * (64 - k)) 0) (sym long)))

-- A valid catalogue is the build of its own records.
pub built : (b : List ℕ) → AllBytes b → valid b ≡ true → b ≡ build (length b) (records b)
unfolding build records
built b small h =
    let v = valid_says b h in
    sym (take-append-drop 258 b)
    ∙ ap₂ (λ (x y : List ℕ). x ++ y) (directory_is b small v ∙ ap directory (sym (places_back b 258 (places b) v.standing_all)))
    (body_is b 258 (places b) v.standing_all)

pub records_fit : (b : List ℕ) → valid b ≡ true → LieInOrder 258 (length b) (records b)
unfolding records
records_fit b h = let v = valid_says b h in fits_of b 258 (places b) v.low v.standing_all

pub length_records : (b : List ℕ) → length (records b) ≡ count b
unfolding records places
length_records b = length-map (places b) (item_at b) ∙ length_list_below (count b) (λ k. place_at b k)

-- Back: the build of records that fit.
pub fits_inside : (pos size : ℕ) (rs : List Item) → LieInOrder pos size rs → pos ≤ size
fits_inside pos size [] f = f
fits_inside pos size (r ∷ rs) f = omega (arith, f.0, fits_inside (r.start + length r.bytes) size rs f.2)

pub length_body : (pos size : ℕ) (rs : List Item) → LieInOrder pos size rs → length (body pos size rs) ≡ size - pos
unfolding body
length_body pos size [] f = length-replicate (size - pos) 0
length_body pos size (r ∷ rs) f =
    let next = length_body (r.start + length r.bytes) size rs f.2 in
    let in_next = fits_inside (r.start + length r.bytes) size rs f.2 in
    simp (length-append, length-replicate) (omega (arith, next, in_next, f.0))

pub length_directory : (ps : List Place) → length ps ≤ 64 → length (directory ps) ≡ 258
unfolding directory word
length_directory ps h =
    let e = length-append (each ps place_bytes) (replicate (4 * (64 - length ps)) 0) in
    omega (arith, e, length_each ps, length-replicate {A = ℕ} (4 * (64 - length ps)) 0)

word_of : (v : ℕ) → v % 256 + 256 * (v / 256) ≡ v
word_of v = omega arith

pub count_of : (ps : List Place) (t : List ℕ) → count (directory ps ++ t) ≡ length ps
unfolding count word_at directory word
count_of ps t = word_of (length ps)

-- the places that the bytes from here on give
pub places_of : (b : List ℕ) (i : ℕ) (ps : List Place) (t : List ℕ) → drop (4 * i + 2) b ≡ each ps place_bytes ++ t → list_from i (length ps) (λ k. place_at b k) ≡ ps
unfolding list_from each place_bytes word place_at word_at
places_of b i [] t h = refl
places_of b i (p ∷ ps) t h =
    let byte : (j : ℕ) → at b (4 * i + 2 + j) ≡ at (each (p ∷ ps) place_bytes ++ t) j = λ j. sym (get_or-drop (4 * i + 2) b j 0) ∙ ap (λ (l : List ℕ). at l j) h in
    let e : 4 * i + 4 ≡ 4 * i + 2 + 2 = omega arith in
    let e₁ : 4 * i + 4 + 1 ≡ 4 * i + 2 + 3 = omega arith in
    let o : word_at b (4 * i + 2) ≡ p.offset = ap₂ (λ (x y : ℕ). at b x + 256 * y) (add_zero_back (4 * i + 2)) (byte 1) ∙ ap (λ (x : ℕ). x + 256 * (p.offset / 256)) (byte 0) ∙ word_of p.offset in
    let s : word_at b (4 * i + 4) ≡ p.size = ap₂ (λ (x y : ℕ). at b x + 256 * at b y) e e₁ ∙ ap₂ (λ (x y : ℕ). x + 256 * y) (byte 2) (byte 3) ∙ word_of p.size in
    let f : 4 * suc i + 2 ≡ 4 * i + 2 + 4 = omega arith in
    ap₂ (λ (q : Place) (l : List Place). q ∷ l) (ap₂ (λ (x y : ℕ). record { offset = x; size = y }) o s)
    (places_of b (suc i) ps t (ap (λ (n : ℕ). drop n b) f ∙ sym (drop-drop 4 (4 * i + 2) b) ∙ ap (drop 4) h))
  where
    add_zero_back : (n : ℕ) → n ≡ n + 0
    add_zero_back n = omega arith

-- records that fit stand at their places, and are found there
pub stand_of : (b : List ℕ) (pos : ℕ) (rs : List Item) → drop pos b ≡ body pos (length b) rs → LieInOrder pos (length b) rs
    → (stand b pos (map place_of_item rs) ≡ true) × (map (item_at b) (map place_of_item rs) ≡ rs)
unfolding stand body
stand_of b pos [] h f = (ap all_zero h ∙ zeros_true (length b - pos), refl)
stand_of b pos (r ∷ rs) h f =
    let o = r.start in
    let file = r.bytes in
    let l = length file in
    let rest = body (o + l) (length b) rs in
    let inside = fits_inside (o + l) (length b) rs f.2 in
    let there : pos + (o - pos) ≡ o = omega (arith, f.0) in
    let zero_part : part pos (o - pos) b ≡ replicate (o - pos) 0 = ap (take (o - pos)) h ∙ take_at (replicate (o - pos) 0) (file ++ rest) (o - pos) (length-replicate (o - pos) 0) in
    let at_file : drop o b ≡ file ++ rest =
    ap (λ (n : ℕ). drop n b) (sym there) ∙ sym (drop-drop (o - pos) pos b) ∙ ap (drop (o - pos)) h ∙ drop_at (replicate (o - pos) 0) (file ++ rest) (o - pos) (length-replicate (o - pos) 0) in
    let file_part : part o l b ≡ file = ap (take l) at_file ∙ take_at file rest l refl in
    let after : drop (o + l) b ≡ rest = sym (drop-drop l o b) ∙ ap (drop l) at_file ∙ drop_at file rest l refl in
    let next = stand_of b (o + l) rs after f.2 in
    let s = stands_true b pos (place_of_item r) (record { past = f.0; inside = inside; gap = ap all_zero zero_part ∙ zeros_true (o - pos); file = ap accepted file_part ∙ f.1 }) in
    (both_true _ _ s next.0, ap₂ (λ (x : List ℕ) (y : List Item). record { start = o; bytes = x } ∷ y) file_part next.1)

module _ (size : ℕ) (rs : List Item) (few : length rs ≤ 64) (fits : LieInOrder 258 size rs) where
  few_places : length (map place_of_item rs) ≤ 64
  few_places = omega (arith, length-map rs place_of_item)

  pub build_length : length (build size rs) ≡ size
  unfolding build
  build_length =
      let in_size = fits_inside 258 size rs fits in
      omega (arith, length-append (directory (map place_of_item rs)) (body 258 size rs), length_directory (map place_of_item rs) few_places, length_body 258 size rs fits, in_size)

  pub build_count : count (build size rs) ≡ length rs
  unfolding build
  build_count = count_of (map place_of_item rs) (body 258 size rs) ∙ length-map rs place_of_item

  behind_count : drop (4 * 0 + 2) (build size rs) ≡ each (map place_of_item rs) place_bytes ++ (replicate (4 * (64 - length (map place_of_item rs))) 0 ++ body 258 size rs)
  unfolding build directory word
  behind_count = append_assoc (each (map place_of_item rs) place_bytes) _ _

  pub build_places : places (build size rs) ≡ map place_of_item rs
  unfolding places list_below
  build_places =
      ap (λ (n : ℕ). list_from 0 n (λ k. place_at (build size rs) k)) (build_count ∙ sym (length-map rs place_of_item))
      ∙ places_of (build size rs) 0 (map place_of_item rs) _ behind_count

  pub build_body : drop 258 (build size rs) ≡ body 258 size rs
  unfolding build
  build_body = drop_at (directory (map place_of_item rs)) (body 258 size rs) 258 (length_directory (map place_of_item rs) few_places)

  build_stand : (stand (build size rs) 258 (map place_of_item rs) ≡ true) × (map (item_at (build size rs)) (map place_of_item rs) ≡ rs)
  build_stand =
      stand_of (build size rs) 258 rs (build_body ∙ ap (λ (n : ℕ). body 258 n rs) (sym build_length)) (subst (λ (n : ℕ). LieInOrder 258 n rs) (sym build_length) fits)

  -- The records of a build are those that it was made of, and it is valid where its length is a catalogue's.
  pub build_records : records (build size rs) ≡ rs
  unfolding records
  build_records = ap (map (item_at (build size rs))) build_places ∙ build_stand.1

  pub build_valid : size ≤ 65535 → valid (build size rs) ≡ true
  build_valid high =
      let n = length rs in
      let in_size = fits_inside 258 size rs fits in
      let b = build size rs in
      let m : length (map place_of_item rs) ≡ n = length-map rs place_of_item in
      let e : 4 * n + 2 ≡ 4 * 0 + 2 + 4 * length (map place_of_item rs) = omega (arith, m) in
      let gone : drop (4 * n + 2) b ≡ replicate (4 * (64 - n)) 0 ++ body 258 size rs =
      ap (λ (k : ℕ). drop k b) e ∙ sym (drop-drop (4 * length (map place_of_item rs)) (4 * 0 + 2) b) ∙ ap (drop (4 * length (map place_of_item rs))) behind_count
      ∙ drop_at (each (map place_of_item rs) place_bytes) _ (4 * length (map place_of_item rs)) (length_each (map place_of_item rs))
      ∙ ap (λ (k : ℕ). replicate (4 * (64 - k)) 0 ++ body 258 size rs) m in
      let zero_part : part (4 * n + 2) (4 * (64 - n)) b ≡ replicate (4 * (64 - n)) 0 = ap (take (4 * (64 - n))) gone ∙ take_at _ _ (4 * (64 - n)) (length-replicate (4 * (64 - n)) 0) in
      valid_true b
      (record {
        low = omega (arith, build_length, in_size);
        high = omega (arith, build_length);
        most = omega (arith, build_count);
        unused = ap (λ (k : ℕ). all_zero (part (4 * k + 2) (4 * (64 - k)) b)) build_count ∙ ap all_zero zero_part ∙ zeros_true (4 * (64 - n));
        standing_all = ap (stand b 258) build_places ∙ build_stand.0;
      })
