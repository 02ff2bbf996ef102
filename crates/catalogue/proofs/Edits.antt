-- What each writing call makes of a build: the build of the new records. Assumes nothing.
use Prim.Native.Nat.{ℕ, suc, ◌+◌, ◌≤◌, ◌<◌}
use mathlib.Core.Path.{◌≡◌, refl, sym, ap, ap₂, ◌∙◌, subst}
use mathlib.Core.List.{List, [], ◌∷◌, ◌++◌, map}
use native.Mathlib.Numerals.{add-one}
use native.Mathlib.Omega.{arith}
use lib.ListN.{length, take, drop, replicate, length-map, length-append}
use lib.Seq.{sets, split_at, length-take-le}
use Rattle.catalogue.specs.declared.Place.{Place}
use Rattle.catalogue.specs.Format.{Item, count, place_at, records, directory, body, place_of_item, build}
use Rattle.catalogue.specs.Work.{closed, opened}
use Rattle.catalogue.specs.Calls.{no_item, record_at, without}
use Rattle.catalogue.specs.Statements.{AllBytes, LieInOrder}
use Rattle.catalogue.proofs.Built.{valid_says, built, records_fit, length_records, length_directory}
use Rattle.catalogue.proofs.Directories.{closed_is, opened_is}
use Rattle.catalogue.proofs.Bodies.{ends, cleared_is, filled_is}
use Rattle.catalogue.proofs.Indexed.{Indexed, lies}

pub map_append : {A B : Type 0} (f : A → B) (xs ys : List A) → map f (xs ++ ys) ≡ map f xs ++ map f ys
map_append f [] ys = refl
map_append f (x ∷ xs) ys = ap (λ (l : List _). f x ∷ l) (map_append f xs ys)

module _ (size : ℕ) (ps ss : List Item) where
  long_directory : (r : Item) → length (ps ++ (r ∷ ss)) ≤ 64 → length (directory (map place_of_item (ps ++ (r ∷ ss)))) ≡ 258
  long_directory r few = length_directory (map place_of_item (ps ++ (r ∷ ss))) (omega (arith, length-map (ps ++ (r ∷ ss)) place_of_item))

  -- a record that is cleared, its place closed
  pub remove_is : (r : Item) (n k : ℕ) → length ps ≡ k → length (ps ++ (r ∷ ss)) ≡ n → n ≤ 64 → LieInOrder 258 size (ps ++ (r ∷ ss))
      → closed n k (sets (build size (ps ++ (r ∷ ss))) r.start (replicate (length r.bytes) 0)) ≡ build size (ps ++ ss)
  unfolding build
  remove_is r n k lk ln few f =
      let D = directory (map place_of_item (ps ++ (r ∷ ss))) in
      let B = body 258 size (ps ++ ss) in
      let mp = length-map ps place_of_item in
      let ml = length-map (ps ++ (r ∷ ss)) place_of_item in
      let me = ap length (map_append place_of_item ps (r ∷ ss)) in
      ap (closed n k) (cleared_is D size ps ss (long_directory r (omega (arith, ln, few))) r f
      ∙ ap (λ (l : List Place). directory l ++ B) (map_append place_of_item ps (r ∷ ss)))
      ∙ closed_is (map place_of_item ps) (map place_of_item ss) B (place_of_item r) n k (mp ∙ lk) (sym me ∙ ml ∙ ln) few
      ∙ ap (λ (l : List Place). directory l ++ B) (sym (map_append place_of_item ps ss))

  -- a place that is opened, and a file that is stored at the start of a gap
  pub add_is : (file : List ℕ) (n k : ℕ) → length ps ≡ k → length (ps ++ ss) ≡ n → n < 64 → LieInOrder 258 size (ps ++ ss) → LieInOrder (ends 258 ps + length file) size ss
      → sets (opened n k (record { offset = ends 258 ps; size = length file }) (build size (ps ++ ss))) (ends 258 ps) file
      ≡ build size (ps ++ (record { start = ends 258 ps; bytes = file } ∷ ss))
  unfolding build
  add_is file n k lk ln few f g =
      let r : Item = record { start = ends 258 ps; bytes = file } in
      let B = body 258 size (ps ++ ss) in
      let mp = length-map ps place_of_item in
      let ml = length-map (ps ++ ss) place_of_item in
      let me = ap length (map_append place_of_item ps ss) in
      let a = length-append ps ss in
      let d = length-append ps (r ∷ ss) in
      let few_more : length (ps ++ (r ∷ ss)) ≤ 64 = omega (arith, a, d, ln, few) in
      ap (λ (l : List Place). sets (opened n k (place_of_item r) (directory l ++ B)) (ends 258 ps) file) (map_append place_of_item ps ss)
      ∙ ap (λ (l : List ℕ). sets l (ends 258 ps) file)
      (opened_is (map place_of_item ps) (map place_of_item ss) B (place_of_item r) n k (mp ∙ lk) (sym me ∙ ml ∙ ln) few
      ∙ ap (λ (l : List Place). directory l ++ B) (sym (map_append place_of_item ps (r ∷ ss))))
      ∙ filled_is (directory (map place_of_item (ps ++ (r ∷ ss)))) size ps ss (long_directory r few_more) file f g

-- a valid catalogue, cut at the record of an index
module _ (b : List ℕ) (small : AllBytes b) (k : ℕ) (i : Indexed b k) where
  cut_records : records b ≡ take k (records b) ++ (record_at b k ∷ drop (suc k) (records b))
  unfolding record_at
  cut_records = split_at (records b) k no_item (omega (arith, i.below, length_records b))

  -- what clearing the bytes of the record and closing its place leave
  pub removed_is : (n offset size : ℕ) → n ≡ count b → offset ≡ (place_at b k).offset → size ≡ (place_at b k).size
      → closed n k (sets b offset (replicate size 0)) ≡ build (length b) (without k (records b))
  unfolding without
  removed_is n offset size en eo es =
      let rs = records b in
      let ps = take k rs in
      let r = record_at b k in
      let ss = drop (suc k) rs in
      let l = lies b k offset size i eo es in
      let v = valid_says b i.whole in
      let lr = length_records b in
      let lk : length ps ≡ k = length-take-le k rs (omega (arith, i.below, lr)) in
      let ln : length (ps ++ (r ∷ ss)) ≡ n = ap length (sym cut_records) ∙ lr ∙ sym en in
      let few : n ≤ 64 = omega (arith, en, v.most) in
      ap₂ (λ (x y : ℕ). closed n k (sets b x (replicate y 0))) l.0 l.1
      ∙ ap (λ (x : List ℕ). closed n k (sets x r.start (replicate (length r.bytes) 0))) (built b small i.whole ∙ ap (build (length b)) cut_records)
      ∙ remove_is (length b) ps ss r n k lk ln few (subst (LieInOrder 258 (length b)) cut_records (records_fit b i.whole))
      ∙ ap (λ (j : ℕ). build (length b) (take k rs ++ drop j rs)) (sym (add-one k))
