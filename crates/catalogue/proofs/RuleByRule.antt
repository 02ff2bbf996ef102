-- The computing test holds exactly of the buffers that keep the rules. Assumes nothing.
use Rattle.std.specs.Prelude.{Ok}
use Prim.Native.Nat.{ℕ, zero, suc, ◌+◌, ◌-◌, ◌*◌, ◌≤◌, ◌<◌}
use mathlib.Core.Path.{◌≡◌, refl, sym, ap, ◌∙◌, subst}
use mathlib.Core.Logic.{◌↔◌}
use mathlib.Core.Bool.{Bool, true, false}
use mathlib.Core.List.{List, [], ◌∷◌}
use native.Mathlib.Nat.{not-suc-le-zero, le_of_suc-le-suc, zero-lt-suc}
use native.Mathlib.Omega.{arith}
use native.Mathlib.Decide.{ℕ_discrete}
use borrow.Author.Tests.{leb-true, leb-false}
use lib.Dec.{leb}
use lib.ListN.{length, get_or, drop, length-drop}
use lib.Seq.{get_or-take, get_or-drop}
use Rattle.refusals.specs.Table.{is_accepted}
use Rattle.boolean.specs.Sums.{list_from, list_below}
use Rattle.boolean.specs.Functions.{at}
use Rattle.boolean.proofs.Lists.{length_list_below, get_or_list_below}
use Rattle.boolean.proofs.Every.{both_true}
use Rattle.refusals.proofs.Bounds.{below_at, below_true}
use Rattle.refusals.proofs.Checks.{is_accepted_lem}
use Rattle.boxfile.specs.File.{file_found}
use Rattle.catalogue.specs.declared.Place.{Place}
use Rattle.catalogue.specs.Format.{part, all_zero, accepted, count, place_at, places, stand, valid}
use Rattle.catalogue.specs.Rules.{offset, size, InRecord, Rules}
use Rattle.catalogue.proofs.Built.{Stands, stands_true, stand_cons, Valid, valid_says, valid_true, length_part}
use Rattle.catalogue.proofs.Leaving.{accepted_some}

-- zeros by index
zero_at : (xs : List ℕ) → all_zero xs ≡ true → (i : ℕ) → at xs i ≡ 0
zero_at xs h i = omega (arith, below_at 1 xs (zero-lt-suc 0) h i)

zeros_of : (xs : List ℕ) → ((i : ℕ) → i < length xs → at xs i ≡ 0) → all_zero xs ≡ true
zeros_of xs h = below_true 1 xs (λ i l. omega (arith, h i l))

part_at : (b : List ℕ) (pos n i : ℕ) → pos ≤ i → i < pos + n → at (part pos n b) (i - pos) ≡ at b i
part_at b pos n i h l =
    let e : pos + (i - pos) ≡ i = omega arith in
    get_or-take n (drop pos b) (i - pos) 0 (omega arith) ∙ get_or-drop pos b (i - pos) 0 ∙ ap (at b) e

-- From the test to the rules: records that stand, by index.
module _ (b : List ℕ) (d : Place) where
  stand_low : (end : ℕ) (ps : List Place) → stand b end ps ≡ true → (k : ℕ) → k < length ps → end ≤ (get_or ps k d).offset
  stand_low end [] h k l = absurd (not-suc-le-zero l)
  stand_low end (p ∷ ps) h zero l = (stand_cons b end p ps h).0.past
  stand_low end (p ∷ ps) h (suc k) l =
      let t = stand_cons b end p ps h in
      omega (arith, t.0.past, stand_low (p.offset + p.size) ps t.1 k (le_of_suc-le-suc l))

  stand_here : (end : ℕ) (ps : List Place) → stand b end ps ≡ true → (k : ℕ) → k < length ps
      → ((get_or ps k d).offset + (get_or ps k d).size ≤ length b) × (accepted (part (get_or ps k d).offset (get_or ps k d).size b) ≡ true)
  stand_here end [] h k l = absurd (not-suc-le-zero l)
  stand_here end (p ∷ ps) h zero l = let s = (stand_cons b end p ps h).0 in (s.inside, s.file)
  stand_here end (p ∷ ps) h (suc k) l = stand_here (p.offset + p.size) ps (stand_cons b end p ps h).1 k (le_of_suc-le-suc l)

  stand_apart : (end : ℕ) (ps : List Place) → stand b end ps ≡ true → (j k : ℕ) → j < k → k < length ps → (get_or ps j d).offset + (get_or ps j d).size ≤ (get_or ps k d).offset
  stand_apart end [] h j k m l = absurd (not-suc-le-zero l)
  stand_apart end (p ∷ ps) h j zero m l = absurd (not-suc-le-zero m)
  stand_apart end (p ∷ ps) h zero (suc k) m l = stand_low (p.offset + p.size) ps (stand_cons b end p ps h).1 k (le_of_suc-le-suc l)
  stand_apart end (p ∷ ps) h (suc j) (suc k) m l = stand_apart (p.offset + p.size) ps (stand_cons b end p ps h).1 j k (le_of_suc-le-suc m) (le_of_suc-le-suc l)

  stand_between : (end : ℕ) (ps : List Place) → stand b end ps ≡ true → (i : ℕ) → end ≤ i
      → ((k : ℕ) → k < length ps → (get_or ps k d).offset ≤ i → i < (get_or ps k d).offset + (get_or ps k d).size → ⊥) → at b i ≡ 0
  unfolding stand
  stand_between end [] h i l out =
      let e : end + (i - end) ≡ i = omega arith in
      sym (get_or-drop end b (i - end) 0 ∙ ap (at b) e) ∙ zero_at (drop end b) h (i - end)
  stand_between end (p ∷ ps) h i l out =
      by (λ m. stand_between (p.offset + p.size) ps (stand_cons b end p ps h).1 i m (λ k n. out (suc k) (omega arith)))
      (stand_cons b end p ps h).0 (leb p.offset i) refl (leb (p.offset + p.size) i) refl
    where
      by : (p.offset + p.size ≤ i → at b i ≡ 0) → Stands b end p → (t : Bool) → leb p.offset i ≡ t → (u : Bool) → leb (p.offset + p.size) i ≡ u → at b i ≡ 0
      by rec s false e u f =
          let m = leb-false p.offset i e in
          sym (part_at b end (p.offset - end) i l (omega (arith, m, s.past))) ∙ zero_at (part end (p.offset - end) b) s.gap (i - end)
      by rec s true e true f = rec (leb-true (p.offset + p.size) i f)
      by rec s true e false f = absurd (out 0 (zero-lt-suc _) (leb-true p.offset i e) (leb-false (p.offset + p.size) i f))

module _ (b : List ℕ) (h : valid b ≡ true) where
  v : Valid b
  v = valid_says b h

  d : Place
  d = place_at b 0

  long : (k : ℕ) → k < count b → k < length (places b)
  unfolding places
  long k l = omega (arith, length_list_below (count b) (λ i. place_at b i))

  short : (k : ℕ) → k < length (places b) → k < count b
  unfolding places
  short k l = omega (arith, length_list_below (count b) (λ i. place_at b i))

  is : (k : ℕ) → k < count b → get_or (places b) k d ≡ place_at b k
  unfolding places
  is k l = get_or_list_below (count b) (λ i. place_at b i) k d l

  far : (j k : ℕ) → j < k → k < count b → offset b j + size b j ≤ offset b k
  far j k m l =
      let e = stand_apart b d 258 (places b) v.standing_all j k m (long k l) in
      let x = ap (λ (p : Place). p.offset + p.size) (is j (omega arith)) in
      let y = ap (λ (p : Place). p.offset) (is k l) in
      omega (arith, e, x, y)

  low : (k : ℕ) → k < count b → 258 ≤ offset b k
  low k l = subst (λ (p : Place). 258 ≤ p.offset) (is k l) (stand_low b d 258 (places b) v.standing_all k (long k l))

  ends_inside : (k : ℕ) → k < count b → offset b k + size b k ≤ length b
  ends_inside k l = subst (λ (p : Place). p.offset + p.size ≤ length b) (is k l) (stand_here b d 258 (places b) v.standing_all k (long k l)).0

  file : (k : ℕ) → k < count b → file_found (part (offset b k) (size b k) b) ≡ (Ok tt)
  unfolding accepted
  file k l = is_accepted_lem _ (subst (λ (p : Place). accepted (part p.offset p.size b) ≡ true) (is k l) (stand_here b d 258 (places b) v.standing_all k (long k l)).1)

  empty : (i : ℕ) → 4 * count b + 2 ≤ i → i < 258 → at b i ≡ 0
  empty i l m =
      let few = v.most in
      sym (part_at b (4 * count b + 2) (4 * (64 - count b)) i l (omega arith)) ∙ zero_at (part (4 * count b + 2) (4 * (64 - count b)) b) v.unused (i - (4 * count b + 2))

  gap : (i : ℕ) → 258 ≤ i → i < length b → ((k : ℕ) → k < count b → InRecord b k i → ⊥) → at b i ≡ 0
  gap i l m out =
      stand_between b d 258 (places b) v.standing_all i l
      (λ k o x y. out k (short k o) (subst (λ (p : Place). p.offset ≤ i) (is k (short k o)) x, subst (λ (p : Place). i < p.offset + p.size) (is k (short k o)) y))

  pub rules : Rules b
  rules = record {
    shortest = v.low;
    longest = v.high;
    few = v.most;
    unused = empty;
    sorted = λ j k m l. (let e = far j k m l in omega arith);
    files = file;
    above = low;
    inside = ends_inside;
    apart = λ j k i m l x y. (let e = far j k m l in omega (arith, x.1, y.0));
    between = gap;
  }

-- And back.
module _ (b : List ℕ) (r : Rules b) where
  some : (k : ℕ) → k < count b → 0 < size b k
  some k l = omega (arith, accepted_some _ (r.files k l), length_part (offset b k) (size b k) b (r.inside k l))

  -- sorted places of records that share no byte follow one another
  follow : (j k : ℕ) → j < k → k < count b → offset b j + size b j ≤ offset b k
  follow j k m l = by (leb (offset b j + size b j) (offset b k)) refl
    where
      by : (t : Bool) → leb (offset b j + size b j) (offset b k) ≡ t → offset b j + size b j ≤ offset b k
      by true e = leb-true _ _ e
      by false e =
          let less = leb-false (offset b j + size b j) (offset b k) e in
          let full = some k l in
          absurd (r.apart j k (offset b k) m l (r.sorted j k m l, less) (omega arith, omega arith))

  -- the bytes from an end on that are in no record from k on are zero
  Clear : ℕ → ℕ → Type 0
  Clear k end = (i : ℕ) → end ≤ i → i < length b → ((j : ℕ) → k ≤ j → j < count b → InRecord b j i → ⊥) → at b i ≡ 0

  -- the bytes before record k are in no record from k on
  before : (k i : ℕ) → i < offset b k → (j : ℕ) → k ≤ j → j < count b → InRecord b j i → ⊥
  before k i l j p q w = by (ℕ_discrete j k)
    where
      by : Dec (j ≡ k) → ⊥
      by (yes z) = let t = ap (offset b) z in omega (arith, w.0)
      by (no z) = let t = r.sorted k j (omega arith) q in omega (arith, w.0)

  zero_gap : (k end : ℕ) → k < count b → end ≤ offset b k → Clear k end → all_zero (part end (offset b k - end) b) ≡ true
  unfolding Clear
  zero_gap k end l here out = zeros_of (part end (offset b k - end) b) by
    where
      by : (i : ℕ) → i < length (part end (offset b k - end) b) → at (part end (offset b k - end) b) i ≡ 0
      by i n =
          let inside = r.inside k l in
          let len = length_part end (offset b k - end) b (omega arith) in
          let x : end ≤ end + i = omega arith in
          let y : end + i < end + (offset b k - end) = omega arith in
          let back : end + i - end ≡ i = omega arith in
          ap (at (part end (offset b k - end) b)) (sym back) ∙ part_at b end (offset b k - end) (end + i) x y
          ∙ out (end + i) x (omega arith) (before k (end + i) (omega arith))

  -- past record k, what is in none from the next on is not in it either
  clear_next : (k end : ℕ) → end ≤ offset b k → Clear k end → Clear (suc k) (offset b k + size b k)
  unfolding Clear
  clear_next k end here out i p q none = out i (omega arith) q (λ j x y w. by j x y w (ℕ_discrete j k))
    where
      by : (j : ℕ) → k ≤ j → j < count b → InRecord b j i → Dec (j ≡ k) → ⊥
      by j x y w (yes z) = let t = ap (λ (a : ℕ). offset b a + size b a) z in omega (arith, w.1)
      by j x y w (no z) = none j (omega arith) y w

  stand_from : (m k end : ℕ) → k + m ≡ count b → end ≤ length b → ((j : ℕ) → k ≤ j → j < count b → end ≤ offset b j) → Clear k end
      → stand b end (list_from k m (λ i. place_at b i)) ≡ true
  unfolding list_from stand accepted Clear
  stand_from zero k end e fits low out =
      zeros_of (drop end b) (λ i l. get_or-drop end b i 0 ∙ out (end + i) (omega arith) (omega (arith, length-drop end b)) (λ j x y w. omega arith))
  stand_from (suc m) k end e fits low out =
      let l : k < count b = omega arith in
      let here = low k (omega arith) l in
      both_true _ _
      (stands_true b end (place_at b k) (record { past = here; inside = r.inside k l; gap = zero_gap k end l here out; file = ap is_accepted (r.files k l) }))
      (stand_from m (suc k) (offset b k + size b k) (omega arith) (r.inside k l) (λ j p q. follow k j (omega arith) q) (clear_next k end here out))

  pub rules_valid : valid b ≡ true
  unfolding places list_below Clear
  rules_valid = valid_true b (record {
    low = r.shortest;
    high = r.longest;
    most = r.few;
    unused = zeros_of (part (4 * count b + 2) (4 * (64 - count b)) b) (λ i l.
        let n = count b in
        let few = r.few in
        let len = length_part (4 * n + 2) (4 * (64 - n)) b (omega (arith, r.shortest)) in
        let x : 4 * n + 2 ≤ 4 * n + 2 + i = omega arith in
        let y : 4 * n + 2 + i < 4 * n + 2 + 4 * (64 - n) = omega (arith, len, l) in
        let back : 4 * n + 2 + i - (4 * n + 2) ≡ i = omega arith in
        ap (at (part (4 * n + 2) (4 * (64 - n)) b)) (sym back) ∙ part_at b (4 * n + 2) (4 * (64 - n)) (4 * n + 2 + i) x y ∙ r.unused (4 * n + 2 + i) x (omega arith));
    standing_all = stand_from (count b) 0 258 (omega arith) r.shortest (λ j p q. r.above j q)
        (λ i p q none. r.between i p q (λ j y w. none j (omega arith) y w));
  })

-- so the test holds exactly of the buffers that keep the rules
pub is_catalogue : (b : List ℕ) → (valid b ≡ true) ↔ Rules b
is_catalogue b = (rules b, rules_valid b)
