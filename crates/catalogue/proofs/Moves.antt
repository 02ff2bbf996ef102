-- The loops that write: bytes stored one after the other, and bytes moved over a gap of zeros. Assumes nothing.
use Prim.Native.Nat.{ℕ, zero, suc, ◌+◌, ◌≤◌, ◌<◌, zero-le}
use mathlib.Core.Path.{◌≡◌, refl, sym, ap, ap₂, ◌∙◌}
use mathlib.Core.List.{List, [], ◌∷◌, ◌++◌, append_assoc}
use native.Mathlib.Nat.{not-suc-le-zero}
use native.Mathlib.Numerals.{add-one}
use native.Mathlib.Omega.{arith}
use lib.ListN.{length, get_or, take, drop, set, replicate, length-append, length-replicate, take-append-drop, drop_of_length-le}
use lib.Seq.{sets, length-sets, take-suc, drop-cons, take_all, set_at, get_or_at, take_at, drop_at, sets-eq, length-take-le}
use Rattle.boolean.proofs.Stored.{sets_append}
use Rattle.boolean.proofs.Lists.{part_then}
use Rattle.catalogue.specs.Format.{part}
use Rattle.catalogue.specs.Work.{slid_down, slid_up}
use Rattle.catalogue.proofs.Built.{length_part}

-- so many of the new bytes are stored
pub record Storing (old : List ℕ) (from : ℕ) (new : List ℕ) (i : ℕ) (b : List ℕ) : Type 0 where
  pub inside : i ≤ length new
  pub is : b ≡ sets old from (take i new)

pub storing_none : (old : List ℕ) (from : ℕ) (new : List ℕ) → Storing old from new 0 old
storing_none old from new = record { inside = zero-le; is = refl }

module _ {old : List ℕ} {from : ℕ} {new : List ℕ} {i : ℕ} {b : List ℕ} (s : Storing old from new i b) where
  pub storing_length : length b ≡ length old
  storing_length = ap length s.is ∙ length-sets old from (take i new)

  pub storing_next : i < length new → (v : ℕ) → v ≡ get_or new i 0 → Storing old from new (i + 1) (set b (from + i) v)
  storing_next h v e =
      let long : length (take i new) ≡ i = length-take-le i new s.inside in
      record {
        inside = omega arith;
        is =
            ap₂ (λ (l : List ℕ) (x : ℕ). set l (from + i) x) s.is e
            ∙ ap (λ (k : ℕ). set (sets old from (take i new)) (from + k) (get_or new i 0)) (sym long)
            ∙ sym (sets_append old from (take i new) (get_or new i 0 ∷ []))
            ∙ ap (sets old from) (sym (take-suc new i 0 h))
            ∙ ap (λ (k : ℕ). sets old from (take k new)) (sym (add-one i));
      }

  pub storing_all : length new ≤ i → b ≡ sets old from new
  storing_all h = s.is ∙ ap (sets old from) (take_all i new h)

-- one byte moved over the gap, down and up
zeros_end : (g : ℕ) (T : List ℕ) → replicate g 0 ++ (0 ∷ T) ≡ 0 ∷ (replicate g 0 ++ T)
zeros_end zero T = refl
zeros_end (suc g) T = ap (λ (l : List ℕ). 0 ∷ l) (zeros_end g T)

module _ (Q : List ℕ) (q : ℕ) (long : length Q ≡ q) (x : ℕ) (T : List ℕ) where
  behind : (y g : ℕ) → length (Q ++ (y ∷ replicate g 0)) ≡ q + suc g
  behind y g = length-append Q (y ∷ replicate g 0) ∙ ap₂ (λ (a c : ℕ). a + suc c) long (length-replicate g 0)

  pub gap_read : (g : ℕ) → get_or (Q ++ (replicate g 0 ++ (x ∷ T))) (q + g) 0 ≡ x
  gap_read g =
      ap (λ (l : List ℕ). get_or l (q + g) 0) (sym (append_assoc Q (replicate g 0) (x ∷ T)))
      ∙ get_or_at (Q ++ replicate g 0) x T 0 (q + g) (length-append Q (replicate g 0) ∙ ap₂ (λ (a c : ℕ). a + c) long (length-replicate g 0))

  pub gap_up : (g : ℕ) → 0 < g → set (set (Q ++ (replicate g 0 ++ (x ∷ T))) q x) (q + g) 0 ≡ Q ++ (x ∷ (replicate g 0 ++ T))
  gap_up zero h = absurd (not-suc-le-zero h)
  gap_up (suc g) h =
      ap (λ (l : List ℕ). set l (q + suc g) 0)
      (set_at Q 0 (replicate g 0 ++ (x ∷ T)) x q long ∙ sym (append_assoc Q (x ∷ replicate g 0) (x ∷ T)))
      ∙ set_at (Q ++ (x ∷ replicate g 0)) x T 0 (q + suc g) (behind x g)
      ∙ append_assoc Q (x ∷ replicate g 0) (0 ∷ T)
      ∙ ap (λ (l : List ℕ). Q ++ (x ∷ l)) (zeros_end g T)

  pub gap_down : (g : ℕ) → 0 < g → set (set (Q ++ (x ∷ (replicate g 0 ++ T))) (q + g) x) q 0 ≡ Q ++ (replicate g 0 ++ (x ∷ T))
  gap_down zero h = absurd (not-suc-le-zero h)
  gap_down (suc g) h =
      ap (λ (l : List ℕ). set (set l (q + suc g) x) q 0) (ap (λ (l : List ℕ). Q ++ (x ∷ l)) (sym (zeros_end g T)) ∙ sym (append_assoc Q (x ∷ replicate g 0) (0 ∷ T)))
      ∙ ap (λ (l : List ℕ). set l q 0) (set_at (Q ++ (x ∷ replicate g 0)) 0 T x (q + suc g) (behind x g) ∙ append_assoc Q (x ∷ replicate g 0) (x ∷ T))
      ∙ set_at Q x (replicate g 0 ++ (x ∷ T)) 0 q long

-- so many of the bytes stand before the gap, and the others behind it
pub record Sliding (P f S : List ℕ) (g i : ℕ) (b : List ℕ) : Type 0 where
  pub inside : i ≤ length f
  pub is : b ≡ P ++ (take i f ++ (replicate g 0 ++ (drop i f ++ S)))

module _ (P f S : List ℕ) (g p : ℕ) (some : 0 < g) (long : length P ≡ p) (i : ℕ) (h : i < length f) where
  Q : List ℕ
  Q = P ++ take i f

  T : List ℕ
  T = drop (suc i) f ++ S

  length_Q : length Q ≡ p + i
  unfolding Q
  length_Q = length-append P (take i f) ∙ ap₂ (λ (a c : ℕ). a + c) long (length-take-le i f (omega arith))

  lower : P ++ (take i f ++ (replicate g 0 ++ (drop i f ++ S))) ≡ Q ++ (replicate g 0 ++ (get_or f i 0 ∷ T))
  unfolding Q T
  lower =
      sym (append_assoc P (take i f) (replicate g 0 ++ (drop i f ++ S)))
      ∙ ap (λ (l : List ℕ). (P ++ take i f) ++ (replicate g 0 ++ (l ++ S))) (drop-cons f i 0 h)

  upper : P ++ (take (suc i) f ++ (replicate g 0 ++ (drop (suc i) f ++ S))) ≡ Q ++ (get_or f i 0 ∷ (replicate g 0 ++ T))
  unfolding Q T
  upper =
      ap (λ (l : List ℕ). P ++ (l ++ (replicate g 0 ++ (drop (suc i) f ++ S)))) (take-suc f i 0 h)
      ∙ ap (λ (l : List ℕ). P ++ l) (append_assoc (take i f) (get_or f i 0 ∷ []) (replicate g 0 ++ (drop (suc i) f ++ S)))
      ∙ sym (append_assoc P (take i f) (get_or f i 0 ∷ (replicate g 0 ++ (drop (suc i) f ++ S))))

  pub down_next : (b : List ℕ) → Sliding P f S g i b → (from to : ℕ) → from ≡ p + g + i → to ≡ p + i
      → Sliding P f S g (i + 1) (set (set b to (get_or b from 0)) from 0)
  down_next b s from to e d =
      let here : from ≡ p + i + g = omega arith in
      let same : b ≡ Q ++ (replicate g 0 ++ (get_or f i 0 ∷ T)) = s.is ∙ lower in
      let read : get_or b from 0 ≡ get_or f i 0 = ap₂ (λ (l : List ℕ) (k : ℕ). get_or l k 0) same here ∙ gap_read Q (p + i) length_Q (get_or f i 0) T g in
      record {
        inside = omega arith;
        is =
            ap₂ (λ (v k : ℕ). set (set b k v) from 0) read d
            ∙ ap₂ (λ (l : List ℕ) (k : ℕ). set (set l (p + i) (get_or f i 0)) k 0) same here
            ∙ gap_up Q (p + i) length_Q (get_or f i 0) T g some
            ∙ sym upper
            ∙ ap (λ (k : ℕ). P ++ (take k f ++ (replicate g 0 ++ (drop k f ++ S)))) (sym (add-one i));
      }

  pub up_next : (b : List ℕ) → Sliding P f S g (suc i) b → (from to : ℕ) → from ≡ p + i → to ≡ p + i + g
      → Sliding P f S g i (set (set b to (get_or b from 0)) from 0)
  up_next b s from to e d =
      let same : b ≡ Q ++ (get_or f i 0 ∷ (replicate g 0 ++ T)) = s.is ∙ upper in
      let read : get_or b from 0 ≡ get_or f i 0 = ap₂ (λ (l : List ℕ) (k : ℕ). get_or l k 0) same e ∙ get_or_at Q (get_or f i 0) (replicate g 0 ++ T) 0 (p + i) length_Q in
      record {
        inside = omega arith;
        is =
            ap₂ (λ (v k : ℕ). set (set b k v) from 0) read d
            ∙ ap₂ (λ (l : List ℕ) (k : ℕ). set (set l (p + i + g) (get_or f i 0)) k 0) same e
            ∙ gap_down Q (p + i) length_Q (get_or f i 0) T g some
            ∙ sym lower;
      }

-- a list in four parts
pub four_parts : (b : List ℕ) (p q r : ℕ) → b ≡ take p b ++ (part p q b ++ (part (p + q) r b ++ drop (p + q + r) b))
four_parts b p q r =
    sym (take-append-drop p b)
    ∙ ap (λ (l : List ℕ). take p b ++ l) (part_then p q b ∙ ap (λ (l : List ℕ). part p q b ++ l) (part_then (p + q) r b))

module _ (b : List ℕ) (to g size : ℕ) (fits : to + g + size ≤ length b) (zero_gap : part to g b ≡ replicate g 0) where
  pub down_start : Sliding (take to b) (part (to + g) size b) (drop (to + g + size) b) g 0 b
  down_start = record {
    inside = zero-le;
    is = four_parts b to g size ∙ ap (λ (l : List ℕ). take to b ++ (l ++ (part (to + g) size b ++ drop (to + g + size) b))) zero_gap;
  }

  pub down_done : (i : ℕ) (l : List ℕ) → size ≤ i → Sliding (take to b) (part (to + g) size b) (drop (to + g + size) b) g i l → l ≡ slid_down to g size b
  down_done i l h s =
      let f = part (to + g) size b in
      let n : length f ≡ size = length_part (to + g) size b fits in
      let m : length f ≤ i = omega arith in
      s.is ∙ ap₂ (λ (x y : List ℕ). take to b ++ (x ++ (replicate g 0 ++ (y ++ drop (to + g + size) b)))) (take_all i f m) (drop_of_length-le f m)

module _ (b : List ℕ) (from size g : ℕ) (fits : from + size + g ≤ length b) (zero_gap : part (from + size) g b ≡ replicate g 0) where
  pub up_start : Sliding (take from b) (part from size b) (drop (from + size + g) b) g size b
  up_start =
      let f = part from size b in
      let n : length f ≡ size = length_part from size b (omega arith) in
      let m : length f ≤ size = omega arith in
      record {
        inside = omega arith;
        is = four_parts b from size g
            ∙ ap (λ (l : List ℕ). take from b ++ (f ++ (l ++ drop (from + size + g) b))) zero_gap
            ∙ sym (ap₂ (λ (x y : List ℕ). take from b ++ (x ++ (replicate g 0 ++ (y ++ drop (from + size + g) b)))) (take_all size f m) (drop_of_length-le f m));
      }

  pub up_done : (i : ℕ) (l : List ℕ) → i ≤ 0 → Sliding (take from b) (part from size b) (drop (from + size + g) b) g i l → l ≡ slid_up from size g b
  up_done i l h s =
      let z : i ≡ 0 = omega arith in
      let f = part from size b in
      s.is ∙ ap (λ (k : ℕ). take from b ++ (take k f ++ (replicate g 0 ++ (drop k f ++ drop (from + size + g) b)))) z

-- the bytes just stored
pub part_sets : (b : List ℕ) (i : ℕ) (vs : List ℕ) → i + length vs ≤ length b → part i (length vs) (sets b i vs) ≡ vs
part_sets b i vs h =
    let n : length (take i b) ≡ i = length-take-le i b (omega arith) in
    ap (part i (length vs)) (sets-eq vs b i h ∙ append_assoc (take i b) vs (drop (i + length vs) b))
    ∙ ap (take (length vs)) (drop_at (take i b) (vs ++ drop (i + length vs) b) i n)
    ∙ take_at vs (drop (i + length vs) b) (length vs) refl
