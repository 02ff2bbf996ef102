-- The bytes of the records: one taken out, one put into a gap, one moved down. Assumes nothing.
use Prim.Native.Nat.{ℕ, ◌+◌, ◌-◌, ◌≤◌}
use mathlib.Core.Path.{◌≡◌, refl, sym, ap, ◌∙◌}
use mathlib.Core.List.{List, [], ◌∷◌, ◌++◌, append_assoc}
use native.Mathlib.Omega.{arith}
use lib.ListN.{length, replicate, length-append, length-replicate, replicate-append-replicate}
use lib.Seq.{sets}
use Rattle.catalogue.specs.Format.{part, Item, body}
use Rattle.catalogue.specs.Work.{slid_down}
use Rattle.catalogue.specs.Statements.{LieInOrder}
use Rattle.catalogue.proofs.Directories.{slid_down_lem, sets_middle, cut_first}

-- where the records end, and their bytes from a position up to there
unfoldable pub ends : ℕ → List Item → ℕ
ends pos [] = pos
ends pos (r ∷ rs) = ends (r.start + length r.bytes) rs

unfoldable pub front : ℕ → List Item → List ℕ
front pos [] = []
front pos (r ∷ rs) = replicate (r.start - pos) 0 ++ (r.bytes ++ front (r.start + length r.bytes) rs)

pub body_cut : (pos size : ℕ) (rs ss : List Item) → body pos size (rs ++ ss) ≡ front pos rs ++ body (ends pos rs) size ss
unfolding body front ends
body_cut pos size [] ss = refl
body_cut pos size (r ∷ rs) ss =
    let z : List ℕ = replicate (r.start - pos) 0 in
    let next = r.start + length r.bytes in
    ap (λ (l : List ℕ). z ++ (r.bytes ++ l)) (body_cut next size rs ss)
    ∙ ap (λ (l : List ℕ). z ++ l) (sym (append_assoc r.bytes (front next rs) (body (ends next rs) size ss)))
    ∙ sym (append_assoc z (r.bytes ++ front next rs) (body (ends next rs) size ss))

pub fits_rest : (pos size : ℕ) (rs ss : List Item) → LieInOrder pos size (rs ++ ss) → LieInOrder (ends pos rs) size ss
unfolding ends
fits_rest pos size [] ss f = f
fits_rest pos size (r ∷ rs) ss f = fits_rest (r.start + length r.bytes) size rs ss f.2

pub length_front : (pos size : ℕ) (rs ss : List Item) → LieInOrder pos size (rs ++ ss) → pos + length (front pos rs) ≡ ends pos rs
unfolding front ends
length_front pos size [] ss f = omega arith
length_front pos size (r ∷ rs) ss f =
    let next = r.start + length r.bytes in
    let e = length_front next size rs ss f.2 in
    let z = length-replicate {A = ℕ} (r.start - pos) 0 in
    let a = length-append (replicate (r.start - pos) 0) (r.bytes ++ front next rs) in
    let d = length-append r.bytes (front next rs) in
    omega (arith, e, z, a, d, f.0)

-- the records before and behind may be joined where those behind begin late enough
pub fits_join : (pos size : ℕ) (rs ss : List Item) → (ss' : List Item) → LieInOrder pos size (rs ++ ss) → LieInOrder (ends pos rs) size ss' → LieInOrder pos size (rs ++ ss')
unfolding ends
fits_join pos size [] ss ss' f g = g
fits_join pos size (r ∷ rs) ss ss' f g = (f.0, f.1, fits_join (r.start + length r.bytes) size rs ss ss' f.2 g)

pub fits_lower : (pos late size : ℕ) (ss : List Item) → pos ≤ late → LieInOrder late size ss → LieInOrder pos size ss
fits_lower pos late size [] h f = omega (arith, f)
fits_lower pos late size (r ∷ rs) h f = (omega (arith, f.0), f.1, f.2)

-- zeros before the records are part of the gap before them
zeros_join : (m n : ℕ) (X : List ℕ) → replicate m 0 ++ (replicate n 0 ++ X) ≡ replicate (m + n) 0 ++ X
zeros_join m n X = sym (append_assoc (replicate m 0) (replicate n 0) X) ∙ ap (λ (l : List ℕ). l ++ X) (replicate-append-replicate m n 0)

pub gap_joins : (pos late size : ℕ) (ss : List Item) (gap : ℕ) → pos + gap ≡ late → LieInOrder late size ss → replicate gap 0 ++ body late size ss ≡ body pos size ss
unfolding body
gap_joins pos late size [] gap e f =
    let n : gap + (size - late) ≡ size - pos = omega (arith, f) in
    replicate-append-replicate gap (size - late) 0 ∙ ap (λ (k : ℕ). replicate k 0) n
gap_joins pos late size (r ∷ rs) gap e f =
    let n : gap + (r.start - late) ≡ r.start - pos = omega (arith, f.0) in
    zeros_join gap (r.start - late) (r.bytes ++ body (r.start + length r.bytes) size rs)
    ∙ ap (λ (k : ℕ). replicate k 0 ++ (r.bytes ++ body (r.start + length r.bytes) size rs)) n

-- the bytes of the records behind a directory of 258 bytes
module _ (D : List ℕ) (size : ℕ) (rs ss : List Item) (long : length D ≡ 258) where
  -- what stands before the records behind
  before_length : (ss' : List Item) → LieInOrder 258 size (rs ++ ss') → length (D ++ front 258 rs) ≡ ends 258 rs
  before_length ss' f = length-append D (front 258 rs) ∙ ap (λ (n : ℕ). n + length (front 258 rs)) long ∙ length_front 258 size rs ss' f

  cut : (ss' : List Item) → D ++ body 258 size (rs ++ ss') ≡ (D ++ front 258 rs) ++ body (ends 258 rs) size ss'
  cut ss' = ap (λ (l : List ℕ). D ++ l) (body_cut 258 size rs ss') ∙ sym (append_assoc D (front 258 rs) (body (ends 258 rs) size ss'))

  -- a record whose bytes are cleared is gone
  pub cleared_is : (r : Item) → LieInOrder 258 size (rs ++ (r ∷ ss))
      → sets (D ++ body 258 size (rs ++ (r ∷ ss))) r.start (replicate (length r.bytes) 0) ≡ D ++ body 258 size (rs ++ ss)
  unfolding body
  cleared_is r f =
      let e = ends 258 rs in
      let o = r.start in
      let n = length r.bytes in
      let X = body (o + n) size ss in
      let g = fits_rest 258 size rs (r ∷ ss) f in
      let P = D ++ front 258 rs in
      let z : List ℕ = replicate (o - e) 0 in
      let there : length (P ++ z) ≡ o = omega (arith, length-append P z, before_length (r ∷ ss) f, length-replicate {A = ℕ} (o - e) 0, g.0) in
      let gap : e + (o - e + n) ≡ o + n = omega (arith, g.0) in
      ap (λ (l : List ℕ). sets l o (replicate n 0)) (cut (r ∷ ss) ∙ sym (append_assoc P z (r.bytes ++ X)))
      ∙ sets_middle (P ++ z) r.bytes X (replicate n 0) o there (sym (length-replicate n 0))
      ∙ append_assoc P z (replicate n 0 ++ X)
      ∙ ap (λ (l : List ℕ). P ++ l) (zeros_join (o - e) n X ∙ gap_joins e (o + n) size ss (o - e + n) gap g.2)
      ∙ sym (cut ss)

  -- a file that is stored at the start of a gap is a record
  pub filled_is : (file : List ℕ) → LieInOrder 258 size (rs ++ ss) → LieInOrder (ends 258 rs + length file) size ss
      → sets (D ++ body 258 size (rs ++ ss)) (ends 258 rs) file ≡ D ++ body 258 size (rs ++ (record { start = ends 258 rs; bytes = file } ∷ ss))
  unfolding body
  filled_is file f g =
      let e = ends 258 rs in
      let n = length file in
      let X = body (e + n) size ss in
      let P = D ++ front 258 rs in
      let none : 0 ≡ e - e = omega arith in
      ap (λ (l : List ℕ). sets l e file) (cut ss ∙ ap (λ (l : List ℕ). P ++ l) (sym (gap_joins e (e + n) size ss n refl g)))
      ∙ sets_middle P (replicate n 0) X file e (before_length ss f) (length-replicate n 0)
      ∙ ap (λ (k : ℕ). P ++ (replicate k 0 ++ (file ++ X))) none
      ∙ sym (cut (record { start = e; bytes = file } ∷ ss))

  -- a record that is moved down over the gap before it
  pub moved_is : (r : Item) → LieInOrder 258 size (rs ++ (r ∷ ss))
      → slid_down (ends 258 rs) (r.start - ends 258 rs) (length r.bytes) (D ++ body 258 size (rs ++ (r ∷ ss))) ≡ D ++ body 258 size (rs ++ (record { start = ends 258 rs; bytes = r.bytes } ∷ ss))
  unfolding body
  moved_is r f =
      let e = ends 258 rs in
      let o = r.start in
      let n = length r.bytes in
      let X = body (o + n) size ss in
      let g = fits_rest 258 size rs (r ∷ ss) f in
      let P = D ++ front 258 rs in
      let none : 0 ≡ e - e = omega arith in
      let gap : e + n + (o - e) ≡ o + n = omega (arith, g.0) in
      ap (slid_down e (o - e) n) (cut (r ∷ ss))
      ∙ slid_down_lem P (replicate (o - e) 0) r.bytes X e (o - e) n (before_length (r ∷ ss) f) (length-replicate (o - e) 0) refl
      ∙ ap (λ (l : List ℕ). P ++ (r.bytes ++ l)) (gap_joins (e + n) (o + n) size ss (o - e) gap g.2)
      ∙ ap (λ (k : ℕ). P ++ (replicate k 0 ++ (r.bytes ++ body (e + n) size ss))) none
      ∙ sym (cut (record { start = e; bytes = r.bytes } ∷ ss))

  pub gap_is : (r : Item) → LieInOrder 258 size (rs ++ (r ∷ ss))
      → part (ends 258 rs) (r.start - ends 258 rs) (D ++ body 258 size (rs ++ (r ∷ ss))) ≡ replicate (r.start - ends 258 rs) 0
  unfolding body
  gap_is r f =
      let e = ends 258 rs in
      let o = r.start in
      let n = length r.bytes in
      let P = D ++ front 258 rs in
      ap (part e (o - e)) (cut (r ∷ ss))
      ∙ cut_first P (replicate (o - e) 0) r.bytes (body (o + n) size ss) e (o - e) n (before_length (r ∷ ss) f) (length-replicate (o - e) 0) refl
