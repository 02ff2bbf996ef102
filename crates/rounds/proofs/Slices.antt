-- The boxes of a slice, one after the other: those from one on, their arrays, and what a loop over them has so far. Assumes nothing.
use Rattle.std.specs.Prelude.{Ok, Err}
use mathlib.Core.Path.{◌≡◌, refl, sym, ap, ◌∙◌, subst}
use mathlib.Core.Bool.{◌&&◌}
use mathlib.Core.List.{List, [], ◌∷◌, ◌++◌, Memᴰ}
use Prim.Native.Nat.{ℕ, zero, suc, ◌+◌, ◌*◌, ◌^◌, ◌≤◌, ◌<◌}
use native.Mathlib.Nat.{mul_assoc, mul-one, mul-le-mul}
use native.Mathlib.Numerals.{add-one}
use native.Mathlib.Omega.{arith}
use native.Mathlib.Decide.{dec_lt}
use lib.Bits.{bit_xor, xor_assoc, xor_zero_l, xor_zero_r}
use lib.Dec.{eqb}
use lib.ListN.{length, get_or, set, take, drop}
use lib.Pow.{pow_mono}
use lib.Seq.{take-length}
use Rattle.std.proofs.Common.{sum_by, get_or-set_same, get_or-set_other, length-set}
use Rattle.std.proofs.lemmas.List.Sums.{sum_by-cons}
use Rattle.std.proofs.lemmas.Nat.{pow-add}
use Rattle.std.specs.List.{list_all}
use Rattle.boolean.specs.Functions.{at, component, walsh, sign_bit}
use Rattle.boolean.specs.Sums.{each, every}
use Rattle.refusals.specs.Table.{Check, first}
use Rattle.refusals.specs.declared.Refusal.{Refusal}
use Rattle.refusals.proofs.Checks.{first_append, first_refused}
use Rattle.rounds.specs.Round.{Summand, inputs_of, outputs_of, summand_checks}
use Rattle.rounds.specs.Spectra.{peak, product, peak_places, sign_at}
use Rattle.rounds.specs.Work.{as_summand, summed, IsBox, Round, WorkStepped, TopOf, WitnessOf}
use Rattle.rounds.specs.declared.Summand.{Summand as Lent}
use Rattle.rounds.specs.declared.Work.{Work}
use Rattle.rounds.specs.declared.Top.{Top}

-- ---- the boxes from one on
pub rest_of : (boxes : List Lent) (k : ℕ) (s : Lent) → k < length boxes → drop k (summed boxes) ≡ as_summand (get_or boxes k s) ∷ drop (suc k) (summed boxes)
rest_of [] k s h = absurd (omega arith)
rest_of (b ∷ bs) zero s h = refl
rest_of (b ∷ bs) (suc k) s h = rest_of bs k s (omega arith)

pub rest_none : (boxes : List Lent) (k : ℕ) → length boxes ≤ k → drop k (summed boxes) ≡ []
rest_none [] zero h = refl
rest_none [] (suc k) h = refl
rest_none (b ∷ bs) zero h = absurd (omega arith)
rest_none (b ∷ bs) (suc k) h = rest_none bs k (omega arith)

-- each is one of them
box_at : (boxes : List Lent) (k : ℕ) (s : Lent) → k < length boxes → Memᴰ (as_summand (get_or boxes k s)) (summed boxes)
box_at [] k s h = absurd (omega arith)
box_at (b ∷ bs) zero s h = Memᴰ.head refl
box_at (b ∷ bs) (suc k) s h = Memᴰ.tail (box_at bs k s (omega arith))

pub summed_length : (boxes : List Lent) → length (summed boxes) ≡ length boxes
summed_length [] = refl
summed_length (b ∷ bs) = ap suc (summed_length bs)

pub inputs_summed : (boxes : List Lent) → sum_by (λ s. s.n) boxes ≡ inputs_of (summed boxes)
unfolding inputs_of
inputs_summed [] = refl
inputs_summed (b ∷ bs) = sum_by-cons (λ s. s.n) b bs ∙ ap (λ (n : ℕ). b.n + n) (inputs_summed bs)

pub outputs_summed : (boxes : List Lent) (m : ℕ) → list_all (λ s. eqb s.m m) boxes ≡ every (λ s. eqb s.outputs m) (summed boxes)
unfolding every
outputs_summed [] m = refl
outputs_summed (b ∷ bs) m = ap (λ t. eqb b.m m && t) (outputs_summed bs m)

-- so the box that a loop has is one, of as many outputs as box 1
module _ (boxes : List Lent) (k : ℕ) (s : Lent) (r : Round (summed boxes)) (h : k < length boxes) where
  pub box_of : IsBox (as_summand (get_or boxes k s))
  box_of = r.boxed _ (box_at boxes k s h)

  pub mask_of : (c : ℕ) → c < 2 ^ outputs_of (summed boxes) → c < 2 ^ (get_or boxes k s).m
  mask_of c l = subst (λ (m : ℕ). c < 2 ^ m) (sym (r.same _ (box_at boxes k s h))) l

-- ---- the loop over the boxes' checks
module _ (boxes : List Lent) (k : ℕ) (s : Lent) (h : k < length boxes)
    (so_far : first (each (drop k (summed boxes)) summand_checks) ≡ first (each (summed boxes) summand_checks)) where
  abbrev own : List Check
  own = summand_checks (as_summand (get_or boxes k s))

  checks_of : first (own ++ each (drop (suc k) (summed boxes)) summand_checks) ≡ first (each (summed boxes) summand_checks)
  unfolding each
  checks_of = ap (λ (ss : List Summand). first (each ss summand_checks)) (sym (rest_of boxes k s h)) ∙ so_far

  pub checks_refuse : (f : Refusal) → Err f ≡ first own → Err f ≡ first (each (summed boxes) summand_checks)
  checks_refuse f p = sym (first_refused own _ (sym p)) ∙ checks_of

  pub checks_pass : (Ok tt) ≡ first own → first (each (drop (k + 1) (summed boxes)) summand_checks) ≡ first (each (summed boxes) summand_checks)
  checks_pass p = rw add-one (sym (first_append own _ (sym p)) ∙ checks_of)

pub checks_end : (boxes : List Lent) (k : ℕ) → length boxes ≤ k → first (each (drop k (summed boxes)) summand_checks) ≡ first (each (summed boxes) summand_checks)
    → (Ok tt) ≡ first (each (summed boxes) summand_checks)
unfolding each first
checks_end boxes k h p = sym (ap (λ (ss : List Summand). first (each ss summand_checks)) (rest_none boxes k h)) ∙ p

-- an element is what it is, whatever would stand past the end
get_or-any : (boxes : List Lent) (k : ℕ) (s t : Lent) → k < length boxes → get_or boxes k s ≡ get_or boxes k t
get_or-any [] k s t h = absurd (omega arith)
get_or-any (b ∷ bs) zero s t h = refl
get_or-any (b ∷ bs) (suc k) s t h = get_or-any bs k s t (omega arith)

-- ---- the loop that writes each box's arrays: those below one are at component c, and those from it on are not touched
pub stepped_more : (boxes : List Lent) (c k : ℕ) (work : List Work) (s : Lent) (new : Work) → k < length work → k < length boxes → WorkStepped (get_or boxes k s) c new
    → ((j : ℕ) (t : Lent) (w : Work) → j < k → WorkStepped (get_or boxes j t) c (get_or work j w))
    → (j : ℕ) (t : Lent) (w : Work) → j < k + 1 → WorkStepped (get_or boxes j t) c (get_or (set work k new) j w)
stepped_more boxes c k work s new room h p below j t w l = go (dec_lt j k)
  where
    here : WorkStepped (get_or boxes k t) c (get_or (set work k new) k w)
    here = rw (get_or-any boxes k t s h, get_or-set_same work k new w room) p

    go : Dec (j < k) → WorkStepped (get_or boxes j t) c (get_or (set work k new) j w)
    go (yes q) = let other : j ≡ k → ⊥ = λ i. omega arith in rw get_or-set_other (below j t w q)
    go (no q) = let same : k ≡ j = omega arith in subst (λ (i : ℕ). WorkStepped (get_or boxes i t) c (get_or (set work k new) i w)) same here

pub stepped_rest : (boxes : List Lent) (c k : ℕ) (work : List Work) (new : Work)
    → ((j : ℕ) (t : Lent) (w : Work) → k ≤ j → j < length boxes → WorkStepped (get_or boxes j t) c (get_or work j w))
    → (j : ℕ) (t : Lent) (w : Work) → k + 1 ≤ j → j < length boxes → WorkStepped (get_or boxes j t) c (get_or (set work k new) j w)
stepped_rest boxes c k work new above j t w l h =
    let other : j ≡ k → ⊥ = λ e. omega arith in
    rw get_or-set_other (above j t w (omega arith) h)

-- ---- the loop over the boxes' largest magnitudes
-- the products so far are small
pub product_small : (k size r : ℕ) → k < 4 → size ≤ 2 ^ (8 * k) → r ≤ 256 → (size * r ≤ 4294967296) × (size * r ≤ 2 ^ (8 * (k + 1)))
product_small k size r h p q =
    let next : size * r ≤ 2 ^ (8 * (k + 1)) = subst (λ (z : ℕ). size * r ≤ 2 ^ z) e (subst (λ (z : ℕ). size * r ≤ z) (sym (pow-add 2 (8 * k) 8)) (mul-le-mul p q)) in
    let most : 2 ^ (8 * (k + 1)) ≤ 2 ^ 32 = pow_mono {i = 8 * (k + 1)} {j = 32} (omega arith) in
    (omega arith, next)
  where
    e : 8 * k + 8 ≡ 8 * (k + 1)
    e = omega arith

pub product_more : (boxes : List Lent) (k : ℕ) (s : Lent) (c size r whole : ℕ) → k < length boxes → r ≡ (peak (as_summand (get_or boxes k s)) c).figure
    → size * product (drop k (summed boxes)) c ≡ whole → size * r * product (drop (k + 1) (summed boxes)) c ≡ whole
unfolding product
product_more boxes k s c size r whole h p so_far =
    rw add-one
    (mul_assoc size r (product (drop (suc k) (summed boxes)) c)
    ∙ ap (λ (z : ℕ). size * (z * product (drop (suc k) (summed boxes)) c)) p
    ∙ ap (λ (ss : List Summand). size * product ss c) (sym (rest_of boxes k s h))
    ∙ so_far)

pub product_end : (boxes : List Lent) (k c size whole : ℕ) → length boxes ≤ k → size * product (drop k (summed boxes)) c ≡ whole → size ≡ whole
unfolding product
product_end boxes k c size whole h p = sym (mul-one size) ∙ ap (λ (ss : List Summand). size * product ss c) (sym (rest_none boxes k h)) ∙ p

-- ---- the loop over the boxes' first masks
abbrev pub zeros : List ℕ
zeros = 0 ∷ 0 ∷ 0 ∷ 0 ∷ []

abbrev pub sign_of : (ss : List Summand) (c : ℕ) → ℕ
sign_of ss c = sign_at ss c (peak_places ss c)

-- numbers that are put over others, one after the other
put_more : (ps zs ms : List ℕ) (k v : ℕ) → k < length ps → k < length zs → v ≡ get_or ps k 0 → take k ms ≡ take k ps → drop k ms ≡ drop k zs
    → (take (suc k) (set ms k v) ≡ take (suc k) ps) × (drop (suc k) (set ms k v) ≡ drop (suc k) zs)
put_more [] zs ms k v h g e p q = absurd (omega arith)
put_more (x ∷ ps) [] ms k v h g e p q = absurd (omega arith)
put_more (x ∷ ps) (z ∷ zs) [] zero v h g e p q = absurd (omega (arith, ap length q))
put_more (x ∷ ps) (z ∷ zs) (m ∷ ms) zero v h g e p q = (cc, cc)
put_more (x ∷ ps) (z ∷ zs) [] (suc k) v h g e p q = absurd (omega (arith, ap length p))
put_more (x ∷ ps) (z ∷ zs) (m ∷ ms) (suc k) v h g e p q =
    let head : m ≡ x = cc in
    let t = put_more ps zs ms k v (omega arith) (omega arith) e (cc) q in
    (cc, t.1)

places_at : (boxes : List Lent) (k : ℕ) (s : Lent) (c : ℕ) → k < length boxes → get_or (peak_places (summed boxes) c) k 0 ≡ at (peak (as_summand (get_or boxes k s)) c).witness 0
unfolding peak_places
places_at [] k s c h = absurd (omega arith)
places_at (b ∷ bs) zero s c h = refl
places_at (b ∷ bs) (suc k) s c h = places_at bs k s c (omega arith)

pub places_length : (ss : List Summand) (c : ℕ) → length (peak_places ss c) ≡ length ss
unfolding peak_places
places_length [] c = refl
places_length (s ∷ ss) c = ap suc (places_length ss c)

-- what the loop has: the masks of the boxes below one, zeros from it on, and the sign of all boxes where it is joined with that of the rest
pub record Gathered (ss : List Summand) (c k : ℕ) (masks : List ℕ) (b : ℕ) : Type 0 where
  pub room : length masks ≡ 4
  pub done : take k masks ≡ take k (peak_places ss c)
  pub rest : drop k masks ≡ drop k zeros
  pub sign : bit_xor b (sign_of (drop k ss) c) ≡ sign_of ss c

sign_next : (s : Summand) (ss : List Summand) (c : ℕ) (t : Top) → TopOf s c t → bit_xor t.sign (sign_of ss c) ≡ sign_of (s ∷ ss) c
unfolding sign_at peak_places
sign_next s ss c t p = ap (λ (z : ℕ). bit_xor z (sign_of ss c)) (p.sign_is ∙ ap (λ (w : ℕ). sign_bit (walsh s.inputs (component s.rows c) w)) p.mask_is)

sign_none : (c : ℕ) → sign_of [] c ≡ 0
unfolding sign_at peak_places
sign_none c = refl

take-all : (k : ℕ) (xs : List ℕ) → k ≡ length xs → take k xs ≡ xs
take-all k xs e = ap (λ (i : ℕ). take i xs) e ∙ take-length xs

module _ (boxes : List Lent) (c : ℕ) where
  pub gathered_none : Gathered (summed boxes) c 0 zeros 0
  gathered_none = record { room = refl; done = refl; rest = refl; sign = xor_zero_l (sign_of (summed boxes) c) }

  pub gathered_more : (k : ℕ) (masks : List ℕ) (b : ℕ) (s : Lent) (t : Top) → k < length boxes → k < 4 → TopOf (as_summand (get_or boxes k s)) c t
      → Gathered (summed boxes) c k masks b → Gathered (summed boxes) c (k + 1) (set masks k t.mask) (bit_xor b t.sign)
  gathered_more k masks b s t h few p g =
      let put = put_more (peak_places (summed boxes) c) zeros masks k t.mask (omega (arith, places_length (summed boxes) c, summed_length boxes)) few (p.mask_is ∙ sym (places_at boxes k s c h)) g.done g.rest in
      let e = rest_of boxes k s h in
      rw add-one (record {
        room = length-set masks k t.mask ∙ g.room;
        done = put.0;
        rest = put.1;
        sign =
            xor_assoc b t.sign (sign_of (drop (suc k) (summed boxes)) c)
            ∙ ap (bit_xor b) (sign_next _ (drop (suc k) (summed boxes)) c t p ∙ ap (λ (ss : List Summand). sign_of ss c) (sym e))
            ∙ g.sign;
      })

  pub gathered_end : (k : ℕ) (masks : List ℕ) (b : ℕ) → k ≡ length boxes → Gathered (summed boxes) c k masks b
      → WitnessOf (summed boxes) c (record { masks = masks; b = b })
  gathered_end k masks b e g =
      let n : k ≡ length (summed boxes) = e ∙ sym (summed_length boxes) in
      record {
        masks_are = ap (λ (i : ℕ). take i masks) (sym n) ∙ g.done ∙ take-all k (peak_places (summed boxes) c) (omega (arith, places_length (summed boxes) c));
        four = g.room;
        past = ap (λ (i : ℕ). drop i masks) (sym n) ∙ g.rest ∙ ap (λ (i : ℕ). drop i zeros) n;
        sign_is = sym (xor_zero_r b) ∙ ap (bit_xor b) (sym (ap (λ (ss : List Summand). sign_of ss c) (rest_none boxes k (omega arith)) ∙ sign_none c)) ∙ g.sign;
      }
