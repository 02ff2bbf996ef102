-- Additions to one column taken together, and one for each column: their terms and effects.
use mathlib.Core.Path.{◌≡◌, refl, sym, ap, ap₂, ◌∙◌}
use mathlib.Core.Bool.{Bool, true, false, cond, ◌&&◌}
use mathlib.Core.List.{List, [], ◌∷◌, Memᴰ}
use Prim.Native.Nat.{ℕ, zero, suc, ◌+◌, ◌*◌, ◌-◌, ◌^◌, ◌<◌, ◌≤◌}
use native.Mathlib.Nat.{zero-mul}
use native.Mathlib.Omega.{arith}
use native.Mathlib.Decide.{dec_lt}
use borrow.Author.Tests.{eqb-true, eq-eqb, ne_eqb}
use lib.Bits.{bit_xor, xor_zero_r, xor_zero_l, xor_lt}
use lib.Dec.{eqb}
use lib.ListN.{length}
use lib.Pow.{pow_pos}
use Rattle.refusals.specs.Table.{is_accepted}
use Rattle.boolean.specs.Bits.{affine}
use Rattle.boolean.specs.Sums.{keep, list_from, xor_below}
use Rattle.boolean.proofs.Dots.{dot_zero, affine_xor}
use Rattle.boolean.proofs.Kept.{keep_takes, keep_drops, mem_keep}
use Rattle.boolean.proofs.Lists.{list_from_more}
use Rattle.boolean.proofs.Xor.{xor_below_cong, xor_below_xor, xor_below_zero, xor_placed}
use Rattle.columns.specs.Addition.{Addition}
use Rattle.columns.proofs.Additions.{Fits}
use Rattle.claims.specs.Shortening.{together, xors, to_column, merged, one_for_each, adds_nothing}
use Rattle.claims.proofs.Effects.{own_checked, term, effect, effect_fits, effects, effects_append}

-- ---- the affine functions of XORs
placed_xor : (j w b v c x : ℕ)
    → affine (bit_xor w v) (bit_xor b c) x * 2 ^ (j - 1) ≡ bit_xor (affine w b x * 2 ^ (j - 1)) (affine v c x * 2 ^ (j - 1))
placed_xor j w b v c x = ap (λ (z : ℕ). z * 2 ^ (j - 1)) (affine_xor w b v c x) ∙ xor_placed (j - 1) (affine w b x) (affine v c x)

placed_nothing : (j x : ℕ) → affine 0 0 x * 2 ^ (j - 1) ≡ 0
unfolding affine
placed_nothing j x = ap (λ (z : ℕ). bit_xor z 0 * 2 ^ (j - 1)) (dot_zero x) ∙ zero-mul (2 ^ (j - 1))

-- ---- two to one column
pub together_term : (a b : Addition) (x : ℕ) → a.column ≡ b.column → term (together a b) x ≡ bit_xor (term a x) (term b x)
together_term a b x e =
    placed_xor a.column a.mask a.constant b.mask b.constant x
    ∙ ap (λ (j : ℕ). bit_xor (term a x) (affine b.mask b.constant x * 2 ^ (j - 1))) e

pub together_fits : {n m : ℕ} {a b : Addition} → Fits n m a → Fits n m b → Fits n m (together a b)
together_fits {n} {m} {a} {b} p q = record {
  column_low = p.column_low;
  column_high = p.column_high;
  mask_high = xor_lt n a.mask b.mask p.mask_high q.mask_high;
  constant_high = xor_lt 1 a.constant b.constant p.constant_high q.constant_high;
  room = p.room;
}

-- ---- all to one column
xors_lt : (k : ℕ) (number : Addition → ℕ) (list : List Addition) → ((a : Addition) → Memᴰ a list → number a < 2 ^ k)
    → xors number list < 2 ^ k
unfolding xors
xors_lt k number [] h = pow_pos k
xors_lt k number (a ∷ list) h = xor_lt k (number a) (xors number list) (h a (Memᴰ.head refl))
    (xors_lt k number list (λ b m. h b (Memᴰ.tail m)))

-- every addition of a list is accepted
abbrev pub AllFit : ℕ → ℕ → List Addition → Type 0
AllFit n m list = (a : Addition) → Memᴰ a list → Fits n m a

pub merged_fits : {n m : ℕ} {lent : List ℕ} {list : List Addition} → length lent ≡ 2 ^ n → AllFit n m list → (j : ℕ) → 1 ≤ j → j ≤ m
    → Fits n m (merged lent list j)
unfolding to_column
merged_fits {n} {m} {lent} {list} room h j lo hi =
    let of : (a : Addition) → Memᴰ a (to_column j list) → Fits n m a = λ a k. h a (mem_keep (λ a. eqb a.column j) list a k).0 in
    record {
      column_low = lo;
      column_high = hi;
      mask_high = xors_lt n (λ a. a.mask) (to_column j list) (λ a k. (of a k).mask_high);
      constant_high = xors_lt 1 (λ a. a.constant) (to_column j list) (λ a k. (of a k).constant_high);
      room = room;
    }

merged_none : (lent : List ℕ) (j x : ℕ) → term (merged lent [] j) x ≡ 0
unfolding to_column keep xors
merged_none lent j x = placed_nothing j x

merged_more : (lent : List ℕ) (a : Addition) (list : List Addition) (j x : ℕ)
    → term (merged lent (a ∷ list) j) x ≡ bit_xor (cond (eqb a.column j) (term a x) 0) (term (merged lent list j) x)
unfolding to_column xors
merged_more lent a list j x = go (eqb a.column j) refl
  where
    test : Addition → Bool
    test a = eqb a.column j

    of : List Addition → ℕ
    of l = affine (xors (λ a. a.mask) l) (xors (λ a. a.constant) l) x * 2 ^ (j - 1)

    go : (t : Bool) → eqb a.column j ≡ t → of (keep test (a ∷ list)) ≡ bit_xor (cond t (term a x) 0) (of (keep test list))
    go true e =
        ap of (keep_takes test a list e)
        ∙ placed_xor j a.mask a.constant (xors (λ a. a.mask) (keep test list)) (xors (λ a. a.constant) (keep test list)) x
        ∙ ap (λ (i : ℕ). bit_xor (affine a.mask a.constant x * 2 ^ (i - 1)) (of (keep test list))) (sym (eqb-true a.column j e))
    go false e = ap of (keep_drops test a list e) ∙ sym (xor_zero_l (of (keep test list)))

-- ---- one for each column
-- a number at one of the places 1 to k
xor_single : (k c v : ℕ) → 1 ≤ c → c ≤ k → xor_below k (λ t. cond (eqb c (1 + t)) v 0) ≡ v
unfolding xor_below
xor_single zero c v lo hi = absurd (omega arith)
xor_single (suc k) c v lo hi = go (dec_lt c (suc k)) (λ h. xor_single k c v lo h)
  where
    F : ℕ → ℕ
    F t = cond (eqb c (1 + t)) v 0

    other : (t : ℕ) → (c ≡ 1 + t → ⊥) → F t ≡ 0
    other t d = ap (λ (b : Bool). cond b v 0) (ne_eqb c (1 + t) d)

    go : Dec (c < suc k) → (c ≤ k → xor_below k F ≡ v) → bit_xor (xor_below k F) (F k) ≡ v
    go (yes l) rec = ap₂ bit_xor (rec (omega arith)) (other k (λ e. omega arith)) ∙ xor_zero_r v
    go (no l) rec =
        ap₂ bit_xor (xor_below_zero k F (λ t h. other t (λ e. omega arith))) (ap (λ (b : Bool). cond b v 0) (eq-eqb c (1 + k) (omega arith)))
        ∙ xor_zero_l v

effects_from : (n m i k : ℕ) (g : ℕ → Addition) (x : ℕ) → effects n m (list_from i k g) x ≡ xor_below k (λ t. effect n m (g (i + t)) x)
unfolding list_from xor_below effects
effects_from n m i zero g x = refl
effects_from n m i (suc k) g x =
    ap (λ (l : List Addition). effects n m l x) (list_from_more i k g) ∙ effects_append n m (list_from i k g) (g (i + k) ∷ []) x
    ∙ ap₂ bit_xor (effects_from n m i k g x) (xor_zero_r (effect n m (g (i + k)) x))

module _ (n m : ℕ) (lent : List ℕ) (room : length lent ≡ 2 ^ n) (x : ℕ) where
  columns_terms : (list : List Addition) → AllFit n m list
      → effects n m (one_for_each m lent list) x ≡ xor_below m (λ t. term (merged lent list (1 + t)) x)
  unfolding one_for_each
  columns_terms list h =
      effects_from n m 1 m (merged lent list) x
      ∙ xor_below_cong m _ _ (λ t l. effect_fits (merged_fits {list = list} room h (1 + t) (omega arith) (omega arith)) x)

  terms_effects : (list : List Addition) → AllFit n m list → xor_below m (λ t. term (merged lent list (1 + t)) x) ≡ effects n m list x
  unfolding effects
  terms_effects [] h = xor_below_zero m _ (λ t l. merged_none lent (1 + t) x)
  terms_effects (a ∷ list) h =
      let t = h a (Memᴰ.head refl) in
      xor_below_cong m _ _ (λ t l. merged_more lent a list (1 + t) x)
      ∙ xor_below_xor m (λ t. cond (eqb a.column (1 + t)) (term a x) 0) (λ t. term (merged lent list (1 + t)) x)
      ∙ ap₂ bit_xor (xor_single m a.column (term a x) t.column_low t.column_high ∙ sym (effect_fits t x))
      (terms_effects list (λ b k. h b (Memᴰ.tail k)))

  pub columns_effects : (list : List Addition) → AllFit n m list → effects n m (one_for_each m lent list) x ≡ effects n m list x
  columns_effects list h = columns_terms list h ∙ terms_effects list h

-- ---- what has no effect is dropped
pub dropped_effects : (n m : ℕ) (test : Addition → Bool) (x : ℕ) (list : List Addition)
    → ((a : Addition) → Memᴰ a list → test a ≡ false → effect n m a x ≡ 0)
    → effects n m (keep test list) x ≡ effects n m list x
unfolding keep effects
dropped_effects n m test x [] h = refl
dropped_effects n m test x (a ∷ list) h = go (test a) refl (dropped_effects n m test x list (λ b k. h b (Memᴰ.tail k)))
  where
    go : (t : Bool) → test a ≡ t → effects n m (keep test list) x ≡ effects n m list x
        → effects n m (keep test (a ∷ list)) x ≡ bit_xor (effect n m a x) (effects n m list x)
    go true e r = ap (λ (l : List Addition). effects n m l x) (keep_takes test a list e) ∙ ap (bit_xor (effect n m a x)) r
    go false e r =
        ap (λ (l : List Addition). effects n m l x) (keep_drops test a list e) ∙ r
        ∙ sym (xor_zero_l (effects n m list x)) ∙ ap (λ (z : ℕ). bit_xor z (effects n m list x)) (sym (h a (Memᴰ.head refl) e))

pub refused_effect : (n m : ℕ) (a : Addition) (x : ℕ) → is_accepted (own_checked n m a) ≡ false → effect n m a x ≡ 0
unfolding effect
refused_effect n m a x e = ap (λ (b : Bool). cond b (term a x) 0) e

pub nothing_effect : (n m : ℕ) (a : Addition) (x : ℕ) → adds_nothing a ≡ true → effect n m a x ≡ 0
unfolding effect
nothing_effect n m a x e = go (is_accepted (own_checked n m a))
  where
    left : (p q : Bool) → (p && q) ≡ true → p ≡ true
    left true q t = refl
    left false q t = t

    right : (p q : Bool) → (p && q) ≡ true → q ≡ true
    right true q t = t
    right false true t = refl
    right false false t = t

    zero_term : term a x ≡ 0
    zero_term =
        ap₂ (λ (w b : ℕ). affine w b x * 2 ^ (a.column - 1)) (eqb-true a.mask 0 (left (eqb a.mask 0) (eqb a.constant 0) e))
        (eqb-true a.constant 0 (right (eqb a.mask 0) (eqb a.constant 0) e))
        ∙ placed_nothing a.column x

    go : (t : Bool) → cond t (term a x) 0 ≡ 0
    go true = zero_term
    go false = refl
