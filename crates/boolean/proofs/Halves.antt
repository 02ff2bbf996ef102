-- A list cut in two halves: each was lent to a call and came back, and what then stands in the whole. Assumes nothing.
use mathlib.Core.Path.{◌≡◌, sym, ap, ap₂, ◌∙◌, subst}
use mathlib.Core.List.{List, [], ◌∷◌, ◌++◌, append-nil}
use Prim.Native.Nat.{ℕ, zero, suc, ◌+◌, ◌-◌, ◌/◌, ◌^◌, ◌<◌}
use native.Mathlib.Nat.{two-pow-succ}
use native.Mathlib.Decide.{dec_lt}
use native.Mathlib.Omega.{arith}
use lib.ListN.{length, get_or, take, drop, length-append, length-drop, get_or-append, drop_of_length-le}
use lib.Seq.{length-take-le, take_at, drop_at, get_or-take, get_or-drop, get_or-append-add}
use borrow.Rule.Slice.PartMut.{put_mid}
use Rattle.boolean.specs.Sums.{list_below}
use Rattle.boolean.proofs.Lists.{upper_part, length_list_below, get_or_list_below, list_is}

-- an array of two halves of h each: the lower half was lent and came back as g₁'s values, then the upper as g₂'s
module _ {A : Type 0} (h : ℕ) (out : List A) (long : length out ≡ h + h) (g₁ : ℕ → A) (l₁ : List A) (e₁ : l₁ ≡ list_below h g₁) where
  long₁ : length l₁ ≡ h
  long₁ = ap length e₁ ∙ length_list_below h g₁

  abbrev pub after_lower : List A
  after_lower = l₁ ++ drop h out

  length_after_lower : length after_lower ≡ h + h
  length_after_lower = omega (arith, length-append l₁ (drop h out), length-drop h out, long₁)

  -- the upper half is still what it was
  pub upper_kept : take (length after_lower - h) (drop h after_lower) ≡ drop h out
  upper_kept = upper_part h after_lower ∙ drop_at l₁ (drop h out) h long₁

  module _ (g₂ : ℕ → A) (l₂ : List A) (e₂ : l₂ ≡ list_below h g₂) where
    long₂ : length l₂ ≡ h
    long₂ = ap length e₂ ∙ length_list_below h g₂

    abbrev pub after_upper : List A
    after_upper = put_mid h (length after_lower - h) after_lower l₂

    joined : after_upper ≡ l₁ ++ l₂
    joined =
        ap₂ (λ (x y : List A). x ++ (l₂ ++ y)) (take_at l₁ (drop h out) h long₁)
        (drop_of_length-le (drop h after_lower) {i = length after_lower - h} (omega (arith, length-drop h after_lower)))
        ∙ ap (λ (x : List A). l₁ ++ x) (append-nil l₂)

    pub length_after_upper : length after_upper ≡ h + h
    length_after_upper = ap length joined ∙ omega (arith, length-append l₁ l₂, long₁, long₂)

    pub at_lower : (d : A) (k : ℕ) → k < h → get_or after_upper k d ≡ g₁ k
    at_lower d k lt =
        ap (λ (l : List A). get_or l k d) joined ∙ get_or-append l₁ l₂ d k (omega (arith, long₁))
        ∙ ap (λ (l : List A). get_or l k d) e₁ ∙ get_or_list_below h g₁ k d lt

    pub at_upper : (d : A) (k : ℕ) → k < h → get_or after_upper (h + k) d ≡ g₂ k
    at_upper d k lt =
        ap (λ (l : List A). get_or l (h + k) d) joined ∙ ap (λ (j : ℕ). get_or (l₁ ++ l₂) (j + k) d) (sym long₁)
        ∙ get_or-append-add l₁ l₂ k d ∙ ap (λ (l : List A). get_or l k d) e₂ ∙ get_or_list_below h g₂ k d lt

-- a list whose two halves of h entries each are G's values is the list of them
pub halves_are : {A : Type 0} (d : A) (h : ℕ) (G : ℕ → A) (l : List A) → length l ≡ h + h
    → ((k : ℕ) → k < h → get_or l k d ≡ G k) → ((k : ℕ) → k < h → get_or l (h + k) d ≡ G (h + k)) → l ≡ list_below (h + h) G
halves_are {A} d h G l long low high = list_is d (h + h) G l long (λ k lt. entry k lt (dec_lt k h))
  where
    entry : (k : ℕ) → k < h + h → Dec (k < h) → get_or l k d ≡ G k
    entry k lt (yes below) = low k below
    entry k lt (no ge) =
        let e : h + (k - h) ≡ k = omega arith in
        subst (λ (j : ℕ). get_or l j d ≡ G j) e (high (k - h) (omega arith))

-- a list of 2^(n+1) entries in two halves
module _ {A : Type 0} (n : ℕ) (l : List A) (size : length l ≡ 2 ^ suc n) where
  pub half_is : length l / 2 ≡ 2 ^ n
  half_is = omega (arith, size, two-pow-succ n)

  pub two_halves : length l ≡ length l / 2 + length l / 2
  two_halves = omega (arith, size, two-pow-succ n)

  pub lower_length : length (take (length l / 2) l) ≡ length l / 2
  lower_length = length-take-le (length l / 2) l (omega arith)

  pub upper_length : length (drop (length l / 2) l) ≡ length l / 2
  upper_length = omega (arith, length-drop (length l / 2) l, two_halves)

-- what holds of every entry, past the end too, holds of every entry of a part
pub take_entries : {A : Type 0} (d : A) (P : A → Type 0) (h : ℕ) (l : List A) → P d → ((k : ℕ) → P (get_or l k d)) → (k : ℕ) → P (get_or (take h l) k d)
take_entries d P zero l p all k = p
take_entries d P (suc h) [] p all k = p
take_entries d P (suc h) (x ∷ l) p all zero = all 0
take_entries d P (suc h) (x ∷ l) p all (suc k) = take_entries d P h l p (λ j. all (suc j)) k

pub drop_entries : {A : Type 0} (d : A) (P : A → Type 0) (h : ℕ) (l : List A) → ((k : ℕ) → P (get_or l k d)) → (k : ℕ) → P (get_or (drop h l) k d)
drop_entries d P h l all k = subst P (sym (get_or-drop h l k d)) (all (h + k))

-- the lower and the upper half of a list, as functions
module _ {A : Type 0} (d : A) (h : ℕ) (l : List A) (x : ℕ) where
  pub lower_entry : x < h → get_or l x d ≡ get_or (take h l) x d
  lower_entry lt = sym (get_or-take h l x d lt)

  pub upper_entry : (k : ℕ) → h ≡ k → get_or l (k + x) d ≡ get_or (drop h l) x d
  upper_entry k e = ap (λ (j : ℕ). get_or l (j + x) d) (sym e) ∙ sym (get_or-drop h l x d)
