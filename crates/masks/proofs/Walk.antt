-- A loop over the masks within a limit, each from the one before: the masks from the first on and below c, and the best candidate of them. Assumes nothing.
use mathlib.Core.Path.{◌≡◌, sym, ap, ◌∙◌}
use mathlib.Core.Bool.{Bool, false}
use borrow.Author.Tests.{le-leb, lt-leb, leb-true}
use mathlib.Core.List.{List, [], ◌∷◌, ◌++◌, append-nil, Memᴰ}
use Prim.Native.Nat.{ℕ, suc, ◌+◌, ◌-◌, ◌^◌, ◌≤◌, ◌<◌}
use native.Mathlib.Nat.{le_refl, lt_of_not-le, le_of_suc-le-suc}
use native.Mathlib.Omega.{arith}
use lib.Count.{ones}
use lib.Pow.{pow_pos}
use Rattle.boolean.specs.Sums.{list_from, each, keep}
use Rattle.boolean.specs.Selection.{best}
use Rattle.boolean.proofs.Components.{limited, split, keep_none}
use Rattle.boolean.proofs.Kept.{keep_append, keep_takes, mem_keep}
use Rattle.boolean.proofs.Lists.{each_append, mem_each, mem_list_from}
use Rattle.boolean.proofs.OneBit.{ones_one, ones_power}
use Rattle.boolean.proofs.Selection.{best_append, best_stays}
use Rattle.masks.specs.Statements.{masks_from}
use Rattle.masks.specs.Masks.{Next, PowerAdded}

-- ---- the masks within the limit from the first on that are below c, in ascending order
-- up to a later mask there are those from c on
masks_more : (i first c r : ℕ) → first ≤ c → c ≤ r → masks_from i first r ≡ masks_from i first c ++ masks_from i c r
masks_more i first c r low h =
    let all : r - first ≡ (c - first) + (r - c) = omega arith in
    let here : first + (c - first) ≡ c = omega arith in
    ap (λ (k : ℕ). keep (limited i) (list_from first k (λ c. c))) all
    ∙ ap (keep (limited i)) (split first (c - first) (r - c) (λ c. c))
    ∙ keep_append (limited i) (list_from first (c - first) (λ c. c)) (list_from (first + (c - first)) (r - c) (λ c. c))
    ∙ ap (λ (z : ℕ). masks_from i first c ++ keep (limited i) (list_from z (r - c) (λ c. c))) here

-- where no number has few ones there is none
pub masks_none : (i c r : ℕ) → ((x : ℕ) → c ≤ x → x < r → i < ones x) → masks_from i c r ≡ []
masks_none i c r none = keep_none (limited i) c (r - c) (λ x l m. lt-leb (ones x) i (none x l (omega arith)))

-- up to the next mask there is one more, c
masks_next : (i first c r : ℕ) → first ≤ c → ones c ≤ i → Next i c r → masks_from i first r ≡ masks_from i first c ++ (c ∷ [])
unfolding list_from
masks_next i first c r low few next =
    let one : r - c ≡ suc (r - suc c) = omega (arith, next.above) in
    masks_more i first c r low (omega (arith, next.above))
    ∙ ap (λ (l : List ℕ). masks_from i first c ++ l)
    (ap (λ (k : ℕ). keep (limited i) (list_from c k (λ c. c))) one
    ∙ keep_takes (limited i) c (list_from (suc c) (r - suc c) (λ c. c)) (le-leb (ones c) i few)
    ∙ ap (λ (l : List ℕ). c ∷ l) (masks_none i (suc c) r (λ x l m. next.between x l m)))

-- masks none of whose candidates beats the best so far may be passed over
pub best_passes : {C : Type 0} (beats : C → C → Bool) (f : ℕ → List C) (start found : C) (i first c r : ℕ) → first ≤ c → c ≤ r
    → ((x : ℕ) → c ≤ x → x < r → ones x ≤ i → (p : C) → Memᴰ p (f x) → beats p found ≡ false)
    → found ≡ best beats start (each (masks_from i first c) f) → found ≡ best beats start (each (masks_from i first r) f)
best_passes {C} beats f start found i first c r low h none e =
    sym
    (ap (λ (l : List ℕ). best beats start (each l f)) (masks_more i first c r low h)
    ∙ ap (best beats start) (each_append (masks_from i first c) passed f)
    ∙ best_append beats start (each (masks_from i first c) f) (each passed f)
    ∙ ap (λ (b : C). best beats b (each passed f)) (sym e)
    ∙ best_stays beats found (each passed f) stays)
  where
    passed : List ℕ
    passed = masks_from i c r

    stays : (p : C) → Memᴰ p (each passed f) → beats p found ≡ false
    stays p k =
        let t = mem_each passed f p k in
        let u = mem_keep (limited i) (list_from c (r - c) (λ c. c)) t.0 t.1 in
        let v = mem_list_from c (r - c) (λ c. c) t.0 u.0 in
        none t.0 (omega (arith, v.1, v.3)) (omega (arith, v.2, v.3)) (leb-true (ones t.0) i u.1) p t.2

-- ---- where the loop stands: at a mask within the limit, or past the last
pub record WalkFrom (first m i c : ℕ) : Type 0 where
  pub limit : 1 ≤ i
  pub c_low : first ≤ c
  pub c_high : c ≤ 2 ^ m
  pub few : ones c ≤ i

-- from the mask 1 on
abbrev pub Walk : (m i c : ℕ) → Type 0
Walk m i c = WalkFrom 1 m i c

-- no mask is passed over up to 2^m, which has a single one
not_past : (m i r : ℕ) → 1 ≤ i → (2 ^ m < r → i < ones (2 ^ m)) → r ≤ 2 ^ m
not_past m i r limit h = le_of_suc-le-suc (lt_of_not-le (λ (g : suc (2 ^ m) ≤ r).
    let e = ones_power m in
    let few = h g in
    absurd (omega arith)))

-- from a mask within the limit on
pub walk_from : {first i : ℕ} (m : ℕ) → 1 ≤ i → first ≤ 2 ^ m → ones first ≤ i → WalkFrom first m i first
walk_from {first} m limit h few = record { limit = limit; c_low = le_refl first; c_high = h; few = few }

pub walk_starts : (m i : ℕ) → 1 ≤ i → Walk m i 1
walk_starts m i h = walk_from m h (pow_pos m) (omega (arith, ones_one))

-- the first mask comes after the number before it
pub raised_before : (c : ℕ) → 1 ≤ c → PowerAdded (c - 1) c
raised_before c h = record { place = 0; times = c - 1; from = omega arith; to = omega arith }

module _ {first m i c : ℕ} (w : WalkFrom first m i c) where
  pub walk_next : {r : ℕ} → Next i c r → c < 2 ^ m → WalkFrom first m i r
  walk_next {r} next h = record {
    limit = w.limit;
    c_low = omega (arith, w.c_low, next.above);
    c_high = not_past m i r w.limit (λ g. next.between (2 ^ m) h g);
    few = next.few;
  }

  -- ---- the best of the candidates that a rule gives for each mask
  module _ {C : Type 0} (beats : C → C → Bool) (f : ℕ → List C) (start : C) where
    pub best_next : {r : ℕ} → Next i c r → {found new : C} → found ≡ best beats start (each (masks_from i first c) f) → new ≡ best beats found (f c)
        → new ≡ best beats start (each (masks_from i first r) f)
    unfolding each
    best_next {r} next e q =
        q ∙ ap (λ (b : C). best beats b (f c)) e ∙ sym (best_append beats start (each (masks_from i first c) f) (f c))
        ∙ ap (best beats start) (sym (ap (λ (l : List ℕ). each l f) (masks_next i first c r w.c_low w.few next)
        ∙ each_append (masks_from i first c) (c ∷ []) f ∙ ap (λ (l : List C). each (masks_from i first c) f ++ l) (append-nil (f c))))

    -- past the end, where no mask within the limit stands between
    pub best_ends : {end : ℕ} → first ≤ end → end ≤ c → ((x : ℕ) → end ≤ x → x < c → i < ones x) → {found : C}
        → found ≡ best beats start (each (masks_from i first c) f) → found ≡ best beats start (each (masks_from i first end) f)
    best_ends {end} low h past e =
        e ∙ ap (λ (l : List ℕ). best beats start (each l f))
        (masks_more i first end c low h ∙ ap (λ (l : List ℕ). masks_from i first end ++ l) (masks_none i end c past) ∙ append-nil (masks_from i first end))

pub best_starts : {C : Type 0} (beats : C → C → Bool) (f : ℕ → List C) (start : C) (i first : ℕ) → start ≡ best beats start (each (masks_from i first first) f)
unfolding each best
best_starts beats f start i first = sym (ap (λ (l : List ℕ). best beats start (each l f)) (masks_none i first first (λ x l k. absurd (omega arith))))
