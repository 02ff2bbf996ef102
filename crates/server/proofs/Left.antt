-- How many combinations are left on all eight places: at most 8 × 65,535, and one less with each step that serves one. So every server,
-- whoever made it, is soon done. Assumes nothing.
use Prim.Native.Nat.{ℕ, zero, suc, ◌+◌, ◌-◌, ◌*◌, ◌%◌, ◌^◌, ◌<◌, ◌≤◌}
use mathlib.Core.Path.{◌≡◌, refl, sym, ap, ◌∙◌, subst}
use mathlib.Core.Bool.{Bool, true, false, cond}
use mathlib.Core.List.{List}
use native.Mathlib.Numerals.{add-one}
use native.Mathlib.Omega.{arith}
use native.Mathlib.Decide.{ℕ_discrete, dec_lt}
use borrow.Author.Tests.{lt-ltb, le-ltb}
use lib.ListN.{get_or, set}
use lib.Pow.{pow_mono}
use lib.Seq.{get_or-set_same, get_or-set_other}
use Rattle.boolean.specs.Sums.{total_below}
use Rattle.boolean.specs.Selection.{Candidate}
use Rattle.boolean.proofs.Counts.{total_cong, total_le}
use Rattle.refusals.proofs.Bounds.{range_high}
use Rattle.linear.specs.Calls.{pair_candidate}
use Rattle.server.specs.Model.{Analysis, Spot, empty, holds, ServerState, spot_at, more, unfinished, round_robin, served, step}
use Rattle.server.specs.declared.Place.{Place}
use Rattle.server.specs.Calls.{analysis_in, place_rows, spot_in, one_more_place}
use Rattle.server.proofs.Circle.{found_high}
use Rattle.server.proofs.Places.{spot_box, more_left, more_is, unfinished_holds, unfinished_taken, unfinished_inside}
use Rattle.server.proofs.Steps.{served_left}

-- of the box on a place, and of all eight
abbrev pub left_of : Spot → ℕ
left_of empty = 0
left_of (holds a) = cond (more a) (2 ^ a.m - 1 - a.examined) 0

unfoldable pub left_in : ServerState → ℕ
unfolding total_below
left_in s = total_below 8 (λ i. left_of (get_or s.spots i empty))

-- ---- totals
total_at : (k : ℕ) (f : ℕ → ℕ) (i : ℕ) → i < k → f i ≤ total_below k f
unfolding total_below
total_at zero f i l = absurd (omega arith)
total_at (suc k) f i l = go (ℕ_discrete i k) (λ h. total_at k f i h)
  where
    go : Dec (i ≡ k) → (i < k → f i ≤ total_below k f) → f i ≤ total_below k f + f k
    go (yes e) rec = omega (arith, ap f e)
    go (no e) rec = omega (arith, rec (omega arith))

-- where one part is less by one and the others stay, so is the total
total_less : (k : ℕ) (f g : ℕ → ℕ) (i : ℕ) → i < k → suc (g i) ≡ f i → ((j : ℕ) → (j ≡ i → ⊥) → g j ≡ f j) → suc (total_below k g) ≡ total_below k f
unfolding total_below
total_less zero f g i l e same = absurd (omega arith)
total_less (suc k) f g i l e same = go (ℕ_discrete i k) (λ h. total_less k f g i h e same)
  where
    go : Dec (i ≡ k) → (i < k → suc (total_below k g) ≡ total_below k f) → suc (total_below k g + g k) ≡ total_below k f + f k
    go (yes q) rec =
        let rest : total_below k g ≡ total_below k f = total_cong k g f (λ j h. same j (λ z. omega arith)) in
        let last : suc (g k) ≡ f k = subst (λ (j : ℕ). suc (g j) ≡ f j) q e in
        omega arith
    go (no q) rec =
        let rest : suc (total_below k g) ≡ total_below k f = rec (omega arith) in
        let last : g k ≡ f k = same k (λ z. q (sym z)) in
        omega arith

-- ---- one place
left_more : (a : Analysis) → more a ≡ true → left_of (holds a) ≡ 2 ^ a.m - 1 - a.examined
left_more a h = ap (λ (b : Bool). cond b (2 ^ a.m - 1 - a.examined) 0) h

left_few : (x : Spot) → left_of x ≤ 65535
left_few empty = omega arith
left_few (holds a) = go (more a) refl
  where
    go : (b : Bool) → more a ≡ b → cond b (2 ^ a.m - 1 - a.examined) 0 ≤ 65535
    go true e = let h : 2 ^ a.m ≤ 2 ^ 16 = pow_mono (range_high 1 16 a.m (more_left a e).outputs) in omega arith
    go false e = omega arith

left_some : (x : Spot) → unfinished x ≡ true → 1 ≤ left_of x
left_some x u =
    let t = unfinished_holds x u in
    let h = left_more t.0 (sym (ap unfinished t.1) ∙ u) in
    subst (λ (y : Spot). 1 ≤ left_of y) (sym t.1) (omega (arith, h, t.2.left))

-- one combination more of an unfinished box
left_next : (a : Analysis) (rows : List ℕ) (found : Candidate) → more a ≡ true
    → suc (left_of (holds (record { n = a.n; m = a.m; rows = rows; examined = suc a.examined; found = found }))) ≡ left_of (holds a)
left_next a rows found h = go (dec_lt (suc a.examined) (2 ^ a.m - 1))
  where
    next : Analysis
    next = record { n = a.n; m = a.m; rows = rows; examined = suc a.examined; found = found }

    go : Dec (suc a.examined < 2 ^ a.m - 1) → suc (left_of (holds next)) ≡ left_of (holds a)
    go (yes l) =
        let t = more_left a h in
        let e = left_more next (more_is next t.inputs t.outputs ∙ lt-ltb _ _ l) in
        omega (arith, e, left_more a h, t.left)
    go (no l) =
        let t = more_left a h in
        let none : more next ≡ false = more_is next t.inputs t.outputs ∙ le-ltb (suc a.examined) (2 ^ a.m - 1) (omega arith) in
        let e : left_of (holds next) ≡ 0 = ap (λ (b : Bool). cond b (2 ^ a.m - 1 - suc a.examined) 0) none in
        omega (arith, e, left_more a h, t.left)

-- of a place that a step serves, one less is left
pub fewer : (p : Place) → unfinished (spot_in p) ≡ true → suc (left_of (spot_in (one_more_place p))) ≡ left_of (spot_in p)
unfolding one_more_place
fewer p u =
    let t = unfinished_taken p u in
    let is = spot_box p t in
    ap (λ (y : Spot). suc (left_of y)) (spot_box (one_more_place p) t)
    ∙ ap (λ (k : ℕ). suc (left_of (holds (record { n = p.n; m = p.m; rows = place_rows p; examined = k; found = pair_candidate (one_more_place p).found })))) (add-one p.examined)
    ∙ left_next (analysis_in p) (place_rows p) (pair_candidate (one_more_place p).found) (sym (ap unfinished is) ∙ u) ∙ ap left_of (sym is)

-- ---- all places
pub left_bound : (s : ServerState) → left_in s ≤ 8 * 65535
unfolding left_in
left_bound s = total_le 8 65535 (λ i. left_of (get_or s.spots i empty)) (λ i l. left_few (get_or s.spots i empty))

-- where the box on place i + 1 has one combination less left, so has the server
pub left_less : (s : ServerState) (i : ℕ) (x : Spot) (last : ℕ) → i < 8 → unfinished (get_or s.spots i empty) ≡ true
    → suc (left_of x) ≡ left_of (get_or s.spots i empty)
    → suc (left_in (record { spots = set s.spots i x; last = last })) ≡ left_in s
unfolding left_in
left_less s i x last l u e =
    total_less 8 (λ j. left_of (get_or s.spots j empty)) (λ j. left_of (get_or (set s.spots i x) j empty)) i l
    (ap (λ (y : Spot). suc (left_of y)) (get_or-set_same s.spots i x empty (unfinished_inside s.spots i u)) ∙ e)
    (λ j h. ap left_of (get_or-set_other s.spots i j x empty h))

pub served_high : (s : ServerState) → served s ≤ 8
unfolding served round_robin
served_high s =
    let high : (k : ℕ) → (s.last + k) % 8 + 1 ≤ 8 = λ k. omega arith in
    found_high (λ p. unfinished (spot_at s p)) high 0 8

-- where nothing is left, none is unfinished
pub left_none : (s : ServerState) → left_in s ≡ 0 → served s ≡ 0
unfolding left_in
left_none s h = go (ℕ_discrete (served s) 0)
  where
    go : Dec (served s ≡ 0) → served s ≡ 0
    go (yes e) = e
    go (no e) =
        let some = left_some (spot_at s (served s)) (served_left s (served s) refl e) in
        absurd (omega (arith, some, total_at 8 (λ i. left_of (get_or s.spots i empty)) (served s - 1) (omega (arith, served_high s)), h))
