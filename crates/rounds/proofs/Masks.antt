-- The lists of masks: one mask for each box, all of them, and every mask of N bits put together of one.
use mathlib.Core.Path.{◌≡◌, refl, sym, ap, ◌∙◌, subst}
use mathlib.Core.List.Memᴰ
use mathlib.Core.List.{List, [], ◌∷◌, Memᴰ}
use Prim.Native.Nat.{ℕ, suc, ◌+◌, ◌*◌, ◌/◌, ◌%◌, ◌^◌, ◌<◌, ◌≤◌}
use native.Mathlib.Nat.{mod-lt, add_comm, mul_comm, mul-suc, mul-le-mul_left}
use native.Mathlib.Omega.{arith}
use lib.Arith.{lt-one as below_one}
use lib.Pow.{pow_pos, pow-add, split, shr_lt}
use Rattle.boolean.specs.Sums.{each, list_below}
use Rattle.boolean.proofs.Lists.{mem_list_below, in_list_below, mem_each, in_each}
use Rattle.rounds.specs.Round.{Summand, inputs_of, masks_of_inputs, joined}
use Rattle.rounds.specs.Statements.{MasksFit}

-- the masks behind one mask
abbrev pub behind : List Summand → ℕ → List (List ℕ)
behind ss w = each (masks_of_inputs ss) (λ ws. (w ∷ ws) ∷ [])

pub mem_behind : (ss : List Summand) (w : ℕ) (vs : List ℕ) → Memᴰ vs (behind ss w) → (ws : List ℕ) × Memᴰ ws (masks_of_inputs ss) × (vs ≡ w ∷ ws)
mem_behind ss w vs m = let t = mem_each (masks_of_inputs ss) (λ ws. (w ∷ ws) ∷ []) vs m in (t.0, t.1, Memᴰ.eq_of_singleton t.2)

pub mem_masks : (ss : List Summand) (ws : List ℕ) → Memᴰ ws (masks_of_inputs ss) → MasksFit ss ws
unfolding masks_of_inputs
mem_masks [] ws m = subst (MasksFit []) (sym (Memᴰ.eq_of_singleton m)) tt
mem_masks (s ∷ ss) ws m =
    let t = mem_each (list_below (2 ^ s.inputs) (λ w. w)) (behind ss) ws m in
    let u = mem_list_below (2 ^ s.inputs) (λ w. w) t.0 t.1 in
    let r = mem_behind ss t.0 ws t.2 in
    subst (MasksFit (s ∷ ss)) (sym r.2) (omega (arith, u.1, u.2), mem_masks ss r.0 r.1)

pub in_masks : (ss : List Summand) (ws : List ℕ) → MasksFit ss ws → Memᴰ ws (masks_of_inputs ss)
unfolding masks_of_inputs
in_masks [] [] h = Memᴰ.head refl
in_masks [] (w ∷ ws) h = absurd h
in_masks (s ∷ ss) [] h = absurd h
in_masks (s ∷ ss) (w ∷ ws) h =
    in_each (list_below (2 ^ s.inputs) (λ w. w)) (behind ss) w (w ∷ ws) (in_list_below (2 ^ s.inputs) (λ w. w) w h.0)
    (in_each (masks_of_inputs ss) (λ ws. (w ∷ ws) ∷ []) ws (w ∷ ws) (in_masks ss ws h.1) (Memᴰ.head refl))

-- a mask of N bits taken apart
unfoldable pub apart : List Summand → ℕ → List ℕ
apart [] v = []
apart (s ∷ ss) v = (v % 2 ^ s.inputs) ∷ apart ss (v / 2 ^ s.inputs)

pub apart_fits : (ss : List Summand) (v : ℕ) → MasksFit ss (apart ss v)
unfolding apart
apart_fits [] v = tt
apart_fits (s ∷ ss) v = (mod-lt v (pow_pos s.inputs), apart_fits ss (v / 2 ^ s.inputs))

-- and put together again
pub joined_apart : (ss : List Summand) (v : ℕ) → v < 2 ^ inputs_of ss → joined ss (apart ss v) ≡ v
unfolding apart joined inputs_of
joined_apart [] v h = sym (below_one h)
joined_apart (s ∷ ss) v h =
    let l : v / 2 ^ s.inputs < 2 ^ inputs_of ss = shr_lt (inputs_of ss) s.inputs (subst (λ (z : ℕ). v < 2 ^ z) (add_comm s.inputs (inputs_of ss)) h) in
    ap (λ (z : ℕ). v % 2 ^ s.inputs + 2 ^ s.inputs * z) (joined_apart ss (v / 2 ^ s.inputs) l)
    ∙ ap (λ (z : ℕ). v % 2 ^ s.inputs + z) (mul_comm (2 ^ s.inputs) (v / 2 ^ s.inputs))
    ∙ add_comm (v % 2 ^ s.inputs) (v / 2 ^ s.inputs * 2 ^ s.inputs) ∙ split v s.inputs

-- a mask put together has N bits
pub joined_lt : (ss : List Summand) (ws : List ℕ) → MasksFit ss ws → joined ss ws < 2 ^ inputs_of ss
unfolding joined inputs_of
joined_lt [] [] h = omega arith
joined_lt [] (w ∷ ws) h = absurd h
joined_lt (s ∷ ss) [] h = absurd h
joined_lt (s ∷ ss) (w ∷ ws) h =
    let l : suc (joined ss ws) ≤ 2 ^ inputs_of ss = joined_lt ss ws h.1 in
    let m : 2 ^ s.inputs * suc (joined ss ws) ≤ 2 ^ s.inputs * 2 ^ inputs_of ss = mul-le-mul_left (2 ^ s.inputs) l in
    omega (arith, m, h.0, mul-suc (2 ^ s.inputs) (joined ss ws), pow-add 2 s.inputs (inputs_of ss))
