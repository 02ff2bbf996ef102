-- The largest magnitude of a product of Walsh values: it is the product of the largest, and the first masks that reach it are each box's own first.
use mathlib.Core.Path.{◌≡◌, sym, subst}
use mathlib.Core.List.Memᴰ
use mathlib.Core.List.{List, [], ◌∷◌, Memᴰ}
use Prim.Native.Nat.{ℕ, zero, suc, ◌*◌, ◌^◌, ◌<◌, ◌≤◌}
use native.Mathlib.Nat.{le_refl, lt_of_le_of_lt, mul-le-mul, mul-le-mul_left, mul-le-mul_right, mul-lt-mul_of_pos_left, mul-lt-mul_of_pos_right, zero-lt-suc}
use native.Mathlib.Omega.{arith}
use native.Mathlib.Decide.{dec_lt}
use lib.Pow.{pow_pos}
use lib.IntN.{nat_abs}
use Rattle.boolean.specs.Functions.{component, square}
use Rattle.boolean.specs.Selection.{FirstIn, here}
use Rattle.boolean.proofs.Digits.{component_lt}
use Rattle.boolean.proofs.Spectrum.{some_walsh_large}
use Rattle.rounds.specs.Round.{Summand, masks_of_inputs}
use Rattle.rounds.proofs.Firsts.{first_weaken, first_each, first_below}
use Rattle.rounds.specs.Statements.{MasksFit, walsh_of, product_at}
use Rattle.rounds.proofs.Masks.{behind, mem_behind, mem_masks}
use Rattle.rounds.proofs.Products.{abs_product}

-- the magnitude of component c's Walsh value, and of the product
abbrev pub size_of : Summand → ℕ → ℕ → ℕ
size_of s c w = nat_abs (walsh_of s c w)

abbrev pub size_at : List Summand → ℕ → List ℕ → ℕ
size_at ss c ws = nat_abs (product_at ss c ws)

-- the first mask at which W(w) of component c has its largest magnitude
pub record Peak (s : Summand) (c w : ℕ) : Type 0 where
  pub inside : w < 2 ^ s.inputs
  pub bounds : (v : ℕ) → v < 2 ^ s.inputs → size_of s c v ≤ size_of s c w
  pub first : (v : ℕ) → v < w → size_of s c v < size_of s c w

-- for each box
abbrev pub Peaks : List Summand → ℕ → List ℕ → Type 0
Peaks [] c [] = Unit {0}
Peaks [] c (w ∷ ws) = ⊥
Peaks (s ∷ ss) c [] = ⊥
Peaks (s ∷ ss) c (w ∷ ws) = Peak s c w × Peaks ss c ws

pub peaks_fit : (ss : List Summand) (c : ℕ) (ws : List ℕ) → Peaks ss c ws → MasksFit ss ws
peaks_fit [] c [] h = tt
peaks_fit [] c (w ∷ ws) h = absurd h
peaks_fit (s ∷ ss) c [] h = absurd h
peaks_fit (s ∷ ss) c (w ∷ ws) h = (h.0.inside, peaks_fit ss c ws h.1)

-- by Parseval no spectrum is 0 everywhere
positive : (k z : ℕ) → 0 < k → k ≤ z * z → 0 < z
positive k zero h l = absurd (omega arith)
positive k (suc z) h l = zero-lt-suc z

pub peak_positive : (s : Summand) (c w : ℕ) → Peak s c w → 0 < size_of s c w
unfolding square
peak_positive s c w p =
    let t = some_walsh_large s.inputs (component s.rows c) (λ x l. component_lt s.rows c x) in
    omega (arith, positive (2 ^ s.inputs) (size_of s c t.0) (pow_pos s.inputs) t.2, p.bounds t.0 t.1)

pub size_next : (s : Summand) (ss : List Summand) (c w : ℕ) (ws : List ℕ) → size_at (s ∷ ss) c (w ∷ ws) ≡ size_of s c w * size_at ss c ws
unfolding product_at
size_next s ss c w ws = abs_product (walsh_of s c w) (product_at ss c ws)

pub peaks_positive : (ss : List Summand) (c : ℕ) (ws : List ℕ) → Peaks ss c ws → 0 < size_at ss c ws
unfolding product_at
peaks_positive [] c [] h = zero-lt-suc 0
peaks_positive [] c (w ∷ ws) h = absurd h
peaks_positive (s ∷ ss) c [] h = absurd h
peaks_positive (s ∷ ss) c (w ∷ ws) h =
    subst (λ (z : ℕ). 0 < z) (sym (size_next s ss c w ws)) (mul-le-mul (peak_positive s c w h.0) (peaks_positive ss c ws h.1))

-- no masks give more
pub peaks_bound : (ss : List Summand) (c : ℕ) (ws : List ℕ) → Peaks ss c ws → (vs : List ℕ) → MasksFit ss vs → size_at ss c vs ≤ size_at ss c ws
peaks_bound [] c [] h [] f = le_refl _
peaks_bound [] c [] h (v ∷ vs) f = absurd f
peaks_bound [] c (w ∷ ws) h vs f = absurd h
peaks_bound (s ∷ ss) c [] h vs f = absurd h
peaks_bound (s ∷ ss) c (w ∷ ws) h [] f = absurd f
peaks_bound (s ∷ ss) c (w ∷ ws) h (v ∷ vs) f =
    rw (size_next s ss c v vs, size_next s ss c w ws) (mul-le-mul (h.0.bounds v f.0) (peaks_bound ss c ws h.1 vs f.1))

-- Masks that give as much are no smaller, box by box: those that reach the product are a product of sets, one for each box. So the peaks come first in
-- every order that compares masks box by box, whichever box it begins with.
abbrev pub NoSmaller : (vs ws : List ℕ) → Type 0
NoSmaller [] ws = Unit {0}
NoSmaller (v ∷ vs) [] = Unit {0}
NoSmaller (v ∷ vs) (w ∷ ws) = (w ≤ v) × NoSmaller vs ws

pub as_much : (ss : List Summand) (c : ℕ) (ws : List ℕ) → Peaks ss c ws → (vs : List ℕ) → MasksFit ss vs → size_at ss c ws ≤ size_at ss c vs → NoSmaller vs ws
as_much [] c ws p [] f l = tt
as_much [] c ws p (v ∷ vs) f l = absurd f
as_much (s ∷ ss) c ws p [] f l = absurd f
as_much (s ∷ ss) c [] p (v ∷ vs) f l = absurd p
as_much (s ∷ ss) c (w ∷ ws) p (v ∷ vs) f l = (own (dec_lt v w), as_much ss c ws p.1 vs f.1 (others (dec_lt (size_at ss c vs) (size_at ss c ws))))
  where
    -- a smaller first mask gives less, whatever the others; so do others that give less
    own : Dec (v < w) → w ≤ v
    own (yes k) =
        let less : size_of s c v * size_at ss c vs < size_of s c w * size_at ss c ws =
        lt_of_le_of_lt (mul-le-mul_left (size_of s c v) (peaks_bound ss c ws p.1 vs f.1)) (mul-lt-mul_of_pos_right (p.0.first v k) (peaks_positive ss c ws p.1)) in
        absurd (omega (arith, less, size_next s ss c v vs, size_next s ss c w ws))
    own (no k) = omega arith

    others : Dec (size_at ss c vs < size_at ss c ws) → size_at ss c ws ≤ size_at ss c vs
    others (yes k) =
        let less : size_of s c v * size_at ss c vs < size_of s c w * size_at ss c ws =
        lt_of_le_of_lt (mul-le-mul_right (size_at ss c vs) (p.0.bounds v f.0)) (mul-lt-mul_of_pos_left k (peak_positive s c w p.0)) in
        absurd (omega (arith, less, size_next s ss c v vs, size_next s ss c w ws))
    others (no k) = omega arith

-- and all that come before give less
pub peaks_first : (ss : List Summand) (c : ℕ) (ws : List ℕ) → Peaks ss c ws → FirstIn (λ r v. size_at ss c v < size_at ss c r) ws (masks_of_inputs ss)
unfolding masks_of_inputs
peaks_first [] c [] h = here
peaks_first [] c (w ∷ ws) h = absurd h
peaks_first (s ∷ ss) c [] h = absurd h
peaks_first (s ∷ ss) c (w ∷ ws) h =
    first_each Less (behind ss) (first_below _ (2 ^ s.inputs) w h.0.inside smaller)
    (first_each Less (λ ws. (w ∷ ws) ∷ []) (first_weaken (λ r v. size_at ss c v < size_at ss c r) _ (λ v k l vs m. later v l vs (Memᴰ.eq_of_singleton m)) (peaks_first ss c ws h.1)) here)
  where
    Less : List ℕ → List ℕ → Type 0
    Less r v = size_at (s ∷ ss) c v < size_at (s ∷ ss) c r

    -- a smaller first mask, whatever the others
    smaller : (v : ℕ) → v < w → (vs : List ℕ) → Memᴰ vs (behind ss v) → Less (w ∷ ws) vs
    smaller v l vs m =
        let t = mem_behind ss v vs m in
        rw (t.2, size_next s ss c v t.0, size_next s ss c w ws)
        (lt_of_le_of_lt (mul-le-mul_left (size_of s c v) (peaks_bound ss c ws h.1 t.0 (mem_masks ss t.0 t.1)))
        (mul-lt-mul_of_pos_right (h.0.first v l) (peaks_positive ss c ws h.1)))

    -- the same first mask, and others before
    later : (v : List ℕ) → size_at ss c v < size_at ss c ws → (vs : List ℕ) → vs ≡ w ∷ v → Less (w ∷ ws) vs
    later v l vs e = rw (e, size_next s ss c w v, size_next s ss c w ws) (mul-lt-mul_of_pos_left l (peak_positive s c w h.0))
