-- What the constructions write, in the words of document 01, and what the calls reply of an enlarged box.
use Rattle.std.specs.Prelude.{Ok}
use Prim.Native.Nat.{ℕ, suc, ◌+◌, ◌*◌, ◌-◌, ◌/◌, ◌^◌, ◌<◌}
use mathlib.Core.Path.{◌≡◌, refl, sym, ap, ap₂, ◌∙◌}
use mathlib.Core.Bool.{Bool}
use mathlib.Core.List.{List, [], ◌∷◌}
use lib.Bits.{bit_xor, xor_zero_r}
use Rattle.boolean.specs.Bits.{dot}
use Rattle.boolean.specs.Functions.{at}
use Rattle.boolean.specs.Selection.{shown}
use Rattle.refusals.specs.Table.{first, figures, as_figure, box_checks}
use native.Mathlib.Nat.{le_refl, two-pow-succ, mul-le-mul_right, suc-mul}
use native.Mathlib.Omega.{arith}
use lib.Pow.{pow-add}
use Rattle.refusals.proofs.Bounds.{range_true}
use Rattle.refusals.proofs.Checks.{box, reply_accepted, found_after, skip, end}
use Rattle.refusals.proofs.Replies.{figures_accepted, figure_true}
use Rattle.avalanche.specs.Avalanche.{dynamic_distance}
use Rattle.avalanche.specs.Calls.{distance_checks, distance_reply}
use Rattle.avalanche.proofs.Theorems.{replied_distance}
use Rattle.algebraic.specs.Algebraic.{bijective}
use Rattle.algebraic.specs.Calls.{bijective_reply}
use Rattle.constructions.specs.Enlargement.{enlarged_table, enlarged_rows}
use Rattle.constructions.specs.BentForm.{bent_table}
use Rattle.constructions.specs.Calls.{enlarge_checks, bent_checks}
use Rattle.constructions.proofs.Accepted.{bent_accepts}
use Rattle.constructions.proofs.BentFlat.{bent_form_at, at_bent_table}
use Rattle.constructions.proofs.Halves.{enlarged_lower, enlarged_upper, at_enlarged_table, at_enlarged_rows}
use Rattle.constructions.proofs.Theorems as theorems

-- ---- the two halves of what is written, and the bent form at each input
lower_in : (n x : ℕ) → x < 2 ^ n → x < 2 ^ suc n
lower_in n x l = omega (arith, two-pow-succ n)

upper_in : (n x : ℕ) → x < 2 ^ n → 2 ^ n + x < 2 ^ suc n
upper_in n x l = omega (arith, two-pow-succ n)

pub column_halves : (n : ℕ) (table : List ℕ) (k a x : ℕ) → x < 2 ^ n
    → (at (enlarged_table n table k a) x ≡ at table x)
    × (at (enlarged_table n table k a) (2 ^ n + x) ≡ bit_xor (at table (bit_xor x (2 ^ (k - 1)))) a)
column_halves n table k a x l = (
  at_enlarged_table n table k a x (lower_in n x l) ∙ enlarged_lower n (at table) k a x l,
  at_enlarged_table n table k a (2 ^ n + x) (upper_in n x l) ∙ enlarged_upper n (at table) k a x,
)

pub box_halves : (n : ℕ) (rows table : List ℕ) (k x : ℕ) → x < 2 ^ n
    → (at (enlarged_rows n rows table k) x ≡ at table x * 2 ^ n + at rows x)
    × (at (enlarged_rows n rows table k) (2 ^ n + x) ≡ bit_xor (at table (bit_xor x (2 ^ (k - 1)))) 1 * 2 ^ n + at rows
    (bit_xor x (2 ^ (k - 1))))
box_halves n rows table k x l = (
  at_enlarged_rows n rows table k x (lower_in n x l)
      ∙ ap₂ (λ (g f : ℕ). g * 2 ^ n + f) (enlarged_lower n (at table) k 1 x l) (enlarged_lower n (at rows) k 0 x l),
  at_enlarged_rows n rows table k (2 ^ n + x) (upper_in n x l)
      ∙ ap₂ (λ (g f : ℕ). g * 2 ^ n + f) (enlarged_upper n (at table) k 1 x)
      (enlarged_upper n (at rows) k 0 x ∙ xor_zero_r (at rows (bit_xor x (2 ^ (k - 1))))),
)

both_halves : (h x y : ℕ) → x < 2 ^ h → y < 2 ^ h → x * 2 ^ h + y < 2 ^ (h + h)
both_halves h x y p q = omega (arith, suc-mul x (2 ^ h), mul-le-mul_right (2 ^ h) p, pow-add 2 h h)

pub bent_at : (n : ℕ) (permutation table : List ℕ) (room : ℕ) → first (bent_checks n permutation table room) ≡ (Ok tt) → (x y : ℕ)
    → x < 2 ^ (n / 2) → y < 2 ^ (n / 2)
    → at (bent_table n permutation table) (x * 2 ^ (n / 2) + y) ≡ bit_xor (dot (at permutation x) y) (at table x)
bent_at n permutation table room ok x y p q =
    let h = n / 2 in
    ap (λ (k : ℕ). at (bent_table k permutation table) (x * 2 ^ h + y)) (sym (bent_accepts n permutation table room ok).1)
    ∙ at_bent_table h permutation table (x * 2 ^ h + y) (both_halves h x y p q) ∙ bent_form_at h permutation table x y q

-- ---- of an enlarged box
module _ (n : ℕ) (rows table : List ℕ) (k room : ℕ) (accepted : first (enlarge_checks n rows table k room) ≡ (Ok tt)) where
  abbrev larger : List ℕ
  larger = enlarged_rows n rows table k

  still_box : first (box_checks (suc n) (suc n) larger) ≡ (Ok tt)
  still_box = theorems.enlarged_box_accepted n rows table k room accepted

  pub still_bijective : bijective_reply n n rows ≡ figures (1 ∷ []) → bijective_reply (suc n) (suc n) larger ≡ figures (1 ∷ [])
  still_bijective e =
      let yes = (figure_true (bijective n n rows) (figures_accepted (first (box_checks n n rows))
      (as_figure (bijective n n rows)) e).1).0 refl in
      sym (reply_accepted still_box (as_figure (bijective (suc n) (suc n) larger)))
      ∙ ap (λ (t : Bool). figures (as_figure t)) (theorems.enlarged_bijective n rows table k room accepted yes)

  pub still_avalanche : (v w : List ℕ) → distance_reply n n rows 1 1 ≡ figures (0 ∷ v) → distance_reply n 1 table 1 1 ≡ figures (0 ∷ w)
      → (z : List ℕ) × (distance_reply (suc n) (suc n) larger 1 1 ≡ figures (0 ∷ z))
  unfolding distance_checks
  still_avalanche v w p q =
      let sac = theorems.enlarged_box_avalanche n rows table k room accepted (sym (replied_distance n n rows 1 1 0 v p))
      (sym (replied_distance n 1 table 1 1 0 w q)) in
      let sound = box (suc n) (suc n) larger [] still_box in
      let ok : first (distance_checks (suc n) (suc n) larger 1 1) ≡ (Ok tt) =
      sym (found_after _ still_box (skip (range_true 1 (suc n) 1 (le_refl 1) sound.m_low)
      (skip (range_true 1 (suc n) 1 (le_refl 1) sound.n_low) end))) in (
        (dynamic_distance (suc n) (suc n) larger 1 1).witness,
        sym (reply_accepted ok (shown (dynamic_distance (suc n) (suc n) larger 1 1)))
            ∙ ap (λ (d : ℕ). figures (d ∷ (dynamic_distance (suc n) (suc n) larger 1 1).witness)) sac,
      )
