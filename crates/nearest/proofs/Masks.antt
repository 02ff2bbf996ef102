-- The masks of k ones, one after the other: none below the first, and one more with each step to the next. Assumes nothing.
use mathlib.Core.Path.{◌≡◌, sym, ap, ◌∙◌}
use mathlib.Core.Bool.{Bool, true, false}
use mathlib.Core.List.{List, [], ◌∷◌, ◌++◌}
use Prim.Native.Nat.{ℕ, suc, ◌+◌, ◌-◌, ◌^◌, ◌≤◌, ◌<◌, min}
use native.Mathlib.Omega.{arith}
use borrow.Author.Tests.{eq-eqb, ne_eqb}
use lib.Count.{ones}
use lib.Dec.{eqb}
use lib.Pow.{pow_mono}
use Rattle.boolean.specs.Sums.{list_from, each, keep}
use Rattle.boolean.specs.Functions.{components}
use Rattle.boolean.proofs.Components.{split, keep_none}
use Rattle.boolean.proofs.Kept.{keep_append, keep_takes, each_each}
use Rattle.nearest.specs.Work.{NextOfOnes, masks_with_ones}
use Rattle.nearest.proofs.SameOnes.{ones_fewer}

-- of the numbers from 1 on, up to one past c that is the next to be kept, c is kept after those below it
keep_next : (p : ℕ → Bool) (c r : ℕ) → 1 ≤ c → c < r → p c ≡ true → ((x : ℕ) → c < x → x < r → p x ≡ false)
    → keep p (list_from 1 (r - 1) (λ c. c)) ≡ keep p (list_from 1 (c - 1) (λ c. c)) ++ (c ∷ [])
unfolding list_from
keep_next p c r low h e none =
    let all : r - 1 ≡ (c - 1) + suc (r - suc c) = omega arith in
    let here : 1 + (c - 1) ≡ c = omega arith in
    let rest : List ℕ = list_from (suc c) (r - suc c) (λ c. c) in
    let below : List ℕ = keep p (list_from 1 (c - 1) (λ c. c)) in
    ap (λ (k : ℕ). keep p (list_from 1 k (λ c. c))) all
    ∙ ap (keep p) (split 1 (c - 1) (suc (r - suc c)) (λ c. c))
    ∙ keep_append p (list_from 1 (c - 1) (λ c. c)) (list_from (1 + (c - 1)) (suc (r - suc c)) (λ c. c))
    ∙ ap (λ (z : ℕ). below ++ keep p (list_from z (suc (r - suc c)) (λ c. c))) here
    ∙ ap (λ (l : List ℕ). below ++ l)
    (keep_takes p c rest e ∙ ap (λ (l : List ℕ). c ∷ l) (keep_none p (suc c) (r - suc c) (λ x l m. none x l (omega arith))))

-- no mask below 2^k − 1 has k ones, and that one has
pub masks_none : (k : ℕ) → 1 ≤ k → masks_with_ones k (2 ^ k - 1) ≡ []
unfolding masks_with_ones
masks_none k low =
    keep_none (λ c. eqb (ones c) k) 1 (2 ^ k - 1 - 1)
    (λ x l h. ne_eqb (ones x) k (λ e. let few = ones_fewer k x (omega (arith, pow_mono {i = 1} {j = k} low)) in omega arith))

-- up to the next mask of as many ones, or to the end, there is one more
pub masks_next : (k c r end : ℕ) → 1 ≤ c → ones c ≡ k → NextOfOnes c r → c < end → masks_with_ones k (min r end) ≡ masks_with_ones k c ++ (c ∷ [])
unfolding masks_with_ones
masks_next k c r end low e next h =
    keep_next (λ c. eqb (ones c) k) c (min r end) low (omega (arith, next.above)) (eq-eqb (ones c) k e)
    (λ x l m. ne_eqb (ones x) k (λ q. next.between x l (omega arith) (q ∙ sym e)))

-- the masks of one, two, .. ones are those of the components
pub masks_all : {B : Type 0} (m i : ℕ) (f : ℕ → List B) → each (list_from 1 i (λ k. k)) (λ k. each (masks_with_ones k (2 ^ m)) f) ≡ each (components m i) f
unfolding components masks_with_ones
masks_all m i f = sym (each_each (list_from 1 i (λ k. k)) (λ k. keep (λ c. eqb (ones c) k) (list_from 1 (2 ^ m - 1) (λ c. c))) f)
