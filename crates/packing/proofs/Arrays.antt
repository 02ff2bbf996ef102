-- A loop that stores one entry after the other, and a list that stands at the front of one that is 0. Assumes nothing.
use mathlib.Core.Path.{◌≡◌, sym, ◌∙◌, subst}
use mathlib.Core.List.{List, ◌++◌}
use Prim.Native.Nat.{ℕ, ◌+◌, ◌-◌, ◌≤◌, ◌<◌}
use native.Mathlib.Decide.{ℕ_discrete, dec_lt}
use native.Mathlib.Omega.{arith}
use lib.ListN.{length, drop, set, get_or-append, get_or-eq_default}
use lib.Seq.{get_or-set_same, get_or-set_other, get_or-append_right, get_or-drop}
use Rattle.boolean.specs.Functions.{at}

-- the entries before the next place are those of a rule, where those before this one are and the rule's stands here
pub stored_next : (f : ℕ → ℕ) (l : List ℕ) (place next v : ℕ) → next ≡ place + 1 → place < length l → v ≡ f place
    → ((q : ℕ) → q < place → at l q ≡ f q) → (q : ℕ) → q < next → at (set l place v) q ≡ f q
stored_next f l place next v e inside is before q h = pick (ℕ_discrete q place)
  where
    pick : Dec (q ≡ place) → at (set l place v) q ≡ f q
    pick (yes p) = subst (λ (j : ℕ). at (set l place v) j ≡ f j) (sym p) (get_or-set_same l place v 0 inside ∙ is)
    pick (no n) = get_or-set_other l place q v 0 n ∙ before q (omega arith)

-- past its last entry stands 0
pub padded_by : (values rest : List ℕ) → ((x : ℕ) → at rest x ≡ 0) → (x : ℕ) → at (values ++ drop (length values) rest) x ≡ at values x
padded_by values rest none x = pick (dec_lt x (length values))
  where
    pick : Dec (x < length values) → at (values ++ drop (length values) rest) x ≡ at values x
    pick (yes l) = get_or-append values (drop (length values) rest) 0 x l
    pick (no l) =
        let past : length values ≤ x = omega arith in
        get_or-append_right values (drop (length values) rest) x 0 past ∙ get_or-drop (length values) rest (x - length values) 0
        ∙ none (length values + (x - length values)) ∙ sym (get_or-eq_default values 0 past)
