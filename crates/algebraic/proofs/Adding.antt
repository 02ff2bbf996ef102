-- The turns that XOR the lower half to the upper: k of them have changed the first k numbers of the upper half and nothing else.
use mathlib.Core.Path.{◌≡◌, refl, sym, ap₂, ◌∙◌, subst}
use mathlib.Core.List.{List}
use Prim.Native.Nat.{ℕ, ◌+◌, ◌≤◌, ◌<◌}
use native.Mathlib.Decide.{ℕ_discrete}
use native.Mathlib.Omega.{arith}
use lib.Bits.{bit_xor, xor_comm}
use lib.ListN.{length, set, length-set}
use lib.Seq.{get_or-set_same, get_or-set_other}
use Rattle.boolean.specs.Functions.{at}
use Rattle.algebraic.specs.Work.{HalvesAdded}

pub record Adding (h k : ℕ) (old new : List ℕ) : Type 0 where
  pub within : k ≤ h
  pub long : length new ≡ length old
  pub kept : (i : ℕ) → i < h → at new i ≡ at old i
  pub sums : (i : ℕ) → i < k → at new (h + i) ≡ bit_xor (at old i) (at old (h + i))
  pub rest : (i : ℕ) → k ≤ i → at new (h + i) ≡ at old (h + i)

pub adding_none : (h : ℕ) (old : List ℕ) → Adding h 0 old old
adding_none h old = record {
  within = omega arith;
  long = refl;
  kept = λ i below. refl;
  sums = λ i below. absurd (omega arith);
  rest = λ i from. refl;
}

pub adding_all : {h k : ℕ} {old new : List ℕ} → Adding h k old new → h ≤ k → HalvesAdded h old new
adding_all t end = record { kept = t.kept; sums = λ i below. t.sums i (omega arith) }

-- one more turn
module _ {h k : ℕ} {old new : List ℕ} (size : length old ≡ h + h) (t : Adding h k old new) (lt : k < h) where
  abbrev sum : ℕ
  sum = bit_xor (at new (h + k)) (at new k)

  abbrev next : List ℕ
  next = set new (h + k) sum

  elsewhere : (i : ℕ) → (i ≡ h + k → ⊥) → at next i ≡ at new i
  elsewhere i ne = get_or-set_other new (h + k) i sum 0 ne

  sum_is : at next (h + k) ≡ bit_xor (at old k) (at old (h + k))
  sum_is = get_or-set_same new (h + k) sum 0 (omega (arith, t.long)) ∙ ap₂ bit_xor (t.rest k (omega arith)) (t.kept k lt) ∙ xor_comm (at old (h + k)) (at old k)

  sums_more : (i : ℕ) → i < k + 1 → Dec (i ≡ k) → at next (h + i) ≡ bit_xor (at old i) (at old (h + i))
  sums_more i below (yes e) = subst (λ (j : ℕ). at next (h + j) ≡ bit_xor (at old j) (at old (h + j))) (sym e) sum_is
  sums_more i below (no ne) = elsewhere (h + i) (λ e. ne (omega arith)) ∙ t.sums i (omega arith)

  pub adding_more : Adding h (k + 1) old next
  adding_more = record {
    within = omega arith;
    long = length-set new (h + k) sum ∙ t.long;
    kept = λ i below. elsewhere i (λ e. omega arith) ∙ t.kept i below;
    sums = λ i below. sums_more i below (ℕ_discrete i k);
    rest = λ i from. elsewhere (h + i) (λ e. omega arith) ∙ t.rest i (omega arith);
  }
