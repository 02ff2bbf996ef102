-- The truth table of a component: that it is one, and that its spectrum is the component's. Assumes nothing.
use mathlib.Core.Path.{◌≡◌, sym, ap, ◌∙◌, subst}
use mathlib.Core.List.{List}
use Prim.Native.Nat.{ℕ, ◌^◌, ◌<◌}
use native.Mathlib.Decide.{dec_lt}
use native.Mathlib.Nat.{zero-lt-suc}
use native.Mathlib.Omega.{arith}
use lib.ListN.{length, get_or-eq_default}
use lib.IntN.{ℤ}
use Rattle.boolean.specs.Sums.{list_below}
use Rattle.boolean.specs.Functions.{at, component, spectrum}
use Rattle.boolean.proofs.Lists.{length_list_below, get_or_list_below, list_below_cong}
use Rattle.boolean.proofs.Approximations.{approximation_cong}
use Rattle.boolean.proofs.Digits.{component_lt}
use Rattle.refusals.specs.Table.{Box, Table}
use Rattle.walsh.specs.Work.{Ready}

module _ (n : ℕ) (rows : List ℕ) (c : ℕ) where
  abbrev pub table_of : List ℕ
  table_of = list_below (2 ^ n) (λ x. component rows c x)

  pub table_length : length table_of ≡ 2 ^ n
  table_length = length_list_below (2 ^ n) (λ x. component rows c x)

  table_entry : (x : ℕ) → x < 2 ^ n → at table_of x ≡ component rows c x
  table_entry x l = get_or_list_below (2 ^ n) (λ x. component rows c x) x 0 l

  table_bit : (x : ℕ) → Dec (x < 2 ^ n) → at table_of x < 2
  table_bit x (yes l) = subst (λ (z : ℕ). z < 2) (sym (table_entry x l)) (component_lt rows c x)
  table_bit x (no l) = subst (λ (z : ℕ). z < 2) (sym (get_or-eq_default table_of 0 (omega (arith, table_length)))) (zero-lt-suc 1)

  pub table_spectrum : spectrum n (at table_of) ≡ spectrum n (component rows c)
  unfolding spectrum
  table_spectrum = list_below_cong (2 ^ n) _ _ (λ w l. approximation_cong n (at table_of) (component rows c) w table_entry)

  module _ (m : ℕ) (b : Box n m rows) where
    pub table_is : Table n table_of
    table_is = record { n_low = b.n_low; n_high = b.n_high; size = table_length; bits = λ x. table_bit x (dec_lt x (2 ^ n)) }

    -- the same of what was written, as many values as the box has rows
    module _ (table : List ℕ) (e : table ≡ list_below (length rows) (λ x. component rows c x)) where
      pub written_is : table ≡ table_of
      written_is = e ∙ ap (λ (k : ℕ). list_below k (λ x. component rows c x)) b.size

      pub written_ready : (out : List ℤ) → length out ≡ 2 ^ n → Ready n table out
      written_ready out room = record { read = subst (Table n) (sym written_is) table_is; room = room }

      pub written_spectrum : spectrum n (at table) ≡ spectrum n (component rows c)
      written_spectrum = ap (λ (t : List ℕ). spectrum n (at t)) written_is ∙ table_spectrum
