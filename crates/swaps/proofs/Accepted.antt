-- What the nonlinearity call answers of an accepted box, and what the search gives of it. Assumes nothing.
use mathlib.Core.Path.{◌≡◌, sym, ap, ap₂, ◌∙◌}
use mathlib.Core.List.{List, [], ◌∷◌}
use Prim.Native.Nat.{ℕ}
use native.Mathlib.Nat.{le_refl}
use native.Mathlib.Omega.{arith}
use Rattle.boolean.specs.Selection.{shown}
use Rattle.refusals.specs.Table.{Box, figures, refusal}
use Rattle.refusals.proofs.Checks.{limit_accepted, reply_accepted}
use Rattle.linear.specs.Nonlinearity.{nonlinearity, nonlinearity_reply}
use Rattle.swaps.specs.Swaps.{figure_of, swaps, shown_swap, raised}
use Rattle.swaps.specs.Work.{RaiseIn, NoneIn}
use Rattle.swaps.specs.declared.Raise.{Raise}

-- ---- the nonlinearity over all combinations
module _ {n m : ℕ} {rows : List ℕ} (boxed : Box n m rows) where
  pub reply_is : nonlinearity_reply n m rows m ≡ figures (shown (nonlinearity n m rows m))
  reply_is =
      sym (reply_accepted (limit_accepted n m rows m (record { box = boxed; i_low = boxed.m_low; i_high = le_refl m })) (shown (nonlinearity n m rows m)))

  pub pair_reached_lem : {count c w b : ℕ} → figures (count ∷ c ∷ w ∷ b ∷ []) ≡ nonlinearity_reply n m rows m
      → record { figure = count; witness = c ∷ w ∷ b ∷ [] } ≡ nonlinearity n m rows m
  pair_reached_lem {count} {c} {w} {b} e =
      let z = e ∙ reply_is in
      let k : count ≡ figure_of n m rows = cc in
      let l : c ∷ w ∷ b ∷ [] ≡ (nonlinearity n m rows m).witness = cc in
      ap₂ (λ (figure : ℕ) (witness : List ℕ). record { figure = figure; witness = witness }) k l

  pub never_declined : {A : Type 0} {k : ℕ} → refusal k ≡ nonlinearity_reply n m rows m → A
  never_declined e = let z = e ∙ reply_is in absurd (let k : ◌≡◌ {A = ℕ} 0 1 = cc in omega arith)

-- ---- what the call gives of a swap that was found, and of none
module _ {n m : ℕ} {rows : List ℕ} where
  pub raised_found : {raise : Raise} → RaiseIn n m rows (swaps n m rows) raise → 1 ∷ raise.low ∷ raise.high ∷ raise.figure ∷ [] ≡ raised n m rows
  unfolding raised
  raised_found {raise} t = ap (λ (k : ℕ). 1 ∷ raise.low ∷ raise.high ∷ k ∷ []) t.figure_is ∙ ap (shown_swap n m rows) (sym t.first)

  pub raised_none : {hint : ℕ} → NoneIn n m rows (swaps n m rows) hint → 0 ∷ 0 ∷ 0 ∷ 0 ∷ [] ≡ raised n m rows
  unfolding raised
  raised_none t = ap (shown_swap n m rows) (sym t.none)
