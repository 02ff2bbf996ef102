-- Document 02 §12: no list of column additions changes the figure or the witness of the autocorrelation within any limit, or of any dynamic
-- distance. The whole replies are equal, of refused boxes and limits too.
use Rattle.std.specs.Prelude.{Result, Ok, Err, ⊤}
use Rattle.refusals.specs.declared.Refusal.{Refusal}
use mathlib.Core.Path.{◌≡◌, refl, sym, ap, ap₂, ◌∙◌, subst}
use mathlib.Core.List.{List, [], ◌∷◌, ◌++◌}
use Prim.Native.Nat.{ℕ, ◌*◌, ◌^◌, ◌<◌, ◌≤◌}
use native.Mathlib.Omega.{arith}
use lib.Bits.{bit_xor}
use lib.IntN.{nat_abs}
use Rattle.boolean.specs.Bits.{affine, bit}
use Rattle.boolean.specs.Functions.{autocorrelation, component}
use Rattle.boolean.specs.Selection.{Candidate, first_largest, shown}
use Rattle.boolean.proofs.Correlation.{correlation_half, correlation_cong, correlation_size}
use Rattle.boolean.proofs.Digits.{affine_times, bit_lt, component_lt}
use Rattle.refusals.specs.Table.{Box, Check, first, box_checks, limit_checks, reply_after}
use Rattle.refusals.proofs.Checks.{box, box_accepted, first_append}
use Rattle.columns.specs.Addition.{Addition, rows_after_all}
use Rattle.columns.proofs.Additions.{Fits, rows_with, component_added, times_lt, standing_cases, standing_keeps_box}
use Rattle.avalanche.specs.Avalanche.{box_autocorrelation, imbalance, dynamic_distance, correlated}
use Rattle.avalanche.specs.Calls.{autocorrelation_reply, distance_reply, distance_checks}
use Rattle.avalanche.specs.Statements.{distance_of}
use Rattle.avalanche.proofs.Changes.{measured_cong}
use Rattle.claims.proofs.Effects.{after_keeps_box, no_box_after}

-- ---- every |r(s)| of two boxes is the same
abbrev Alike : ℕ → List ℕ → List ℕ → Type 0
Alike n rows other = (c s : ℕ) → s < 2 ^ n → correlated n other c s ≡ correlated n rows c s

-- a component has the affine function added, or nothing
added_alike : {n m : ℕ} {rows : List ℕ} → Box n m rows → (a : Addition) → Fits n m a → Alike n rows (rows_with a rows)
added_alike {n} {m} {rows} box a fits c s hs =
    let t = bit_lt a.column c in
    ap nat_abs
    (correlation_cong n (component (rows_with a rows) c) (λ x. bit_xor (component rows c x)
    (affine (a.mask * bit a.column c) (a.constant * bit a.column c) x)) s hs (λ x l.
    component_added a.column a.mask a.constant rows fits.constant_high c x (omega (arith, box.size))
    ∙ ap (bit_xor (component rows c x)) (affine_times a.mask a.constant x (bit a.column c) t)))
    ∙ correlation_size n (component rows c) (a.mask * bit a.column c) (a.constant * bit a.column c) (λ x l. component_lt rows c x)
    (times_lt 2 a.constant (bit a.column c) fits.constant_high t) s hs

pub after_alike : {n m : ℕ} (list : List Addition) {rows : List ℕ} → Box n m rows → Alike n rows (rows_after_all n m rows list)
unfolding rows_after_all
after_alike [] box c s hs = refl
after_alike {n} {m} (a ∷ list) {rows} box c s hs =
    after_alike list (standing_keeps_box n m rows box a) c s hs
    ∙ standing_cases n m rows a (Alike n rows) (added_alike box a) (λ c s hs. refl) c s hs

-- the imbalance is half of it
imbalance_same : (n : ℕ) (f g : ℕ → ℕ) (s : ℕ) → 1 ≤ n → nat_abs (autocorrelation n f s) ≡ nat_abs (autocorrelation n g s)
    → imbalance n f s ≡ imbalance n g s
unfolding imbalance
imbalance_same n f g s low e = omega (arith, correlation_half n f s low, correlation_half n g s low)

-- ---- the figures with their witnesses
module _ {n m : ℕ} {rows : List ℕ} (box : Box n m rows) (list : List Addition) where
  abbrev later : List ℕ
  later = rows_after_all n m rows list

  pub autocorrelation_kept : (i : ℕ) → box_autocorrelation n m later i ≡ box_autocorrelation n m rows i
  unfolding box_autocorrelation
  autocorrelation_kept i = ap first_largest (measured_cong n m i n (correlated n later) (correlated n rows)
      (λ c s hc hs. after_alike list box c s hs.high))

  pub distance_kept : (i j : ℕ) → dynamic_distance n m later i j ≡ dynamic_distance n m rows i j
  unfolding dynamic_distance
  distance_kept i j =
      ap first_largest
      (measured_cong n m i j (distance_of n later) (distance_of n rows) (λ c s hc hs.
      imbalance_same n (component later c) (component rows c) s box.n_low (after_alike list box c s hs.high)))

-- ---- the replies
checks_kept : {n m : ℕ} {rows : List ℕ} (box : Box n m rows) (list : List Addition) (more : List Check)
    → first (box_checks n m (rows_after_all n m rows list) ++ more) ≡ first (box_checks n m rows ++ more)
checks_kept {n} {m} {rows} box list more =
    first_append (box_checks n m (rows_after_all n m rows list)) more (box_accepted n m (rows_after_all n m rows list)
    (after_keeps_box list box))
    ∙ sym (first_append (box_checks n m rows) more (box_accepted n m rows box))

-- what holds of the rows after a list of additions to a box, and of unchanged rows, holds of the rows after any list
by_box : (n m : ℕ) (rows : List ℕ) (list : List Addition) (P : List ℕ → Type 0) → (Box n m rows → P (rows_after_all n m rows list)) → P rows
    → P (rows_after_all n m rows list)
by_box n m rows list P p q = go (first (box_checks n m rows)) refl
  where
    go : (k : Result ⊤ Refusal) → first (box_checks n m rows) ≡ k → P (rows_after_all n m rows list)
    go (Ok tt) e = p (box n m rows [] e)
    go (Err r) e = subst P (sym (no_box_after n m rows list e)) q

module _ (n m : ℕ) (rows : List ℕ) (list : List Addition) where
  -- "no list changes the figure or witness of the autocorrelation within any limit,"
  pub autocorrelation_reply_kept : (i : ℕ) → autocorrelation_reply n m (rows_after_all n m rows list) i ≡ autocorrelation_reply n m rows i
  unfolding limit_checks
  autocorrelation_reply_kept i =
      by_box n m rows list (λ r. autocorrelation_reply n m r i ≡ autocorrelation_reply n m rows i)
      (λ b. ap₂ (λ (k : Result ⊤ Refusal) (p : Candidate). reply_after k (shown p)) (checks_kept b list _) (autocorrelation_kept b list i)) refl

  -- "or of any dynamic distance"
  pub distance_reply_kept : (i j : ℕ) → distance_reply n m (rows_after_all n m rows list) i j ≡ distance_reply n m rows i j
  unfolding distance_checks
  distance_reply_kept i j =
      by_box n m rows list (λ r. distance_reply n m r i j ≡ distance_reply n m rows i j)
      (λ b. ap₂ (λ (k : Result ⊤ Refusal) (p : Candidate). reply_after k (shown p)) (checks_kept b list _) (distance_kept b list i j)) refl
