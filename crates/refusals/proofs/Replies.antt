-- What a reply of figures says: the call's checks accepted, and these are its figures.
use Rattle.refusals.specs.declared.Refusal.{Refusal}
use Rattle.std.specs.Prelude.{Result, Ok, Err, ⊤}
use Prim.Native.Nat.{ℕ}
use mathlib.Core.Path.{◌≡◌, refl, sym, ap, ◌∙◌}
use mathlib.Core.Logic.{◌↔◌}
use mathlib.Core.Bool.{Bool, true, false, true≢false}
use mathlib.Core.List.{List, [], ◌∷◌}
use native.Mathlib.Omega.{arith}
use Rattle.boolean.specs.Functions.{at}
use Rattle.refusals.specs.Table.{Reply, figures, refusal, reply_after, as_figure}

-- figures are no refusal
pub no_figures : {given : List ℕ} {k : ℕ} → figures given ≡ refusal k → ⊥
no_figures {given} {k} h = true≢false (ap is h)
  where
    is : Reply → Bool
    is (figures xs) = true
    is (refusal k) = false

-- a reply has one list of figures
pub same_figures : {reply : Reply} {xs ys : List ℕ} → reply ≡ figures xs → reply ≡ figures ys → xs ≡ ys
same_figures p q = ap the_figures (sym p ∙ q)
  where
    the_figures : Reply → List ℕ
    the_figures (figures xs) = xs
    the_figures (refusal k) = []

-- two lists that begin with a figure and are equal begin with the same one
pub head_same : {a b : ℕ} {v w : List ℕ} → (a ∷ v) ≡ (b ∷ w) → a ≡ b
head_same h = ap (λ (l : List ℕ). at l 0) h

-- so a reply has one first figure
pub same_figure : {reply : Reply} {d e : ℕ} {v w : List ℕ} → reply ≡ figures (d ∷ v) → reply ≡ figures (e ∷ w) → d ≡ e
same_figure p q = head_same (same_figures p q)

-- where a call replies figures its checks accepted, and they are those that it gives
pub figures_accepted : (k : Result ⊤ Refusal) (given : List ℕ) {shows : List ℕ} → reply_after k given ≡ figures shows
    → (k ≡ (Ok tt)) × (shows ≡ given)
figures_accepted (Ok tt) given h = (refl, sym (same_figures refl h))
figures_accepted (Err e) given h = absurd (no_figures (sym h))

-- the figure of a test is 1 exactly where it holds
pub figure_true : (t : Bool) {f : ℕ} → (f ∷ []) ≡ as_figure t → (f ≡ 1) ↔ (t ≡ true)
figure_true true h = (λ e. refl, λ e. head_same h)
figure_true false h = (λ e. absurd (omega (arith, e, head_same h)), λ e. absurd (true≢false (sym e)))
