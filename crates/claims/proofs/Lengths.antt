-- The check of a catalogue of zeros, by its length: too many bytes to compute.
use Prim.Native.Nat.{ℕ, ◌≤◌, ◌<◌}
use mathlib.Core.Path.{◌≡◌, refl, sym, ap, ◌∙◌}
use mathlib.Core.Bool.{Bool, true, false}
use mathlib.Core.Logic.{◌⊎◌, inl, inr}
use mathlib.Core.List.{List, [], ◌∷◌}
use native.Mathlib.Omega.{arith}
use lib.ListN.{length, replicate, length-replicate}
use Rattle.refusals.specs.Table.{figures, refusal, first, reply_after, ◌unless◌}
use Rattle.refusals.specs.declared.Refusal.TheVariants.{Catalogue}
use Rattle.catalogue.specs.Format.{count, valid}
use Rattle.catalogue.specs.Calls.{catalogue_checks, check_reply}
use Rattle.catalogue.proofs.Built.{valid_says, length_records}
use Rattle.catalogue.proofs.Theorems.{zeros_empty}

-- what the check replies, where it finds a catalogue and where it does not
checked : (b : List ℕ) (k : ℕ) → valid b ≡ true → count b ≡ k → check_reply b ≡ figures (k ∷ [])
unfolding catalogue_checks first
checked b k v c =
    ap (λ (t : Bool). reply_after (first ((Catalogue unless t) ∷ [])) (count b ∷ [])) v ∙ ap (λ (n : ℕ). figures (n ∷ [])) c

unchecked : (b : List ℕ) → valid b ≡ false → check_reply b ≡ refusal 13
unfolding catalogue_checks first
unchecked b v = ap (λ (t : Bool). reply_after (first ((Catalogue unless t) ∷ [])) (count b ∷ [])) v

pub zeros_taken : (size : ℕ) → 258 ≤ size → size ≤ 65535 → check_reply (replicate size 0) ≡ figures (0 ∷ [])
zeros_taken size low high =
    let empty = zeros_empty size low high in
    checked (replicate size 0) 0 empty.whole (sym (length_records (replicate size 0)) ∙ ap length empty.holds)

no_catalogue : (b : List ℕ) (t : Bool) → valid b ≡ t → (length b < 258) ⊎ (65535 < length b) → valid b ≡ false
no_catalogue b false e h = e
no_catalogue b true e (inl h) = absurd (omega (arith, (valid_says b e).low))
no_catalogue b true e (inr h) = absurd (omega (arith, (valid_says b e).high))

pub zeros_too_few : (size : ℕ) → size < 258 → check_reply (replicate size 0) ≡ refusal 13
zeros_too_few size h =
    unchecked (replicate size 0) (no_catalogue (replicate size 0) _ refl (inl (omega (arith, length-replicate {A = ℕ} size 0))))

pub zeros_too_many : (size : ℕ) → 65535 < size → check_reply (replicate size 0) ≡ refusal 13
zeros_too_many size h =
    unchecked (replicate size 0) (no_catalogue (replicate size 0) _ refl (inr (omega (arith, length-replicate {A = ℕ} size 0))))
