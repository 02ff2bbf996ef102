-- What is shown of a call's outcome is what is shown of its reply and its result.
use Rattle.std.specs.Prelude.{⊤}
use Rattle.refusals.specs.declared.Refusal.{Refusal}
use Rattle.std.proofs.Common.{◌≡◌, ℕ, List, ◌++◌, ap, ◌∙◌, subst, OnOk, Result, Option, Ok, Err}
use Rattle.std.proofs.KnownBytes.{Appends-trans}
use Rattle.std.specs.Io.KnownBytes.{Appends}
use Rattle.refusals.specs.Table.{Check, first, Reply, reply_after, after, Wrote}
use Rattle.lines.specs.Lines.{shown_reply}

module _ {A : Type 0} (of_figures : List ℕ → List A → List ℕ) (of_refusal : ℕ → List ℕ) where
  shown_after : (k : Result ⊤ Refusal) (given : List ℕ) (result lent left : List A) (said : Reply) → said ≡ reply_after k given → left ≡ after k result lent
      → shown_reply of_figures of_refusal said left ≡ shown_reply of_figures of_refusal (reply_after k given) result
  shown_after (Ok tt) given result lent left said p q = ap (λ (s : Reply). shown_reply of_figures of_refusal s left) p ∙ ap (of_figures given) q
  shown_after (Err e) given result lent left said p q = ap (λ (s : Reply). shown_reply of_figures of_refusal s left) p

  pub shown_wrote : {checks : List Check} {given : List ℕ} {result lent left : List A} {said : Reply} → Wrote checks given result lent said left
      → shown_reply of_figures of_refusal said left ≡ shown_reply of_figures of_refusal (reply_after (first checks) given) result
  shown_wrote {checks} {given} {result} {lent} {left} {said} w = shown_after (first checks) given result lent left said w.reply w.content

-- What a writer holds after one text and then another, and a text under another name.
pub same_text : {A E : Type 0} (r : Result A E) (a b : Option (List ℕ)) (t u : List ℕ) → OnOk r (Appends a b t) → t ≡ u → OnOk r (Appends a b u)
same_text r a b t u p e = subst (λ (text : List ℕ). OnOk r (Appends a b text)) e p

pub then_text : {A E : Type 0} (r : Result A E) (a b c : Option (List ℕ)) (t u v : List ℕ) → Appends a b t → t ≡ u → OnOk r (Appends b c v)
    → OnOk r (Appends a c (u ++ v))
then_text (Ok x) a b c t u v p e q = Appends-trans a b c u v (subst (Appends a b) e p) q
then_text (Err x) a b c t u v p e q = q
