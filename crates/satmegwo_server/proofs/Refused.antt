-- A number that is not 0 says that nothing was changed: of every server, whoever made it, the server that comes out is the one that went
-- in, and the array lent for the figures is as it was. Assumes nothing.
use Prim.Native.Nat.{ℕ}
use mathlib.Core.Path.{◌≡◌, refl, ◌∙◌, subst}
use mathlib.Core.List.{List}
use lib.ListN.{length}
use Rattle.refusals.specs.Table.{Reply, figures, refusal}
use Rattle.server.specs.declared.Server.{Server}
use Rattle.server.specs.Calls.{ServerPut, ServerWithdrew}
use Rattle.server.proofs.Outcomes.{put_refused, withdrew_refused}
use Rattle.border.specs.Border.{status, lent, figures_after}
use Rattle.satmegwo_server.specs.declared.Outcome.{Outcome}
use Rattle.satmegwo_server.specs.Exports.{progress_reply, NumberedCall, ToldOut}

-- what is said is a refusal where its number is not 0
refused : {P : Type 0} (said : Reply) → (status said ≡ 0 → ⊥) → ((k : ℕ) → said ≡ refusal k → P) → P
unfolding status
refused (figures given) some then = absurd (some refl)
refused (refusal k) some then = then k refl

module _ {s : Server} {r : Outcome} (some : r.status ≡ 0 → ⊥) where
  pub put_unchanged : {place n m : ℕ} {rows : List ℕ} → NumberedCall (ServerPut s place n m rows) r → r.server ≡ s
  put_unchanged {place} {n} {m} {rows} t =
      refused t.said (λ e. some (t.number ∙ e)) (λ k e. put_refused (subst (λ (x : Reply). ServerPut s place n m rows x r.server) e t.outcome))

  pub withdraw_unchanged : {place : ℕ} → NumberedCall (ServerWithdrew s place) r → r.server ≡ s
  withdraw_unchanged {place} t =
      refused t.said (λ e. some (t.number ∙ e)) (λ k e. withdrew_refused (subst (λ (x : Reply). ServerWithdrew s place x r.server) e t.outcome))

pub ask_untouched : {s : Server} {place returned : ℕ} {old new : List ℕ} → ToldOut s place old returned new → (returned ≡ 0 → ⊥) → new ≡ old
unfolding status figures_after
ask_untouched {s} {place} {returned} {old} {new} t some = go (lent (progress_reply t.said) (length old)) t.out.number t.out.content
  where
    go : (reply : Reply) → returned ≡ status reply → new ≡ figures_after reply old → new ≡ old
    go (figures given) e c = absurd (some e)
    go (refusal k) e c = c
