use Rattle.std.proofs.Common.{◌≡◌, ◌-◌, ◌/◌, ◌^◌, ◌≤◌, sym, ap, ◌∙◌, arith, subst, refl, ℕ, List}
use mathlib.Core.List.{Memᴰ}
use Rattle.linear.specs.Lent.{PartSwept}
use Rattle.masks.specs.Parts.{components_between}
use Rattle.masks.proofs.Parts.{mem_between}
use Rattle.rounds.specs.Round.{Summand, inputs_of, outputs_of}
use Rattle.rounds.specs.Work.{summed, Round, found_candidate}
use Rattle.rounds.specs.Spectra.{largest_product}
use Rattle.rounds.specs.declared.Found.{Found}
use Rattle.rounds.proofs.Entry.{inputs_few, round_inputs}
use Rattle.rounds.proofs.Ranges.{first_between}
use Rattle.rounds.proofs.Slices.{inputs_summed}
use Rattle.rounds.proofs.Terms.{Chosen, chosen, size_within, answer_is}
use Rattle.rounds.proofs.least_between.Goals as goal

-- the component that the sweep found
found_of : (ss : List Summand) (cs : List ℕ) {i first last : ℕ} {found : Found} → Round ss → PartSwept (outputs_of ss) i first last
    → cs ≡ components_between (outputs_of ss) i first last → found_candidate found ≡ largest_product ss cs → Chosen ss cs found
found_of ss cs {i} {first} {last} {found} r p n e = chosen ss (round_inputs ss r) cs first (subst (Memᴰ first) (sym n) (first_between p)) found e

pub witness_at-b-requires : goal.witness_at-b-requires
witness_at-b-requires c =
    let a = c.args in
    let found = found_of _ _ c.requires.0 c.requires.2 refl c.largest_product-found.ensures in
    let m = (mem_between (outputs_of (summed a.boxes.now)) a.i a.first a.last c.largest_product-found.result.c found.member).0 in
    (c.requires.0, omega arith, omega arith)

pub all_inputs-requires : goal.all_inputs-requires
all_inputs-requires c =
    let r = c.requires.0 in
    omega (arith, inputs_few (summed c.args.boxes.now) r.boxed, r.few, inputs_summed c.args.boxes.now)

pub figure_of-requires : goal.figure_of-requires
figure_of-requires c =
    let ss = summed c.args.boxes.now in
    let r = c.requires.0 in
    let some = round_inputs ss r in
    let total : c.all_inputs.result ≡ inputs_of ss = c.all_inputs.ensures ∙ inputs_summed c.args.boxes.now in
    let found = found_of _ _ r c.requires.2 refl c.largest_product-found.ensures in
    (omega arith, omega (arith, inputs_few ss r.boxed, r.few), subst (λ (k : ℕ). c.largest_product-found.result.size ≤ 2 ^ k) (sym total) (size_within found some))

pub returns : goal.returns
returns c =
    let ss = summed c.args.boxes.now in
    let r = c.requires.0 in
    let total : c.all_inputs.result ≡ inputs_of ss = c.all_inputs.ensures ∙ inputs_summed c.args.boxes.now in
    let found = found_of _ _ r c.requires.2 refl c.largest_product-found.ensures in
    let witness = c.witness_at-b.ensures in
    let figure = c.figure_of.ensures ∙ ap (λ (k : ℕ). 2 ^ (k - 1) - c.largest_product-found.result.size / 2) total in
    record { is = answer_is found (round_inputs ss r) figure witness; four = witness.four; past = witness.past }
