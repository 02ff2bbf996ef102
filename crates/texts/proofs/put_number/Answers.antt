use Rattle.std.proofs.Common.{ℕ, List, length, take, ◌≡◌, ◌+◌, ◌^◌, ◌<◌, ap, ◌∙◌, arith, rules}
use Rattle.std.proofs.lemmas.List.Edits.{sets}
use Rattle.texts.specs.Text.{numeral}
use Rattle.texts.proofs.Decimal.{few, numeral_is}
use Rattle.texts.proofs.put_number.Goals as goal

pub put_bytes-requires : goal.put_bytes-requires
put_bytes-requires c =
    let a = c.args in
    let value : a.value < 2 ^ 32 = search rules in
    omega (arith, c.decimal-k.ensures.in_bounds, few a.value c.decimal-k.result c.decimal-k.ensures.len value)

pub returns : goal.returns
returns c =
    let a = c.args in
    let k = c.decimal-k.result in
    let value : a.value < 2 ^ 32 = search rules in
    let same : take k c.decimal-k.new.out ≡ numeral a.value = c.decimal-k.ensures.digits ∙ numeral_is a.value k c.decimal-k.ensures.len value in
    (c.put_bytes.ensures.0 ∙ ap (λ (l : List ℕ). a.at + length l) same, c.put_bytes.ensures.1 ∙ ap (sets a.out.now a.at) same)
