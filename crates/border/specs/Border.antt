-- What C is given in place of an answer: a number, and an array that is lent for the figures.
use Rattle.std.specs.Prelude.{Result, Ok, Err, ⊤, ℕ, true, false, List, [], eqb, length, ◌≡◌}
use Rattle.refusals.specs.declared.Refusal.{Refusal}
use Rattle.refusals.specs.Table.{Check, Reply, figures, refusal, number, first, reply_after, after}
use Rattle.refusals.specs.declared.Refusal.TheVariants.{WrittenLength}

-- what an exported function returns: 0, or the number of the refusal
unfoldable pub status : Reply → ℕ
status (figures given) = 0
status (refusal k) = k

-- A call whose figures go to a lent array: an array of another length than theirs is refused last, as the table has it.
unfoldable pub lent : (said : Reply) (room : ℕ) → Reply
lent (figures given) room = elim (eqb room (length given)) [ true ↦ figures given | false ↦ refusal (number WrittenLength) ]
lent (refusal k) room = refusal k

-- what the array lent for the figures holds afterwards: the figures, or what was there
unfoldable pub figures_after : (said : Reply) (old : List ℕ) → List ℕ
figures_after (figures given) old = given
figures_after (refusal k) old = old

-- The outcome of an exported call that writes its result to one lent array: the number, and what the array holds afterwards.
pub record WroteOut {A : Type 0} (checks : List Check) (result old : List A) (returned : ℕ) (new : List A) : Type 0 where
  pub number : returned ≡ status (reply_after (first checks) [])
  pub content : new ≡ after (first checks) result old

-- The outcome of an exported call whose figures go to one lent array.
pub record FiguresOut (reply : Reply) (old : List ℕ) (returned : ℕ) (new : List ℕ) : Type 0 where
  pub number : returned ≡ status (lent reply (length old))
  pub content : new ≡ figures_after (lent reply (length old)) old

-- what is returned where that array has another length, and the checks before it found this
abbrev pub room_number : Result ⊤ Refusal → ℕ
room_number (Ok tt) = number WrittenLength
room_number (Err e) = number e
