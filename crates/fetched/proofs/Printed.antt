-- What is shown of a file is what is shown of the answer of the call that reads it, and of the rows that the call left.
use Rattle.std.specs.Prelude.{Result}
use Rattle.std.proofs.Common.{◌≡◌, ℕ, List, [], ◌∷◌, length, ap, ◌∙◌}
use Rattle.boolean.specs.Functions.{at}
use Rattle.refusals.specs.declared.Refusal.{Refusal}
use Rattle.refusals.specs.declared.BoxWidths.{BoxWidths}
use Rattle.refusals.specs.Table.{first, reply_after}
use Rattle.lines.specs.Lines.{refused_text, shown_reply}
use Rattle.lines.proofs.Texts.{shown_wrote}
use Rattle.boxfile.specs.File.{room_of, file_checks, file_rows, said_box_file, ReadCalled}
use Rattle.fetched.specs.Printed.{box_line, file_shown}

pub file_is : (file lent left : List ℕ) (answer : Result BoxWidths Refusal) → length lent ≡ room_of file → ReadCalled file lent answer left
    → shown_reply box_line refused_text (said_box_file answer) left ≡ file_shown file
unfolding file_shown
file_is file lent left answer e w =
    shown_wrote box_line refused_text w
    ∙ ap (λ (room : ℕ). shown_reply box_line refused_text (reply_after (first (file_checks file room)) (at file 0 ∷ at file 1 ∷ [])) (file_rows file (at file 0))) e
