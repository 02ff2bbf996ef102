-- What is shown of an addition and of a file is what is shown of the calls' answers and of the rows that they left.
use Rattle.std.specs.Prelude.{Result, ⊤}
use Rattle.refusals.specs.declared.Refusal.{Refusal}
use Rattle.refusals.specs.declared.BoxWidths.{BoxWidths}
use lib.Seq.{drop-drop}
use borrow.Author.Tests.{le-leb, lt-leb}
use Rattle.std.proofs.Common.{◌≡◌, ℕ, zero, suc, ◌+◌, ◌-◌, ◌*◌, ◌<◌, ◌≤◌, min, cond, List, [], ◌∷◌, ◌++◌, length, take, drop, length-drop, refl, sym, ap, ◌∙◌, arith}
use Rattle.boolean.specs.Functions.{at}
use Rattle.refusals.specs.Table.{first, reply_after, said_written}
use Rattle.lines.specs.Lines.{refused_text, shown_reply}
use Rattle.lines.proofs.Texts.{shown_wrote}
use Rattle.columns.specs.Addition.{addition_checks, added_rows, AdditionCalled}
use Rattle.boxfile.specs.File.{room_of, file_checks, file_rows, said_box_file, ReadCalled}
use Rattle.published.specs.Printed.{addition_shown, box_shown, box_file_shown, file_end, boxes_shown}

pub addition_is : (of_rows : List ℕ → List ℕ) (of_refusal : ℕ → List ℕ) (n m : ℕ) (rows : List ℕ) (j w b : ℕ) (lent left : List ℕ) (answer : Result ⊤ Refusal)
    → length lent ≡ min (length rows) 256 → AdditionCalled n m rows j w b lent answer left
    → shown_reply (λ _ rows. of_rows rows) of_refusal (said_written answer) left ≡ addition_shown of_rows of_refusal n m rows j w b
addition_is of_rows of_refusal n m rows j w b lent left answer e called =
    shown_wrote (λ _ rows. of_rows rows) of_refusal called
    ∙ ap (λ (room : ℕ). shown_reply (λ _ rows. of_rows rows) of_refusal (reply_after (first (addition_checks n m rows j w b room)) []) (added_rows j w b rows)) e

pub file_is : (file : List ℕ) (room : ℕ) (lent left : List ℕ) (answer : Result BoxWidths Refusal) → length lent ≡ room → ReadCalled file lent answer left
    → shown_reply (λ widths rows. box_shown (at widths 0) (at widths 1) rows) refused_text (said_box_file answer) left ≡ box_file_shown file room
unfolding box_file_shown
file_is file room lent left answer e called =
    shown_wrote (λ widths rows. box_shown (at widths 0) (at widths 1) rows) refused_text called
    ∙ ap (λ (r : ℕ). shown_reply (λ widths rows. box_shown (at widths 0) (at widths 1) rows) refused_text
    (reply_after (first (file_checks file r)) (at file 0 ∷ at file 1 ∷ [])) (file_rows file (at file 0))) e

-- Where two bytes are left there is a file, and then come the files behind it.
boxes_next : (most : ℕ) (bytes : List ℕ) → 2 ≤ length bytes → length bytes ≤ most
    → boxes_shown most bytes ≡ box_file_shown (take (file_end bytes) bytes) (room_of bytes) ++ boxes_shown (most - 1) (drop (file_end bytes) bytes)
unfolding boxes_shown
boxes_next zero bytes two fits = absurd (omega arith)
boxes_next (suc k) bytes two fits =
    let less : k ≡ suc k - 1 = omega arith in
    rw (le-leb 2 (length bytes) two, cond)
    (ap (λ (j : ℕ). box_file_shown (take (file_end bytes) bytes) (room_of bytes) ++ boxes_shown j (drop (file_end bytes) bytes)) less)

pub no_boxes : (most : ℕ) (bytes : List ℕ) → length bytes < 2 → boxes_shown most bytes ≡ []
unfolding boxes_shown
no_boxes zero bytes few = refl
no_boxes (suc k) bytes few = rw (lt-leb 2 (length bytes) few, cond)

pub file_then : (bytes : List ℕ) (from size stop most : ℕ) → size ≡ room_of (drop from bytes) → stop ≡ min (4 * size) (length bytes - (from + 2))
    → from + 2 ≤ length bytes → length bytes - from ≤ most
    → boxes_shown most (drop from bytes)
    ≡ box_file_shown (take (from + 2 + stop - from) (drop from bytes)) size ++ boxes_shown (most - 1) (drop (from + 2 + stop) bytes)
unfolding file_end
file_then bytes from size stop most s e inside fits =
    let rest = drop from bytes in
    let long : length rest ≡ length bytes - from = length-drop from bytes in
    let left : length bytes - (from + 2) ≡ length rest - 2 = omega (arith, long) in
    let end : file_end rest ≡ 2 + stop =
    ap (λ (k : ℕ). 2 + k)
    (ap (λ (r : ℕ). min (4 * r) (length rest - 2)) (sym s) ∙ ap (λ (k : ℕ). min (4 * size) k) (sym left) ∙ sym e) in
    let part : 2 + stop ≡ from + 2 + stop - from = omega arith in
    let next : drop (2 + stop) rest ≡ drop (from + 2 + stop) bytes =
    drop-drop (2 + stop) from bytes ∙ ap (λ (k : ℕ). drop k bytes) (omega arith) in
    boxes_next most rest (omega (arith, long)) (omega (arith, long))
    ∙ ap (λ (k : ℕ). box_file_shown (take k rest) (room_of rest) ++ boxes_shown (most - 1) (drop k rest)) end
    ∙ ap (λ (r : ℕ). box_file_shown (take (2 + stop) rest) r ++ boxes_shown (most - 1) (drop (2 + stop) rest)) (sym s)
    ∙ ap (λ (k : ℕ). box_file_shown (take k rest) size ++ boxes_shown (most - 1) (drop (2 + stop) rest)) part
    ∙ ap (λ (l : List ℕ). box_file_shown (take (from + 2 + stop - from) rest) size ++ boxes_shown (most - 1) l) next
