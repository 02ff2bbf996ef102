-- What is shown of values, of a table and of a text is what is shown of the calls' answers and of what they left, line by line.
use Rattle.std.specs.Prelude.{Result, ⊤}
use Rattle.refusals.specs.declared.Refusal.{Refusal}
use Rattle.std.proofs.Common.{◌≡◌, ℕ, suc, ◌+◌, ◌-◌, ◌<◌, min, Bool, true, false, List, [], ◌∷◌, ◌++◌, eqb, length, take, drop, ℤ, ◌^◌, refl, sym, ap, ◌∙◌, subst, arith, drop-cons, append-nil}
use lib.Seq.{drop-drop}
use Rattle.std.specs.List.{flat_map}
use Rattle.boolean.specs.Functions.{at, value_at, spectrum, inverse}
use Rattle.boolean.specs.Sums.{list_below}
use Rattle.refusals.specs.Table.{first, reply_after, table_call_checks, said_written}
use Rattle.lines.specs.Lines.{refused_text, shown_reply}
use Rattle.lines.proofs.Texts.{shown_wrote}
use Rattle.walsh.specs.Calls.{inverse_checks, InverseCalled, SpectrumCalled}
use Rattle.spectra.specs.Reading.{line_length, line_end}
use Rattle.spectra.specs.Printed.{table_text, function_shown, spectrum_shown, table_shown, line_shown, begun_with, lines_of, lines_shown}

pub function_is : (n : ℕ) (values : List ℤ) (lent left : List ℕ) (answer : Result ⊤ Refusal) → length lent ≡ min (length values) 256
    → InverseCalled n values lent answer left → shown_reply (λ _ table. table_text table) refused_text (said_written answer) left ≡ function_shown n values
unfolding function_shown
function_is n values lent left answer e w =
    shown_wrote (λ _ table. table_text table) refused_text w
    ∙ ap (λ (room : ℕ). shown_reply (λ _ table. table_text table) refused_text (reply_after (first (inverse_checks n values room)) [])
    (list_below (2 ^ n) (λ x. inverse n (value_at values) x))) e

pub table_is : (n : ℕ) (table : List ℕ) (lent left : List ℤ) (answer : Result ⊤ Refusal) → length lent ≡ min (length table) 256
    → SpectrumCalled n table lent answer left → shown_reply (λ _ values. spectrum_shown n values) refused_text (said_written answer) left ≡ table_shown n table
unfolding table_shown
table_is n table lent left answer e w =
    shown_wrote (λ _ values. spectrum_shown n values) refused_text w
    ∙ ap (λ (room : ℕ). shown_reply (λ _ values. spectrum_shown n values) refused_text (reply_after (first (table_call_checks n table room)) [])
    (spectrum n (at table))) e

-- The first line of a text with a byte is up to its line end, and then come the lines behind it.
Parted : (text : List ℕ) → Type 0
Parted text = lines_of text ≡ take (line_length text) text ∷ lines_of (drop (suc (line_length text)) text)

parted_one : (byte : ℕ) (t : Bool)
    → (elim t [ true ↦ [] ∷ lines_of [] | false ↦ begun_with byte (lines_of []) ])
    ≡ take (elim t [ true ↦ 0 | false ↦ suc (line_length []) ]) (byte ∷ [])
    ∷ lines_of (drop (suc (elim t [ true ↦ 0 | false ↦ suc (line_length []) ])) (byte ∷ []))
unfolding lines_of line_length
parted_one byte true = refl
parted_one byte false = refl

parted_more : (byte : ℕ) (text : List ℕ) (t : Bool) → Parted text
    → (elim t [ true ↦ [] ∷ lines_of text | false ↦ begun_with byte (lines_of text) ])
    ≡ take (elim t [ true ↦ 0 | false ↦ suc (line_length text) ]) (byte ∷ text)
    ∷ lines_of (drop (suc (elim t [ true ↦ 0 | false ↦ suc (line_length text) ])) (byte ∷ text))
unfolding Parted
parted_more byte text true e = refl
parted_more byte text false e = ap (begun_with byte) e

parted : (byte : ℕ) (text : List ℕ) → Parted (byte ∷ text)
unfolding Parted lines_of line_length
parted byte [] = parted_one byte (eqb byte 10)
parted byte (next ∷ text) = parted_more byte (next ∷ text) (eqb byte 10) (parted next text)

pub line_then : (text : List ℕ) (from : ℕ) → from < length text
    → lines_shown (drop from text) ≡ line_shown (take (line_end text from - from) (drop from text)) ++ lines_shown (drop (line_end text from + 1) text)
unfolding Parted lines_shown line_end
line_then text from inside =
    let rest = drop from text in
    let long = line_length rest in
    let first : Parted rest = subst Parted (sym (drop-cons text from 0 inside)) (parted (at text from) (drop (suc from) text)) in
    let end : long ≡ (from + long) - from = omega arith in
    let next : drop (suc long) rest ≡ drop ((from + long) + 1) text = drop-drop (suc long) from text ∙ ap (λ (j : ℕ). drop j text) (omega arith) in
    ap (flat_map line_shown) first
    ∙ ap (λ (j : ℕ). line_shown (take j rest) ++ flat_map line_shown (lines_of (drop (suc long) rest))) end
    ∙ ap (λ (l : List ℕ). line_shown (take ((from + long) - from) rest) ++ flat_map line_shown (lines_of l)) next

pub no_lines : (done : List ℕ) → done ++ lines_shown [] ≡ done
unfolding lines_shown lines_of
no_lines done = append-nil done
