-- A loop that writes figures, each after a space: those before the index stand in the buffer. Assumes nothing.
use mathlib.Core.Path.{◌≡◌, refl, sym, ap, ◌∙◌}
use mathlib.Core.List.{List, [], ◌∷◌, ◌++◌, append-nil}
use Prim.Native.Nat.{ℕ, ◌+◌, ◌*◌, ◌≤◌, ◌<◌, zero-le}
use native.Mathlib.Numerals.{add-one}
use native.Mathlib.Omega.{arith}
use lib.ListN.{length, get_or, take, drop, length-append}
use lib.Seq.{sets, take-suc, take_all, length-take-le}
use borrow.Rule.Slice.PartMut.{put_mid}
use Rattle.std.proofs.Common.{append_assoc}
use Rattle.std.proofs.lemmas.List.Edits.{sets-eq, paste_all}
use Rattle.std.proofs.lemmas.Slice.{put_mid-paste}
use Rattle.boolean.specs.Sums.{each}
use Rattle.boolean.proofs.Lists.{each_append}
use Rattle.boolean.proofs.Stored.{Stored, stored_none, stored_more, stored_length}
use Rattle.texts.specs.Text.{spaced, spaced_figure}
use Rattle.texts.proofs.Lengths.{spaced_few}

spaced_next : (figures : List ℕ) (i : ℕ) → i < length figures → spaced (take (i + 1) figures) ≡ spaced (take i figures) ++ spaced_figure (get_or figures i 0)
unfolding spaced each
spaced_next figures i h =
    let one : take (i + 1) figures ≡ take i figures ++ (get_or figures i 0 ∷ []) = rw (add-one, take-suc figures i 0) in
    ap spaced one ∙ each_append (take i figures) (get_or figures i 0 ∷ []) spaced_figure
    ∙ ap (λ (l : List ℕ). spaced (take i figures) ++ l) (append-nil (spaced_figure (get_or figures i 0)))

pub record Spacing (figures : List ℕ) (start : ℕ) (old : List ℕ) (i next : ℕ) (out : List ℕ) : Type 0 where
  pub within : i ≤ length figures
  pub stored : Stored start old (spaced (take i figures)) next out

module _ {figures : List ℕ} {start : ℕ} {old : List ℕ} where
  pub spacing_none : Spacing figures start old 0 start old
  unfolding spaced each
  spacing_none = record { within = zero-le; stored = stored_none start old }

  module _ {i next : ℕ} {out : List ℕ} (t : Spacing figures start old i next out) where
    pub spacing_room : i < length figures → start + 11 * length figures ≤ length old → next + 11 ≤ length out
    spacing_room l h =
        omega (arith, t.stored.place, stored_length t.stored, spaced_few (take i figures), length-take-le i figures t.within)

    pub spacing_next : {after : ℕ} {out' : List ℕ} → i < length figures → after ≡ next + length (spaced_figure (get_or figures i 0))
        → out' ≡ sets out next (spaced_figure (get_or figures i 0)) → Spacing figures start old (i + 1) after out'
    spacing_next l p q = record {
      within = omega arith;
      stored = rw (spaced_next figures i l) (stored_more t.stored (spaced_figure (get_or figures i 0)) p q);
    }

    pub spacing_all : length figures ≤ i → (next ≡ start + length (spaced figures)) × (out ≡ sets old start (spaced figures))
    spacing_all l =
        let all : spaced (take i figures) ≡ spaced figures = ap spaced (take_all i figures l) in
        (t.stored.place ∙ ap (λ (s : List ℕ). start + length s) all, t.stored.stored ∙ ap (sets old start) all)

-- bytes that replace as many in the middle of the buffer
pub put_sets : (out bytes : List ℕ) (at : ℕ) {k : ℕ} {ys : List ℕ} → ys ≡ bytes → length bytes ≡ k → at + length bytes ≤ length out
    → put_mid at k out ys ≡ sets out at bytes
put_sets out bytes at {k} {ys} is long h =
    put_mid-paste at k out ys bytes (length bytes) is long refl ∙ paste_all out at bytes (length bytes) refl
    ∙ sym (sets-eq bytes out at h ∙ append_assoc (take at out) bytes (drop (at + length bytes) out))

-- the word and the figures of a line, where both have been written
pub line_written : (word figures : List ℕ) {at after end : ℕ} {out first second : List ℕ} → after ≡ at + length word → first ≡ sets out at word
    → end ≡ after + length (spaced figures) → second ≡ sets first after (spaced figures) → Stored at out (word ++ spaced figures) end second
line_written word figures {at = at} {out = out} p q r s = stored_more (stored_more (stored_none at out) word p q) (spaced figures) r s

-- one place is left for the line's end
pub line_room : (word figures : List ℕ) {at end : ℕ} {out second : List ℕ} → Stored at out (word ++ spaced figures) end second
    → at + length word + 11 * length figures + 1 ≤ length out → end < length second
line_room word figures t h =
    omega (arith, t.place, stored_length t, length-append word (spaced figures), spaced_few figures)
