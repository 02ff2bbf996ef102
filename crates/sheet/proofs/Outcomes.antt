-- What comes of a line, from what its call replied. Assumes nothing.
use Prim.Native.Nat.{ℕ, ◌≤◌, ◌<◌}
use Prim.Native.String.{String}
use mathlib.Core.Path.{◌≡◌, sym, ap, ◌∙◌}
use mathlib.Core.List.{List, [], ◌∷◌, ◌++◌, append_assoc, append-nil}
use borrow.Author.Tests.{le-leb, lt-leb, eq-eqb, ne_eqb}
use Rattle.boolean.specs.Sums.{each}
use Rattle.refusals.specs.Table.{Reply, figures, refusal}
use Rattle.texts.specs.Text.{bytes, spaced, line}
use Rattle.sheet.specs.Sheet.{numbers, limited, decided, prints, stops, outcome_of, yes_or_no, sheet_limit, bic_line}
use Rattle.avalanche.specs.Calls.{distance_reply}

-- a line without figures is its word and the line's end
line_of_word : (word : List ℕ) → line word [] ≡ word ++ bytes "\n"
unfolding line spaced each
line_of_word word = rw append-nil

module _ (word : String) {reply : Reply} where
  pub numbers_refused : {k : ℕ} → reply ≡ refusal k → outcome_of (numbers word reply) ≡ stops
  unfolding outcome_of
  numbers_refused h = rw h

  pub numbers_shown : {given : List ℕ} → reply ≡ figures given → outcome_of (numbers word reply) ≡ prints (line (bytes word) given)
  unfolding outcome_of
  numbers_shown h = rw h

  pub decided_refused : {k : ℕ} → reply ≡ refusal k → outcome_of (decided word reply) ≡ stops
  unfolding outcome_of
  decided_refused h = rw h

  pub decided_shown : {given : List ℕ} → reply ≡ figures given → outcome_of (decided word reply) ≡ prints (line (bytes word ++ yes_or_no given) [])
  unfolding outcome_of
  decided_shown h = rw h

  pub decided_yes : reply ≡ figures (1 ∷ []) → outcome_of (decided word reply) ≡ prints (bytes word ++ bytes " yes\n")
  unfolding outcome_of yes_or_no
  decided_yes h = rw h (ap prints (line_of_word (bytes word ++ bytes " yes") ∙ append_assoc (bytes word) (bytes " yes") (bytes "\n")))

  pub decided_no : reply ≡ figures (0 ∷ []) → outcome_of (decided word reply) ≡ prints (bytes word ++ bytes " no\n")
  unfolding outcome_of yes_or_no
  decided_no h = rw h (ap prints (line_of_word (bytes word ++ bytes " no") ∙ append_assoc (bytes word) (bytes " no") (bytes "\n")))

-- a figure that was asked for within i, where i is the limit of the line
module _ (word : String) (ask : ℕ → Reply) {i limit : ℕ} (same : i ≡ limit) where
  pub limited_refused : {k : ℕ} → ask i ≡ refusal k → outcome_of (limited word (ask limit) limit) ≡ stops
  unfolding outcome_of
  limited_refused h = rw (← same, h)

  pub limited_shown : {given : List ℕ} → ask i ≡ figures given → outcome_of (limited word (ask limit) limit) ≡ prints (line (bytes word) (given ++ (i ∷ [])))
  unfolding outcome_of
  limited_shown h = rw (← same, h)

-- the limit on combinations, up to 16 outputs and above
pub limit_all : (m : ℕ) → m ≤ 16 → m ≡ sheet_limit m
unfolding sheet_limit
limit_all m h = sym (rw (le-leb m 16 h))

pub limit_four : (m : ℕ) → 16 < m → 4 ≡ sheet_limit m
unfolding sheet_limit
limit_four m h = sym (rw (lt-leb m 16 h))

-- the sixth line: with m = 1 there is no figure, and else it shows one
module _ (n m : ℕ) (rows : List ℕ) where
  pub bic_none : m ≡ 1 → outcome_of (bic_line n m rows) ≡ prints (bytes "bic none\n")
  unfolding outcome_of
  bic_none h = rw (eq-eqb m 1 h) (ap prints (line_of_word (bytes "bic none")))

  pub bic_shown : (m ≡ 1 → ⊥) → bic_line n m rows ≡ numbers "bic" (distance_reply n m rows 2 1)
  bic_shown h = rw (ne_eqb m 1 h)
