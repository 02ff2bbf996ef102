-- What an addition XORs to the rows of a box: its term where it is accepted, and else nothing. Whether it is accepted does not depend on
-- the
-- rows of the box, so the rows after a list are the rows XORed with the effects.
use Rattle.std.specs.Prelude.{Result, Ok, Err, ⊤}
use mathlib.Core.Path.{◌≡◌, refl, sym, ap, ◌∙◌}
use mathlib.Core.Bool.{cond}
use mathlib.Core.List.{List, [], ◌∷◌, ◌++◌}
use Prim.Native.Nat.{ℕ, ◌*◌, ◌-◌, ◌^◌, ◌<◌}
use native.Mathlib.Omega.{arith}
use borrow.Author.Tests.{eq-eqb, lt-ltb}
use lib.Bits.{bit_xor, xor_zero_r, xor_zero_l}
use lib.Dec.{ltb, eqb}
use lib.ListN.{length}
use lib.Seq.{ext_get_or}
use Rattle.boolean.specs.Bits.{affine}
use Rattle.boolean.specs.Functions.{at}
use Rattle.boolean.proofs.Xor.{xor_assoc}
use Rattle.refusals.specs.Table.{Box, Check, ◌unless◌, in_range, first, box_checks, after, is_accepted}
use Rattle.refusals.specs.declared.Refusal.{Refusal}
use Rattle.refusals.specs.declared.Refusal.TheVariants.{Parameter, WrittenLength}
use Rattle.refusals.proofs.Bounds.{range_true}
use Rattle.refusals.proofs.Checks.{accepted, box_accepted, first_append, first_refused}
use Rattle.columns.specs.Addition.{Addition, added_row, addition_checks, addition_checked, standing_rows, rows_after_all}
use Rattle.columns.proofs.Additions.{Fits, rows_with, row_added, standing_keeps_box}

-- ---- the checks beside those of the box
abbrev pub own_checks : ℕ → ℕ → Addition → List Check
own_checks n m a =
    (Parameter unless in_range 1 m a.column)
    ∷ (Parameter unless ltb a.mask (2 ^ n))
    ∷ (Parameter unless ltb a.constant 2)
    ∷ (WrittenLength unless eqb (length a.lent) (2 ^ n))
    ∷ []

-- what the checks find on any box
unfoldable pub own_checked : ℕ → ℕ → Addition → Result ⊤ Refusal
own_checked n m a = first (own_checks n m a)

pub checked_own : {n m : ℕ} {rows : List ℕ} → Box n m rows → (a : Addition) → addition_checked n m rows a ≡ own_checked n m a
unfolding addition_checked addition_checks own_checked
checked_own {n} {m} {rows} box a = first_append (box_checks n m rows) (own_checks n m a) (box_accepted n m rows box)

-- they accept what fits
pub own_accepted : {n m : ℕ} {a : Addition} → Fits n m a → own_checked n m a ≡ (Ok tt)
unfolding own_checked
own_accepted {n} {m} {a} t =
    accepted (own_checks n m a) (
      range_true 1 m a.column t.column_low t.column_high,
      (
        lt-ltb a.mask (2 ^ n) t.mask_high,
        (lt-ltb a.constant 2 t.constant_high, (eq-eqb (length a.lent) (2 ^ n) t.room, tt)),
      ),
    )

pub fits_accepted : {n m : ℕ} {rows : List ℕ} → Box n m rows → {a : Addition} → Fits n m a → addition_checked n m rows a ≡ (Ok tt)
fits_accepted box {a} t = checked_own box a ∙ own_accepted t

-- ---- what one addition XORs to the row at x: its affine function at its column
abbrev pub term : Addition → ℕ → ℕ
term a x = affine a.mask a.constant x * 2 ^ (a.column - 1)

-- and nothing where it is refused
unfoldable pub effect : ℕ → ℕ → Addition → ℕ → ℕ
effect n m a x = cond (is_accepted (own_checked n m a)) (term a x) 0

pub effect_fits : {n m : ℕ} {a : Addition} → Fits n m a → (x : ℕ) → effect n m a x ≡ term a x
unfolding effect
effect_fits {a = a} t x = ap (λ (k : Result ⊤ Refusal). cond (is_accepted k) (term a x) 0) (own_accepted t)

-- and of a list
unfoldable pub effects : ℕ → ℕ → List Addition → ℕ → ℕ
effects n m [] x = 0
effects n m (a ∷ list) x = bit_xor (effect n m a x) (effects n m list x)

pub effects_append : (n m : ℕ) (list other : List Addition) (x : ℕ)
    → effects n m (list ++ other) x ≡ bit_xor (effects n m list x) (effects n m other x)
unfolding effects
effects_append n m [] other x = sym (xor_zero_l (effects n m other x))
effects_append n m (a ∷ list) other x =
    ap (bit_xor (effect n m a x)) (effects_append n m list other x)
    ∙ sym (xor_assoc (effect n m a x) (effects n m list x) (effects n m other x))

-- ---- the rows that stand
pub row_standing : {n m : ℕ} {rows : List ℕ} → Box n m rows → (a : Addition) (x : ℕ) → x < 2 ^ n
    → at (standing_rows n m rows a) x ≡ bit_xor (at rows x) (effect n m a x)
unfolding standing_rows effect added_row
row_standing {n} {m} {rows} box a x l =
    ap (λ (k : Result ⊤ Refusal). at (after k (rows_with a rows) rows) x) (checked_own box a) ∙ go (own_checked n m a)
  where
    go : (k : Result ⊤ Refusal) → at (after k (rows_with a rows) rows) x ≡ bit_xor (at rows x) (cond (is_accepted k) (term a x) 0)
    go (Ok tt) = row_added a.column a.mask a.constant rows x (omega (arith, box.size))
    go (Err e) = sym (xor_zero_r (at rows x))

pub after_keeps_box : {n m : ℕ} (list : List Addition) {rows : List ℕ} → Box n m rows → Box n m (rows_after_all n m rows list)
unfolding rows_after_all
after_keeps_box [] box = box
after_keeps_box {n} {m} (a ∷ list) {rows} box = after_keeps_box list (standing_keeps_box n m rows box a)

pub row_after : {n m : ℕ} (list : List Addition) {rows : List ℕ} → Box n m rows → (x : ℕ) → x < 2 ^ n
    → at (rows_after_all n m rows list) x ≡ bit_xor (at rows x) (effects n m list x)
unfolding rows_after_all effects
row_after [] {rows} box x l = sym (xor_zero_r (at rows x))
row_after {n} {m} (a ∷ list) {rows} box x l =
    row_after list (standing_keeps_box n m rows box a) x l
    ∙ ap (λ (z : ℕ). bit_xor z (effects n m list x)) (row_standing box a x l)
    ∙ xor_assoc (at rows x) (effect n m a x) (effects n m list x)

-- on rows that are no box nothing is accepted
pub no_box_after : (n m : ℕ) (rows : List ℕ) (list : List Addition) {e : Refusal} → first (box_checks n m rows) ≡ Err e
    → rows_after_all n m rows list ≡ rows
unfolding rows_after_all standing_rows addition_checked addition_checks
no_box_after n m rows [] h = refl
no_box_after n m rows (a ∷ list) h =
    ap (λ (k : Result ⊤ Refusal). rows_after_all n m (after k (rows_with a rows) rows) list)
    (first_refused (box_checks n m rows) (own_checks n m a) h)
    ∙ no_box_after n m rows list h

-- lists of the same effects leave the same rows
pub same_effects : {n m : ℕ} {rows : List ℕ} → Box n m rows → (list other : List Addition)
    → ((x : ℕ) → x < 2 ^ n → effects n m list x ≡ effects n m other x)
    → rows_after_all n m rows list ≡ rows_after_all n m rows other
same_effects {n} {m} {rows} box list other h =
    let p = after_keeps_box list box in
    let q = after_keeps_box other box in
    ext_get_or 0 (rows_after_all n m rows list) (rows_after_all n m rows other) (p.size ∙ sym q.size) (λ x l.
    let k : x < 2 ^ n = omega (arith, p.size) in
    row_after list box x k ∙ ap (bit_xor (at rows x)) (h x k) ∙ sym (row_after other box x k))
