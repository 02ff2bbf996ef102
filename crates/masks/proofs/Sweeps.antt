-- A sweep over the components within a limit, in ascending order, from a first mask on and below an end: the best candidate so far, by any comparison and
-- with any block of candidates for each component. Where the truth table of each component is made from that of the one before: what the arrays hold
-- besides. Assumes nothing.
use mathlib.Core.Path.{◌≡◌, sym, ap, ◌∙◌}
use mathlib.Core.Bool.{Bool}
use mathlib.Core.List.{List}
use Prim.Native.Nat.{ℕ, ◌-◌, ◌^◌, ◌≤◌, ◌<◌}
use native.Mathlib.Nat.{le_refl}
use native.Mathlib.Omega.{arith}
use lib.Count.{ones}
use lib.ListN.{length}
use lib.Pow.{pow_pos}
use Rattle.boolean.specs.Sums.{list_below, each}
use Rattle.boolean.specs.Functions.{component}
use Rattle.boolean.specs.Selection.{best}
use Rattle.boolean.proofs.Lists.{length_list_below}
use Rattle.boolean.proofs.OneBit.{ones_one}
use Rattle.refusals.specs.Table.{Box}
use Rattle.masks.specs.Statements.{masks_from, MaskRange}
use Rattle.masks.specs.Masks.{Next, PowerAdded}
use Rattle.masks.specs.Steps.{Steps, Stepping}
use Rattle.masks.proofs.Walk.{WalkFrom, walk_from, walk_next, raised_before, best_starts, best_next, best_ends}

-- all of them
pub whole : (m : ℕ) → MaskRange m 1 (2 ^ m)
whole m = record { low = le_refl 1; some = pow_pos m; high = le_refl (2 ^ m) }

-- ---- the loop stands at the mask c, with the best candidate of the masks before it
pub record ChoosingFrom {C : Type 0} (first end : ℕ) (beats : C → C → Bool) (block : ℕ → List C) (m i : ℕ) (start found : C) (c : ℕ) : Type 0 where
  pub part : MaskRange m first end
  pub walk : WalkFrom first m i c
  pub past : (x : ℕ) → end ≤ x → x < c → i < ones x
  pub so_far : found ≡ best beats start (each (masks_from i first c) block)

-- over all masks
abbrev pub Choosing : {C : Type 0} (beats : C → C → Bool) (block : ℕ → List C) (m i : ℕ) (start found : C) (c : ℕ) → Type 0
Choosing beats block m i start found c = ChoosingFrom 1 (2 ^ m) beats block m i start found c

module _ {C : Type 0} {first end : ℕ} {beats : C → C → Bool} {block : ℕ → List C} {m i : ℕ} {start : C} where
  pub choosing_from : MaskRange m first end → 1 ≤ i → ones first ≤ i → ChoosingFrom first end beats block m i start start first
  choosing_from part h few = record {
    part = part;
    walk = walk_from m h (omega (arith, part.some, part.high)) few;
    past = λ x l k. absurd (omega (arith, part.some));
    so_far = best_starts beats block start i first;
  }

  module _ {found : C} {c : ℕ} (t : ChoosingFrom first end beats block m i start found c) where
    pub choosing_next : {new : C} {next : ℕ} → c < end → Next i c next → new ≡ best beats found (block c) → ChoosingFrom first end beats block m i start new next
    choosing_next l after e = record {
      part = t.part;
      walk = walk_next t.walk after (omega (arith, t.part.high));
      past = λ x h k. after.between x (omega arith) k;
      so_far = best_next t.walk beats block start after t.so_far e;
    }

    pub choosing_ends : end ≤ c → found ≡ best beats start (each (masks_from i first end) block)
    choosing_ends h = best_ends t.walk beats block start t.part.some h t.past t.so_far

-- ---- and has the truth table of the component of the mask before c, and an array for values of it
pub record SweepingFrom {C A : Type 0} (first end : ℕ) (beats : C → C → Bool) (block : ℕ → List C) (n m : ℕ) (rows : List ℕ) (i : ℕ) (start found : C)
    (table : List ℕ) (values : List A) (last c : ℕ) : Type 0 where
  pub box : Box n m rows
  pub choosing : ChoosingFrom first end beats block m i start found c
  pub raised : PowerAdded last c
  pub table_is : table ≡ list_below (length rows) (λ x. component rows last x)
  pub values_size : length values ≡ 2 ^ n

abbrev pub Sweeping : {C A : Type 0} (beats : C → C → Bool) (block : ℕ → List C) (n m : ℕ) (rows : List ℕ) (i : ℕ) (start found : C) (table : List ℕ)
    (values : List A) (last c : ℕ) → Type 0
Sweeping beats block n m rows i start found table values last c = SweepingFrom 1 (2 ^ m) beats block n m rows i start found table values last c

module _ {C A : Type 0} {first end : ℕ} {beats : C → C → Bool} {block : ℕ → List C} {n m : ℕ} {rows : List ℕ} {i : ℕ} {start : C} where
  pub sweep_from : {table : List ℕ} {values : List A} → Box n m rows → MaskRange m first end → 1 ≤ i → ones first ≤ i
      → table ≡ list_below (length rows) (λ x. component rows (first - 1) x) → length values ≡ 2 ^ n
      → SweepingFrom first end beats block n m rows i start start table values (first - 1) first
  sweep_from b part limit few e room = record {
    box = b;
    choosing = choosing_from part limit few;
    raised = raised_before first part.low;
    table_is = e;
    values_size = room;
  }

  module _ {found : C} {table : List ℕ} {values : List A} {last c : ℕ} (t : SweepingFrom first end beats block n m rows i start found table values last c) where
    pub sweep_next : {new : C} {table' : List ℕ} {values' : List A} {next : ℕ}
        → c < end → Next i c next → PowerAdded c next → table' ≡ list_below (2 ^ n) (λ x. component rows c x) → length values' ≡ 2 ^ n
        → new ≡ best beats found (block c) → SweepingFrom first end beats block n m rows i start new table' values' c next
    sweep_next l after raised p room e = record {
      box = t.box;
      choosing = choosing_next t.choosing l after e;
      raised = raised;
      table_is = p ∙ ap (λ (k : ℕ). list_below k (λ x. component rows c x)) (sym t.box.size);
      values_size = room;
    }

    pub table_size : length table ≡ 2 ^ n
    table_size = ap length t.table_is ∙ length_list_below (length rows) (component rows last) ∙ t.box.size

    -- what the step to component c asks
    pub stepping : {steps : List ℕ} → Steps m rows steps → c < 2 ^ m → Stepping m rows steps last c table
    stepping tables l = record { tables = tables; raised = t.raised; c_high = l; table_is = t.table_is }

    -- what it ends with
    pub sweep_ends : end ≤ c → found ≡ best beats start (each (masks_from i first end) block)
    sweep_ends h = choosing_ends t.choosing h

-- ---- over all masks, from the component 0 on
pub choosing_starts : {C : Type 0} {beats : C → C → Bool} {block : ℕ → List C} {m i : ℕ} {start : C} → 1 ≤ i → Choosing beats block m i start start 1
choosing_starts {m = m} h = choosing_from (whole m) h (omega (arith, ones_one))

module _ {C A : Type 0} {beats : C → C → Bool} {block : ℕ → List C} {n m : ℕ} {rows : List ℕ} {i : ℕ} {start : C} where
  pub sweep_starts : {table : List ℕ} {values : List A} → Box n m rows → 1 ≤ i → table ≡ list_below (length rows) (λ x. component rows 0 x) → length values ≡ 2 ^ n
      → Sweeping beats block n m rows i start start table values 0 1
  sweep_starts b limit e room = sweep_from b (whole m) limit (omega (arith, ones_one)) e room
