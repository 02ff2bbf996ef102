-- A part of a list that is written at once. Assumes nothing.
use mathlib.Core.Path.{◌≡◌, sym, ap, ◌∙◌}
use mathlib.Core.List.{List, ◌++◌, append_assoc}
use Prim.Native.Nat.{ℕ, ◌+◌, ◌≤◌}
use native.Mathlib.Omega.{arith}
use borrow.Rule.Slice.PartMut.{put_mid}
use lib.ListN.{length, take, drop}
use lib.Seq.{sets, sets-eq, drop-drop}

-- as many elements as the part has stand in it, and the others stay
pub written_part : {A : Type 0} (a k : ℕ) (xs ys : List A) → length ys ≡ k → a + k ≤ length xs → put_mid a k xs ys ≡ sets xs a ys
written_part a k xs ys e h =
    ap (λ (l : List _). take a xs ++ (ys ++ l)) (drop-drop k a xs ∙ ap (λ (j : ℕ). drop (a + j) xs) (sym e))
    ∙ sym (sets-eq ys xs a (omega arith) ∙ append_assoc (take a xs) ys (drop (a + length ys) xs))
