-- What stands in a buffer after a read into its part behind the first bytes.
use Rattle.std.proofs.Common.{◌≡◌, ℕ, List, ◌++◌, ◌+◌, ◌≤◌, length, take, sym, ap, ◌∙◌}
use Rattle.std.proofs.Math.Seq.{take-append-add}
use Rattle.std.proofs.lemmas.List.{take-append-le, length-take-le}
use borrow.Rule.Slice.PartMut.{put_mid, post_of}

pub taken : (a k n : ℕ) (xs ys : List ℕ) → a ≤ length xs → n ≤ length ys → take (a + n) (put_mid a k xs ys) ≡ take a xs ++ take n ys
taken a k n xs ys before within =
    let front = take a xs in
    ap (λ (m : ℕ). take (m + n) (front ++ (ys ++ post_of a k xs))) (sym (length-take-le a xs before))
    ∙ take-append-add front (ys ++ post_of a k xs) n
    ∙ ap (λ (rest : List ℕ). front ++ rest) (take-append-le n ys (post_of a k xs) within)
