-- One more file follows those before, and where fewer than two bytes are left there is none.
use Rattle.std.proofs.Common.{◌≡◌, ℕ, List, [], length, drop, take, ◌++◌, ◌+◌, ◌-◌, ◌<◌, refl, sym, ap, ◌∙◌, subst, arith, append_assoc, append-nil, length-drop}
use Rattle.std.specs.Io.KnownBytes.{Appends}
use Rattle.std.proofs.KnownBytes.{Appends-nil, Appends-trans}
use Rattle.boolean.proofs.Lists.{upper_part}
use Rattle.boxfile.specs.File.{room_of}
use Rattle.published.specs.Printed.{box_file_shown, boxes_shown}
use Rattle.published.proofs.Printed.{file_then, no_boxes}
use Rattle.published.proofs.show_boxes.Goals as goal

pub loop-from-init : goal.loop-from-init
loop-from-init g c = (omega arith, [], Appends-nil _, length c.args.bytes.now, omega arith, refl)

pub loop-from-preserved : goal.loop-from-preserved
loop-from-preserved g c =
    let bytes = c.args.bytes.now in
    let from = c.loop-from.from in
    let done = c.loop-from.invariant.1 in
    let most = c.loop-from.invariant.3 in
    let file = box_file_shown (take (from + 2 + c.smaller.result - from) (drop from bytes)) c.room_of-size.result in
    let rest = boxes_shown (most - 1) (drop (from + 2 + c.smaller.result) bytes) in
    let parted : boxes_shown most (drop from bytes) ≡ file ++ rest =
    file_then bytes from c.room_of-size.result c.smaller.result most
    (c.room_of-size.ensures.0 ∙ ap room_of (upper_part from bytes)) c.smaller.ensures.0 (omega arith) c.loop-from.invariant.4 in (
      omega arith,
      done ++ file,
      Appends-trans _ _ _ _ _ c.loop-from.invariant.2 c.in_ok-show_file.ensures,
      most - 1,
      omega arith,
      c.loop-from.invariant.5 ∙ ap (λ (l : List ℕ). done ++ l) parted ∙ sym (append_assoc done file rest),
    )

pub returns : goal.returns
returns g c =
    let bytes = c.args.bytes.now in
    let done = c.loop-from.invariant.1 in
    let few : length (drop c.loop-from.from bytes) < 2 = omega (arith, length-drop c.loop-from.from bytes) in
    let none = no_boxes c.loop-from.invariant.3 (drop c.loop-from.from bytes) few in
    subst (Appends _ _) (sym (c.loop-from.invariant.5 ∙ ap (λ (l : List ℕ). done ++ l) none ∙ append-nil done)) c.loop-from.invariant.2
