use Rattle.std.proofs.Common.{[], ◌∷◌, refl, rules}
use Rattle.boolean.proofs.Stored.{stored_more}
use Rattle.texts.specs.Text.{line}
use Rattle.texts.proofs.Spacing.{line_written, line_room}
use Rattle.texts.proofs.put_line.Goals as goal

pub bounds-out-end : goal.bounds-out-end
bounds-out-end c =
    let first = c.put_bytes-after_word.ensures in
    line_room c.args.word.now c.args.figures.now (line_written c.args.word.now c.args.figures.now first.0 first.1 c.put_figures-end.ensures.0 c.put_figures-end.ensures.1) c.requires

pub overflow_add-result : goal.overflow_add-result
overflow_add-result c =
    let first = c.put_bytes-after_word.ensures in
    let h = line_room c.args.word.now c.args.figures.now (line_written c.args.word.now c.args.figures.now first.0 first.1 c.put_figures-end.ensures.0 c.put_figures-end.ensures.1) c.requires in
    search rules

pub returns : goal.returns
unfolding line
returns c =
    let first = c.put_bytes-after_word.ensures in
    let all = stored_more (line_written c.args.word.now c.args.figures.now first.0 first.1 c.put_figures-end.ensures.0 c.put_figures-end.ensures.1) (10 ∷ []) refl refl in
    (all.place, all.stored)
