use Rattle.std.proofs.Common.{rules}
use Rattle.border.proofs.Giving.{gives_other, gives_all}
use Rattle.border.proofs.give.Goals as goal

pub returns-then-figures-found : goal.returns-then-figures-found
returns-then-figures-found c = gives_other c.number_of.ensures c.if-figures-found.true

pub returns : goal.returns
returns c = gives_all (search rules) c.copy_from_slice.ensures.after
