use Rattle.std.proofs.Common.{rules}
use Rattle.texts.proofs.Spacing.{put_sets}
use Rattle.texts.proofs.put_bytes.Goals as goal

pub returns : goal.returns
returns c = search (rules, put_sets)
