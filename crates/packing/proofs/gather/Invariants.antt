use Prim.Native.Nat.{◌*◌, ◌^◌}
use mathlib.Core.Path.{◌≡◌}
use Rattle.packing.specs.Work.{word_of, eight}
use Rattle.packing.proofs.Gathering.{upper}
use Rattle.packing.proofs.gather.Given as goal

-- the word has the bits of the last k entries
abbrev pub invariant-loop-k : goal.invariant-loop-k
invariant-loop-k l = l.word ≡ 2 ^ l.i * word_of (λ j. upper (eight l.values l.start l.step) j l.k) l.i
