use Rattle.std.proofs.Common.{◌≡◌, ℕ, ◌+◌, List, length, take}
use Rattle.hash.specs.declared.block.Words.{Words}
use Rattle.hash.specs.Compression.{rounds}
use Rattle.hash.proofs.block.Words.eight_rounds.Given as goal

abbrev pub invariant-loop-k : goal.invariant-loop-k
invariant-loop-k l =
    (all : List ℕ) (start : Words) → take (l.i + 8) l.ws ≡ take (l.i + 8) all → l.initial.s ≡ rounds all start l.i → l.s ≡ rounds all start (l.i + length l.yielded)
