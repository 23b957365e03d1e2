use Rattle.std.proofs.Common.{◌≡◌, ◌+◌, ◌*◌, drop}
use Rattle.wire.specs.Forms.{pairs_fault}
use Rattle.wire.proofs.reader.check_pairs.Given as goal

abbrev pub invariant-loop-i : goal.invariant-loop-i
invariant-loop-i l = pairs_fault l.size (12 + 5 * l.i) l.least (drop l.i l.pairs) ≡ pairs_fault l.size 12 0 l.pairs
