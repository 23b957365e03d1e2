use Rattle.std.proofs.Common.{◌≡◌, length, take}
use Rattle.hash.specs.Compression.{words}
use Rattle.hash.proofs.block.load.Given as goal

abbrev pub invariant-loop-i : goal.invariant-loop-i
invariant-loop-i l = (length l.ws ≡ 64) × (take l.i l.ws ≡ words l.block l.i)
