use Rattle.std.proofs.Common.{◌≡◌}
use Rattle.hash.specs.Digest.{after_blocks}
use Rattle.hash.proofs.sha.absorb.Given as goal

abbrev pub invariant-loop-block : goal.invariant-loop-block
invariant-loop-block l = l.s ≡ after_blocks l.initial.s l.bytes l.block-index
