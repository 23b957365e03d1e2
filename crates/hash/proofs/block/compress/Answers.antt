use Rattle.hash.specs.Compression.{compressed}
use Rattle.hash.proofs.block.compress.Goals as goal

pub returns : goal.returns
unfolding compressed
returns c = cc
