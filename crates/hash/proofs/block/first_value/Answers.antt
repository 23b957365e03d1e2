use Rattle.std.proofs.Common.{refl}
use Rattle.hash.specs.Constants.{initial, fraction, root}
use Rattle.hash.proofs.block.first_value.Goals as goal

pub returns : goal.returns
unfolding initial fraction root
returns c = refl
