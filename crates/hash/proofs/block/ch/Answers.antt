use Rattle.std.proofs.Common.{arith}
use Rattle.hash.proofs.Bitwise.{choice}
use Rattle.hash.proofs.block.ch.Goals as goal

pub returns : goal.returns
returns c = choice 32 c.args.x c.args.y c.args.z (omega arith) (omega arith)
