use Rattle.hash.specs.Compression.{round}
use Rattle.hash.proofs.block.Words.round.Goals as goal

pub returns : goal.returns
unfolding round
returns c = simp (c.big_sigma.ensures, c.ch.ensures, c.big_sigma-2.ensures, c.maj.ensures)
