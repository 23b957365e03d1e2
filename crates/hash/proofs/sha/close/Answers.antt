use Rattle.std.proofs.Common.{refl, ap, ◌∙◌, arith}
use Rattle.hash.specs.Digest.{after_all}
use Rattle.hash.proofs.Paddings.{padding_laid}
use Rattle.hash.proofs.sha.close.Goals as goal

pub returns-then-tail-lt56 : goal.returns-then-tail-lt56
returns-then-tail-lt56 c =
    c.after_end.ensures ∙ ap (after_all c.args.state) (padding_laid c.args.len _ c.args.tail.now _ _ (omega arith) c.to_be_bytes-bits.ensures refl)

pub returns-else-tail-lt56 : goal.returns-else-tail-lt56
returns-else-tail-lt56 c =
    c.after_end-else-tail-lt56.ensures
    ∙ ap (after_all c.args.state) (padding_laid c.args.len _ c.args.tail.now _ _ (omega arith) c.to_be_bytes-bits.ensures refl)
