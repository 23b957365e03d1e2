use Rattle.std.proofs.Common.{◌++◌, ap, ◌∙◌, arith}
use Rattle.hash.specs.Constants.{initial}
use Rattle.hash.specs.Digest.{padding, after_all, bytes_of, sha256}
use Rattle.hash.proofs.Taking.{took_all}
use Rattle.hash.proofs.sha.Hasher.finish.Goals as goal

pub returns : goal.returns
unfolding sha256
returns c m took =
    c.bytes_of.ensures ∙ ap bytes_of (c.last_value.ensures ∙ took_all initial 0 c.args.self m took)
    ∙ ap (λ n. bytes_of (after_all initial (m ++ padding n))) (omega arith)
