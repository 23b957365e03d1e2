use Rattle.std.proofs.Common.{◌&&◌, ap, ◌∙◌}
use Rattle.hash.specs.Hmac.{tag_under}
use Rattle.hash.proofs.Tags.{tags_as_key}
use Rattle.device.specs.Keys.{same_bytes, may_pass}
use Rattle.device.proofs.group.MacKeyKeys.hashed.Goals as goal

pub returns-clause-tagging : goal.returns-clause-tagging
returns-clause-tagging c size bs = ap (λ k. tag_under k bs) c.new.ensures ∙ tags_as_key c.args.shared.now bs

pub returns-clause-passing : goal.returns-clause-passing
returns-clause-passing c size owner bs t =
    ap (λ d. may_pass size owner 32 bs t && same_bytes t d) (ap (λ k. tag_under k bs) c.new.ensures ∙ tags_as_key c.args.shared.now bs)
