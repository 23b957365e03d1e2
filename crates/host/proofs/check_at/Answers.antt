use Rattle.std.proofs.Common.{Err, ap, ◌∙◌}
use Rattle.device.specs.Makes.{with_lengths, vouched}
use Rattle.wire.specs.Forms.{parse}
use Rattle.host.proofs.check_at.Goals as goal

pub returns : goal.returns
returns c =
    let bs = c.args.record.now in
    let tag = c.args.tag.now in
    c.check_record.ensures ∙ ap (λ b. with_lengths 32 bs tag Err (vouched b (parse c.args.size bs))) (c.new-device.ensures.passing bs tag)
