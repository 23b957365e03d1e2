use Rattle.std.proofs.Common.{◌≡◌, ap, ◌∙◌, arith, rules}
use Rattle.hash.specs.Bytes.{number_at}
use Rattle.wire.specs.Messages.{request_at}
use Rattle.wire.proofs.Parts.{request_part}
use Rattle.wire.proofs.reader.body_at.Goals as goal

pub returns-in-Prepare : goal.returns-in-Prepare
returns-in-Prepare c =
    let bs = c.args.record.now in
    let r : c.request_of.result ≡ request_at bs 12 = c.request_of.ensures ∙ ap (λ l. request_at l 0) c.bytes_at-in-Prepare.ensures.value ∙ request_part bs 12 in
    let v : c.from_be_bytes.result ≡ number_at 4 bs 8 = omega (arith, c.from_be_bytes.ensures, c.bytes_at.ensures.number) in
    search rules
