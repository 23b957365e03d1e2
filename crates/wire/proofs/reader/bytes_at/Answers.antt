use Rattle.std.proofs.Common.{◌≡◌, ◌+◌, take, drop, ap, ◌∙◌, arith}
use Rattle.std.proofs.lemmas.List.{take_rest}
use Rattle.hash.specs.Bytes.{number_at}
use Rattle.hash.proofs.Chunks.{number_at-part}
use Rattle.wire.proofs.reader.bytes_at.Goals as goal

pub returns-clause-number : goal.returns-clause-number
returns-clause-number g c =
    let n = g.row.N in
    let bs = c.args.bytes.now in
    let at = c.args.at in
    let chunk = rw c.unwrap.ensures at c.first_chunk.ensures.cases in
    let part : c.unwrap.result.now ≡ take n (drop at bs) = chunk.same ∙ ap (take n) (take_rest bs at) in
    let here : at + 0 ≡ at = omega arith in
    ap (λ l. number_at n l 0) part ∙ number_at-part n bs n at 0 (omega arith) ∙ ap (number_at n bs) here
