use Rattle.std.proofs.Common.{◌≡◌, [], get_or, sym, ap, ◌∙◌, arith}
use Rattle.hash.specs.Compression.{compressed}
use Rattle.hash.specs.Digest.{block}
use Rattle.hash.proofs.Blocks.{after_more}
use Rattle.hash.proofs.Chunks.{get_or-chunks}
use Rattle.hash.proofs.sha.absorb.Goals as goal

pub loop-block-preserved : goal.loop-block-preserved
loop-block-preserved c =
    let k = c.loop-block.block-index in
    let bs = c.args.bytes.now in
    let part : get_or c.as_chunks.result.0.now k [] ≡ block bs k =
    ap (λ l. get_or l k []) c.as_chunks.ensures.front ∙ get_or-chunks 64 _ bs [] k (omega (arith, c.loop-block-test.true, c.as_chunks.ensures.front_len))
    in
    c.compress-s.ensures ∙ ap (compressed c.loop-block.s) part ∙ ap (λ s. compressed s (block bs k)) c.loop-block.invariant ∙ sym (after_more c.args.start bs k)
