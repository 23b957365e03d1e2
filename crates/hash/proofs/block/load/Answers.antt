use Rattle.std.proofs.Common.{◌≡◌, ◌+◌, ◌*◌, [], ◌∷◌, ◌++◌, get_or, take, drop, sym, ap, ◌∙◌, arith}
use Rattle.std.proofs.lemmas.List.{take_more_set, length-set}
use Rattle.hash.specs.Bytes.{number_at}
use Rattle.hash.specs.Compression.{words}
use Rattle.hash.proofs.Chunks.{get_or-chunks, number_at-part}
use Rattle.hash.proofs.Steps.{words_none, words_more}
use Rattle.hash.proofs.block.load.Goals as goal

pub loop-i-init : goal.loop-i-init
loop-i-init c = (c.told-ws, sym (words_none _))

pub loop-i-preserved : goal.loop-i-preserved
loop-i-preserved c =
    let i = c.loop-i.i in
    let ws = c.loop-i.ws in
    let bs = c.args.block.now in
    let four = get_or c.as_chunks.result.0.now i [] in
    let v = c.from_be_bytes.result in
    let part : four ≡ take 4 (drop (4 * i) bs) =
    ap (λ l. get_or l i []) c.as_chunks.ensures.front ∙ get_or-chunks 4 _ bs [] i (omega (arith, c.loop-i-test.true, c.as_chunks.ensures.front_len))
    in
    let at : 4 * i + 0 ≡ 4 * i = omega arith in
    let first : v ≡ number_at 4 four 0 = omega (arith, c.from_be_bytes.ensures) in
    let w : v ≡ number_at 4 bs (4 * i) = first ∙ ap (λ l. number_at 4 l 0) part ∙ number_at-part 4 bs 4 (4 * i) 0 (omega arith) ∙ ap (number_at 4 bs) at in
    let e : words bs (i + 1) ≡ take i ws ++ v ∷ [] = words_more bs i ∙ rw (sym c.loop-i.invariant.1, sym w) in
    (length-set ws i v ∙ c.loop-i.invariant.0, take_more_set ws i v (omega arith) ∙ sym e)
