use Rattle.std.proofs.Common.{◌≡◌, ◌+◌, ◌&&◌, [], ◌∷◌, ◌++◌, eqb, get_or, length, take, sym, ap, ◌∙◌, arith}
use Rattle.std.proofs.lemmas.List.{length_push}
use Rattle.std.proofs.lemmas.Slice.Zip.{zip_turn}
use lib.Bits.{bit_or, bit_xor}
use Rattle.device.specs.Keys.{same_bytes}
use Rattle.device.proofs.Same.{differ_more, same_more}
use Rattle.device.proofs.compare.same.Goals as goal

pub loop-byte-preserved : goal.loop-byte-preserved
loop-byte-preserved c =
    let n = length c.loop-byte.yielded in
    let xs = c.args.part.now in
    let ys = c.args.wanted.now in
    let s = c.into_iter-byte-iterator in
    let first : s.result.a.rest.now ≡ xs = ap (λ z. z.a.rest.now) s.ensures.into_iter_gives ∙ ap (λ a. a.rest.now) c.zip-byte-items.ensures.first ∙ c.iter.ensures.rest in
    let second : s.result.b.rest.now ≡ ys = ap (λ z. z.b.rest.now) s.ensures.into_iter_gives ∙ c.zip-byte-items.ensures.second.0 in
    let turn =
    zip_turn _ _ c.loop-byte.yielded s.result c.loop-byte.byte-iterator c.next.new.self c.next.result first second c.loop-byte.yielded_by (c.in-Some.byte, c.in-Some.good) c.in-Some.is c.next.ensures.steps
    in
    let more : n + 1 ≡ length (c.loop-byte.yielded ++ (c.in-Some.byte, c.in-Some.good) ∷ []) = omega (arith, length_push c.loop-byte.yielded (c.in-Some.byte, c.in-Some.good)) in
    ap (λ x. eqb (bit_or c.loop-byte.differ (bit_xor x c.in-Some.good.now)) 0) (turn.2 0) ∙ ap (λ y. eqb (bit_or c.loop-byte.differ (bit_xor (get_or xs n 0) y)) 0) (turn.3 0)
    ∙ differ_more c.loop-byte.differ (get_or xs n 0) (get_or ys n 0) ∙ ap (λ b. b && eqb (get_or xs n 0) (get_or ys n 0)) c.loop-byte.invariant ∙ sym (same_more xs ys n turn.0 turn.1)
    ∙ ap (λ k. same_bytes (take k xs) (take k ys)) more
