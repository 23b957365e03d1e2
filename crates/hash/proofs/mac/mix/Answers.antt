use Rattle.std.proofs.Common.{ℕ, ◌++◌, map, get_or, take, ap, ◌∙◌, append-nil, arith}
use lib.Bits.{bit_xor}
use Rattle.std.proofs.lemmas.List.Edits.{map_over_more}
use Rattle.std.proofs.lemmas.List.{get_or_default, take_all, drop_all}
use Rattle.hash.proofs.mac.mix.Goals as goal

pub loop-byte-preserved : goal.loop-byte-preserved
loop-byte-preserved c =
    let i = c.loop-byte.byte-index in
    let out = c.loop-byte.byte-items in
    let x = get_or out i 0 in
    map_over_more (λ k. bit_xor k c.args.b) c.args.block.now out i x (omega arith) c.loop-byte.invariant (get_or_default out i 0 x (omega arith))

pub returns : goal.returns
returns c =
    let xs = c.args.block.now in
    let i = c.loop-byte.byte-index in
    let f : ℕ → ℕ = λ k. bit_xor k c.args.b in
    c.loop-byte.invariant ∙ ap (λ l. map f (take i xs) ++ l) (drop_all i xs (omega arith)) ∙ append-nil (map f (take i xs)) ∙ ap (map f) (take_all i xs (omega arith))
