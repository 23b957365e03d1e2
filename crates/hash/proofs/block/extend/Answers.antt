use Rattle.std.proofs.Common.{◌≡◌, ◌+◌, ◌-◌, [], ◌∷◌, ◌++◌, take, sym, ap, ◌∙◌, arith}
use Rattle.std.proofs.lemmas.List.{take_more_set, length-set}
use Rattle.hash.specs.Compression.{schedule, next_word}
use Rattle.hash.proofs.Steps.{schedule_more, next_take}
use Rattle.hash.proofs.block.extend.Goals as goal

pub loop-i-preserved : goal.loop-i-preserved
unfolding next_word
loop-i-preserved c =
    let i = c.loop-i.i in
    let ws = c.loop-i.ws in
    let v = next_word ws i in
    let far : (i + 1) - 16 ≡ (i - 16) + 1 = omega arith in
    let back : 16 + (i - 16) ≡ i = omega arith in (
      length-set ws i _ ∙ c.loop-i.invariant.0,
      λ first before.
          let e : schedule first ((i + 1) - 16) ≡ take i ws ++ v ∷ [] =
          ap (schedule first) far ∙ schedule_more first (i - 16) ∙ (rw (sym (c.loop-i.invariant.1 first before), back, next_take ws i (omega arith)))
          in
          simp c.word_from.ensures (take_more_set ws i v (omega arith) ∙ sym e),
    )
