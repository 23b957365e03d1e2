use Rattle.std.proofs.Common.{◌≡◌, ◌+◌, ◌-◌, ◌*◌, length, take, sym, ap, ◌∙◌, arith}
use Rattle.std.proofs.lemmas.List.{length-take-le}
use Rattle.hash.specs.Compression.{rounds, schedule}
use Rattle.hash.proofs.Steps.{rounds_none, schedule_none, stands_so_far}
use Rattle.hash.proofs.block.all_rounds.Goals as goal

pub loop-j-init : goal.loop-j-init
loop-j-init c = (c.told-ws, sym (schedule_none _), sym (rounds_none _ _))

pub loop-j-preserved : goal.loop-j-preserved
loop-j-preserved c =
    let j = c.loop-j.j in
    let ws = c.loop-j.ws in
    let first = take 16 c.args.ws.now in
    let all = schedule first 48 in
    let short : length first ≡ 16 = length-take-le 16 c.args.ws.now (omega (arith, c.told-ws)) in
    let n : 8 * j + 8 ≡ 8 * (j + 1) = omega arith in
    let at : 8 * j + 16 ≡ 16 + 8 * j = omega arith in
    let before : (8 * j + 16) - 16 ≡ 8 * j = omega arith in
    let after : (8 * j + 16) - 8 ≡ 8 * (j + 1) = omega arith in
    let end : 16 + 8 * (j + 1) ≡ (8 * j + 16) + 8 = omega arith in
    let same : take (8 * j + 8) ws ≡ take (8 * j + 8) all = stands_so_far ws first (8 * j) (8 * j + 8) short (omega arith) (omega arith) c.loop-j.invariant.1 in
    let stood : take (8 * j + 16) ws ≡ schedule first ((8 * j + 16) - 16) = ap (λ k. take k ws) at ∙ c.loop-j.invariant.1 ∙ ap (schedule first) (sym before) in (
      c.extend.array_long,
      ap (λ k. take k c.extend.new.ws) end ∙ c.extend.ensures first stood ∙ ap (schedule first) after,
      c.eight_rounds-s.ensures all c.args.start same c.loop-j.invariant.2 ∙ ap (rounds all c.args.start) n,
    )
