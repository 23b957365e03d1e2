use Rattle.std.proofs.Common.{[], take, arith}
use Rattle.std.proofs.lemmas.List.{flat_map_more, take_all, take_more}
use Rattle.hash.specs.Constants.{initial}
use Rattle.std.specs.List.{flat_map}
use Rattle.service.specs.Seats.{no_product, product_at, entry, seats_digest}
use Rattle.service.proofs.seats.SeatBookService.digest.Goals as goal

pub loop-p-preserved : goal.loop-p-preserved
loop-p-preserved c =
    let book = c.args.self.now.products in
    let i = c.loop-p.p-index in
    let before = flat_map entry (take i book) in
    let took = c.update.ensures initial 0 before c.loop-p.invariant in
    rw (take_more book i no_product (omega arith), ← flat_map_more entry [] (take i book) (product_at book i), ← c.entry.ensures) took

pub returns : goal.returns
unfolding seats_digest
returns c = rw (← take_all c.loop-p.p-index c.args.self.now.products (omega arith)) (c.finish.ensures _ c.loop-p.invariant)
