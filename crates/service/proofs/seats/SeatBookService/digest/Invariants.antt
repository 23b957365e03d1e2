use Rattle.std.proofs.Common.{take}
use Rattle.std.specs.List.{flat_map}
use Rattle.hash.specs.Constants.{initial}
use Rattle.hash.specs.Taken.{Took}
use Rattle.service.specs.Seats.{entry}
use Rattle.service.proofs.seats.SeatBookService.digest.Given as goal

abbrev pub invariant-loop-p : goal.invariant-loop-p
invariant-loop-p l = Took initial 0 l.h (flat_map entry (take l.p-index l.self.products))
