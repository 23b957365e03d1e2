use Rattle.service.proofs.Members.{sets_stand}
use Rattle.service.proofs.Sold.{never_oversold, never_above_bought}
use Rattle.service.proofs.seats.SeatBook.new.Goals as goal

pub returns-clause-sets_stand : goal.returns-clause-sets_stand
returns-clause-sets_stand c = sets_stand

pub returns-clause-never_oversold : goal.returns-clause-never_oversold
returns-clause-never_oversold c = never_oversold

pub returns-clause-never_above_bought : goal.returns-clause-never_above_bought
returns-clause-never_above_bought c = never_above_bought
