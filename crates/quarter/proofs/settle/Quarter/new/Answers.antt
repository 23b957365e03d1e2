use Rattle.quarter.proofs.Requests.{book_of_requests}
use Rattle.quarter.proofs.settle.Quarter.new.Goals as goal

pub returns-clause-book_of_requests : goal.returns-clause-book_of_requests
returns-clause-book_of_requests c = book_of_requests
