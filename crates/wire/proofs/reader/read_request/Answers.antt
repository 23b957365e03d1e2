use Rattle.wire.proofs.Requests.{read_request_is_written}
use Rattle.wire.proofs.reader.read_request.Goals as goal

pub returns-in_err-fits-clause-read_request_is_written :
    goal.returns-in_err-fits-clause-read_request_is_written
returns-in_err-fits-clause-read_request_is_written c = read_request_is_written

pub returns-in_err-check_request-clause-read_request_is_written :
    goal.returns-in_err-check_request-clause-read_request_is_written
returns-in_err-check_request-clause-read_request_is_written c = read_request_is_written

pub returns-clause-read_request_is_written : goal.returns-clause-read_request_is_written
returns-clause-read_request_is_written c = read_request_is_written
