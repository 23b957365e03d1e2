use Rattle.wire.proofs.Reading.{written_is_read}
use Rattle.wire.proofs.writer.write.Goals as goal

pub returns-clause-written_is_read : goal.returns-clause-written_is_read
returns-clause-written_is_read c = written_is_read

pub returns-in_err-fits-clause-written_is_read : goal.returns-in_err-fits-clause-written_is_read
returns-in_err-fits-clause-written_is_read c = written_is_read
