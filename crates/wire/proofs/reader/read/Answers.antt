use Rattle.std.proofs.Common.{◌≡◌, Err, sym, ◌∙◌, rules}
use Rattle.wire.proofs.Accepted.{judged_by, fault_kept, fault_none}
use Rattle.wire.proofs.Writing.{read_is_written}
use Rattle.wire.proofs.reader.read.Goals as goal

pub returns-in_err-fits-clause-read_is_written : goal.returns-in_err-fits-clause-read_is_written
returns-in_err-fits-clause-read_is_written c = read_is_written

pub returns-in_err-try_from-clause-read_is_written :
    goal.returns-in_err-try_from-clause-read_is_written
returns-in_err-try_from-clause-read_is_written c = read_is_written

pub returns-in_err-check_form-clause-value : goal.returns-in_err-check_form-clause-value
returns-in_err-check_form-clause-value c =
    let cs = c.unwrap-record.result.now in
    let same : cs ≡ c.args.record.now = search rules in
    let judged = judged_by c.args.size c.args.record.now cs _ same (search rules) c.message_at-message.ensures.body c.message_at-message.ensures.fields in
    let is : c.from_residual-in_err-check_form.result ≡ Err c.in_err-check_form.field-0.0 = search rules in
    is ∙ sym (judged ∙ fault_kept _ _ _ (sym c.check_form.ensures ∙ c.in_err-check_form.was))

pub returns-in_err-check_form-clause-read_is_written :
    goal.returns-in_err-check_form-clause-read_is_written
returns-in_err-check_form-clause-read_is_written c = read_is_written

pub returns-clause-value : goal.returns-clause-value
returns-clause-value c =
    let cs = c.unwrap-record.result.now in
    let same : cs ≡ c.args.record.now = search rules in
    let judged = judged_by c.args.size c.args.record.now cs _ same (search rules) c.message_at-message.ensures.body c.message_at-message.ensures.fields in
    sym (judged ∙ fault_none _ _ (sym c.check_form.ensures ∙ c.in_ok-check_form.was))

pub returns-clause-read_is_written : goal.returns-clause-read_is_written
returns-clause-read_is_written c = read_is_written
