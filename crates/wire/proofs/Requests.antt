-- The same of requests.
use Rattle.std.proofs.Common.{◌≡◌, eqb, ◌++◌, length, sym, refl, ap, ◌∙◌, subst, arith, eqb-true}
use Rattle.std.proofs.lemmas.List.{append-nil, drop_all}
use Rattle.wire.specs.Forms.{request_fault, unless_fault}
use Rattle.wire.specs.Laws.{RightRequest, ReadRequestIsWritten}
use Rattle.wire.specs.Messages.{request_bytes, request_at}
use Rattle.wire.proofs.Accepted.{unless_good, cond_good}
use Rattle.wire.proofs.Writing.{request_there, request_fits}

pub read_request_is_written : ReadRequestIsWritten
read_request_is_written bs x fit h =
    let c = cond_good (eqb (length bs) 16) (unless_fault (request_fault 0 (request_at bs 0)) (request_at bs 0)) _ x h in
    let long : length bs ≡ 16 = eqb-true _ _ c.0 in
    let u = unless_good (request_fault 0 (request_at bs 0)) (request_at bs 0) x c.1 in
    let bytes : request_bytes (request_at bs 0) ≡ bs =
    sym (append-nil (request_bytes (request_at bs 0))) ∙ ap (λ l. request_bytes (request_at bs 0) ++ l) (sym (drop_all 16 bs (omega arith))) ∙ request_there bs fit 0 16 refl (omega arith) in
    let form : RightRequest (request_at bs 0) = record { fields = u.0; fits = request_fits bs fit 0 16 refl (omega arith) } in
    subst (λ k. (request_bytes k ≡ bs) × RightRequest k) u.1 (bytes, form)
