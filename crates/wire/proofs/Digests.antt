-- A digest is kept whole both ways.
use Rattle.std.proofs.Common.{◌++◌, sym, refl, ap, ◌∙◌, arith}
use Rattle.std.proofs.lemmas.List.{append-nil, drop_all}
use Rattle.wire.specs.Laws.{DigestIsKept}
use Rattle.wire.specs.Messages.{digest_bytes, digest_at}
use Rattle.wire.proofs.Reading.{digest_read}
use Rattle.wire.proofs.Writing.{digest_there}

pub digest_is_kept : DigestIsKept
digest_is_kept = (
  digest_read,
  λ bs fit long. sym (append-nil (digest_bytes (digest_at bs 0))) ∙ ap (λ l. digest_bytes (digest_at bs 0) ++ l) (sym (drop_all 32 bs (omega arith)))
      ∙ digest_there bs fit 0 32 refl (omega arith),
)
