use Rattle.wire.proofs.Digests.{digest_is_kept}
use Rattle.wire.proofs.message.HashBytesFromRefDigest.from.Goals as goal

pub returns-clause-digest_is_kept : goal.returns-clause-digest_is_kept
returns-clause-digest_is_kept c = digest_is_kept
