use Rattle.hash.proofs.Tags.{tags_as_key}
use Rattle.hash.proofs.mac.MacKey.tag.Goals as goal

pub returns-clause-tags_as_key : goal.returns-clause-tags_as_key
returns-clause-tags_as_key c = tags_as_key
