use Rattle.std.specs.Prelude.{ℕ, List}
use Rattle.wire.specs.Messages.{digest_at}
use Rattle.wire.specs.declared.message.Body.TheVariants.{Checkpoint}
use Rattle.wire.specs.declared.message.Message.{Message}

-- A quarter's digest as the checkpoint of the first position that one can have.
abbrev pub sealed_message : List ℕ → Message
sealed_message digest = record { sender = 0; count = 1; body = Checkpoint (record { position = 16; digest = digest_at digest 0 }) }
