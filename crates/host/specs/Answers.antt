use Rattle.std.specs.Prelude.{ℕ, cond, List, length, Ok, Err, Result, ◌==◌}
use Rattle.device.specs.Groups.{group_passes}
use Rattle.device.specs.Makes.{with_lengths, checked}
use Rattle.wire.specs.Groups.{member}
use Rattle.wire.specs.Refusals.{layer_number, number_of, layer_of, place_of}
use Rattle.wire.specs.declared.message.Message.{Message}
use Rattle.wire.specs.declared.refusal.Buffer.TheVariants.{Key}
use Rattle.wire.specs.declared.refusal.Refusal.{Refusal}
use Rattle.wire.specs.declared.refusal.Refusal.TheVariants.{NotInGroup, WrongLength}
use Rattle.host.specs.declared.Answer.{Answer}

-- What the check gives at a group-key device of a size, owner and key.
abbrev pub group_check : ℕ → ℕ → List ℕ → List ℕ → List ℕ → Result Message Refusal
group_check n owner key bs tag = checked (group_passes n owner key) 32 n bs tag

-- A host asks first whether the owner is a member of the group. Then come the lengths, those of record and tag before
-- that of the key, and then what the device's check asks.
abbrev pub host_check : ℕ → ℕ → List ℕ → List ℕ → List ℕ → Result Message Refusal
host_check n owner key bs tag =
    cond (member n owner) (with_lengths 32 bs tag Err (cond (length key == 32) (group_check n owner key bs tag) (Err (WrongLength Key)))) (Err (NotInGroup owner))

-- The answer to a host: zeros where the check passed, else the refusal's number, layer and place.
abbrev pub answer_of : Result Message Refusal → Answer
answer_of (Ok m) = record { number = 0; layer = 0; place = 0 }
answer_of (Err r) = record { number = number_of r; layer = layer_number (layer_of r); place = place_of r }
