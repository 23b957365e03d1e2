use Rattle.std.specs.Prelude.{ℕ, cond, ◌||◌, ◌==◌}
use Rattle.wire.specs.declared.refusal.Buffer.{Buffer}
use Rattle.wire.specs.declared.refusal.Buffer.TheVariants as buffers
use Rattle.wire.specs.declared.refusal.Layer.{Layer}
use Rattle.wire.specs.declared.refusal.Layer.TheVariants as layers
use Rattle.wire.specs.declared.refusal.Refusal.{Refusal}
use Rattle.wire.specs.declared.refusal.Refusal.TheVariants.{NotInGroup, WrongLength, BadForm, BadTag, CheckedElsewhere, OwnMessage, CountPassed, CountAhead, AgainstRule, NotHeld, TooFar, NotPrimary, DeviceSpent, NothingOwed, ViewTooLow, WrongSlip, NotBacked}

-- The lent buffers have fixed numbers, whatever buffers a call has.
abbrev pub buffer_number : Buffer → ℕ
buffer_number buffers.Request = 1
buffer_number buffers.Record = 2
buffer_number buffers.Tag = 3
buffer_number buffers.Key = 4

abbrev pub layer_number : Layer → ℕ
layer_number layers.Record = 1
layer_number layers.Device = 2
layer_number layers.Table = 3

-- What a refusal says: the number of the question that was answered with no, and its place.
pub record Said : Type 0 where
  pub number : ℕ
  pub place : ℕ

abbrev pub says : ℕ → ℕ → Said
says n p = record { number = n; place = p }

abbrev pub said : Refusal → Said
said (NotInGroup replica) = says 1 replica
said (WrongLength buffer) = says 2 (buffer_number buffer)
said (BadForm byte) = says 3 byte
said (BadTag count) = says 4 count
said (CheckedElsewhere replica) = says 5 replica
said (OwnMessage replica) = says 6 replica
said (CountPassed replica) = says 7 replica
said (CountAhead replica) = says 8 replica
said (AgainstRule replica) = says 9 replica
said (NotHeld replica) = says 10 replica
said (TooFar replica) = says 11 replica
said (NotPrimary replica) = says 12 replica
said (DeviceSpent made) = says 13 made
said (NothingOwed replica) = says 14 replica
said (ViewTooLow replica) = says 15 replica
said (WrongSlip replica) = says 16 replica
said (NotBacked replica) = says 17 replica

abbrev pub number_of : Refusal → ℕ
number_of r = (said r).number

abbrev pub place_of : Refusal → ℕ
place_of r = (said r).place

-- Questions 2 and 3 are asked of records, 4 and 13 of the device, and all others of the table.
abbrev pub layer_of : Refusal → Layer
layer_of r =
    cond (number_of r == 2 || number_of r == 3) layers.Record (cond (number_of r == 4 || number_of r == 13) layers.Device layers.Table)
