use Rattle.std.specs.Prelude.{ℕ, Bool, cond, List, length, Some, None, Ok, Err, Option, Result, ◌==◌, slice_set}
use Rattle.hash.specs.Bytes.{big_endian}
use Rattle.wire.specs.Forms.{parse}
use Rattle.wire.specs.Messages.{record_length, overwritten}
use Rattle.wire.specs.declared.message.Message.{Message}
use Rattle.wire.specs.declared.refusal.Buffer.TheVariants.{Record, Tag}
use Rattle.wire.specs.declared.refusal.Refusal.{Refusal}
use Rattle.wire.specs.declared.refusal.Refusal.TheVariants.{WrongLength, BadTag, DeviceSpent}

-- Both buffers have their exact lengths, or the first that has not is refused; then follows the rest.
abbrev pub with_lengths : {X : Type 0} → ℕ → List ℕ → List ℕ → (Refusal → X) → X → X
with_lengths width bs tag refused rest =
    cond (length bs == record_length) (cond (length tag == width) rest (refused (WrongLength Tag))) (refused (WrongLength Record))

-- Why a device that has made so many of its counts, up to the last, makes no record in two buffers.
abbrev pub make_refusal : ℕ → ℕ → ℕ → List ℕ → List ℕ → Option Refusal
make_refusal made last width bs tag = with_lengths width bs tag Some (cond (made == last) (Some (DeviceSpent made)) None)

abbrev pub answered : Option Refusal → Result (Unit {0}) Refusal
answered None = Ok tt
answered (Some r) = Err r

-- What stands after a make: the new value, or the old one where it was refused.
abbrev pub if_made : {X : Type 0} → Option Refusal → X → X → X
if_made None new old = new
if_made (Some r) new old = old

-- Make writes the owner into byte 1 and the count into bytes 4 to 7 of a record.
abbrev pub stamped : List ℕ → ℕ → ℕ → List ℕ
stamped bs owner count = overwritten 4 (slice_set bs 1 owner) 4 (big_endian 4 count)

-- A record of the right form is refused at its count where the pair does not pass.
abbrev pub vouched : Bool → Result Message Refusal → Result Message Refusal
vouched good (Ok m) = cond good (Ok m) (Err (BadTag m.count))
vouched good (Err r) = Err r

-- What a check of a record and its tag gives in a group of n: its message, or the first refusal.
-- The questions are, in order: the lengths, the form, and whether the pair passes.
abbrev pub checked : (List ℕ → List ℕ → Bool) → ℕ → ℕ → List ℕ → List ℕ → Result Message Refusal
checked passes width n bs tag = with_lengths width bs tag Err (vouched (passes bs tag) (parse n bs))
