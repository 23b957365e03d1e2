use Rattle.std.specs.Prelude.{◌≡◌, ℕ, ◌^◌, ◌<◌, ◌≤◌, Bool, true, false, ◌&&◌, ◌⊎◌, List, [], ◌∷◌, length, ◌==◌, ◌≢◌, slice_index}
use Rattle.hash.specs.Bytes.{number_at}
use Rattle.wire.specs.Groups.{member}
use Rattle.wire.specs.Messages.{record_length}
use Rattle.device.specs.Makes.{stamped}

-- Whether two lists of bytes are the same.
abbrev pub same_bytes : List ℕ → List ℕ → Bool
same_bytes [] [] = true
same_bytes [] (y ∷ ys) = false
same_bytes (x ∷ xs) [] = false
same_bytes (x ∷ xs) (y ∷ ys) = x == y && same_bytes xs ys

-- The sender that a record names.
abbrev pub sender_of : List ℕ → ℕ
sender_of bs = slice_index bs 1

-- A pair can pass at a device only if the device's owner and the record's sender are members of the group and both lengths are right.
abbrev pub may_pass : ℕ → ℕ → ℕ → List ℕ → List ℕ → Bool
may_pass n owner width bs tag = member n owner && (length bs == record_length && (length tag == width && member n (sender_of bs)))

-- A stamped record names the device's owner and the count, and every other byte is as it was.
abbrev pub StampNames : Type 0
StampNames =
    (bs : List ℕ) (owner count : ℕ) → length bs ≡ record_length → count < 2 ^ 32
    → (length (stamped bs owner count) ≡ record_length) × (sender_of (stamped bs owner count) ≡ owner) × (number_at 4 (stamped bs owner count) 4 ≡ count)
    × ((i : ℕ) → (i ≢ 1) → (i < 4) ⊎ (8 ≤ i) → slice_index (stamped bs owner count) i ≡ slice_index bs i)
