use Rattle.std.specs.Prelude.{ℕ, ◌+◌, List, [], ◌∷◌, ◌++◌, take, drop, replicate, Result, ◌==◌, slice_index}
use Rattle.hash.specs.Bytes.{big_endian, number_at}
use Rattle.std.specs.List.{find, flat_map}
use Rattle.std.specs.Option.{ok_or}
use Rattle.wire.specs.declared.message.Body.{Body}
use Rattle.wire.specs.declared.message.Body.TheVariants as kinds
use Rattle.wire.specs.declared.message.Digest.{Digest}
use Rattle.wire.specs.declared.message.Kind.{Kind}
use Rattle.wire.specs.declared.message.Kind.TheVariants as numbered
use Rattle.wire.specs.declared.message.Message.{Message}
use Rattle.wire.specs.declared.message.Pair.{Pair}
use Rattle.wire.specs.declared.message.Request.{Request}
use Rattle.wire.specs.declared.message.Vouch.{Vouch}
use Rattle.wire.specs.declared.refusal.Refusal.{Refusal}
use Rattle.wire.specs.declared.refusal.Refusal.TheVariants.{BadForm}

-- A request has 16 bytes and a record 48.
abbrev pub request_length : ℕ
request_length = 16

abbrev pub record_length : ℕ
record_length = 48

-- The kinds of message have numbers.
abbrev pub number_of_kind : Kind → ℕ
number_of_kind numbered.Prepare = 1
number_of_kind numbered.Commit = 2
number_of_kind numbered.Checkpoint = 3
number_of_kind numbered.ViewChange = 4
number_of_kind numbered.NewView = 5

-- The kind of a body, and its number.
abbrev pub kind_named : Body → Kind
kind_named (kinds.Prepare view request) = numbered.Prepare
kind_named (kinds.Commit vouch) = numbered.Commit
kind_named (kinds.Checkpoint checkpoint) = numbered.Checkpoint
kind_named (kinds.ViewChange view vouch) = numbered.ViewChange
kind_named (kinds.NewView view pairs) = numbered.NewView

abbrev pub kind_of : Body → ℕ
kind_of b = number_of_kind (kind_named b)

abbrev pub every_kind : List Kind
every_kind = numbered.Prepare ∷ (numbered.Commit ∷ (numbered.Checkpoint ∷ (numbered.ViewChange ∷ (numbered.NewView ∷ []))))

-- The kind that has a number; a number that none has is a fault at byte 0.
abbrev pub kind_of_number : ℕ → Result Kind Refusal
kind_of_number k = ok_or (find (λ kind. number_of_kind kind == k) every_kind) (BadForm 0)

-- Numbers are written with the highest byte first.
-- A request: the client in two bytes, its number in four, and the ten bytes of the command.
abbrev pub request_bytes : Request → List ℕ
request_bytes x = big_endian 2 x.client ++ (big_endian 4 x.number ++ x.command)

-- A digest: eight bytes for each of its numbers.
abbrev pub digest_bytes : Digest → List ℕ
digest_bytes d = big_endian 8 d.first ++ (big_endian 8 d.second ++ (big_endian 8 d.third ++ big_endian 8 d.fourth))

-- A vouch: the view and the length.
abbrev pub vouch_bytes : Vouch → List ℕ
vouch_bytes u = big_endian 4 u.view ++ big_endian 4 u.length

-- A pair: the replica in one byte and its count in four.
abbrev pub pair_bytes : Pair → List ℕ
pair_bytes p = p.replica ∷ big_endian 4 p.count

-- Bytes 8 to 47 of a record, by kind. Those that no field has are zero; of the four pairs of a NEW-VIEW, those that its
-- group does not use are zero where the message has the right form.
abbrev pub body_bytes : Body → List ℕ
body_bytes (kinds.Prepare view request) = big_endian 4 view ++ (request_bytes request ++ replicate 20 0)
body_bytes (kinds.Commit vouch) = vouch_bytes vouch ++ replicate 32 0
body_bytes (kinds.Checkpoint k) = big_endian 4 k.position ++ (digest_bytes k.digest ++ replicate 4 0)
body_bytes (kinds.ViewChange view vouch) = big_endian 4 view ++ (vouch_bytes vouch ++ replicate 28 0)
body_bytes (kinds.NewView view pairs) = big_endian 4 view ++ (flat_map pair_bytes pairs ++ replicate 16 0)

-- The 48 bytes of a message: its kind, its sender, two zeros, its count, and its body.
abbrev pub bytes_of : Message → List ℕ
bytes_of m = kind_of m.body ∷ (m.sender ∷ (0 ∷ (0 ∷ (big_endian 4 m.count ++ body_bytes m.body))))

-- What bytes say, whether or not they have the right form. A request that begins at a place.
abbrev pub request_at : List ℕ → ℕ → Request
request_at bs at = record { client = number_at 2 bs at; number = number_at 4 bs (at + 2); command = take 10 (drop (at + 6) bs) }

abbrev pub digest_at : List ℕ → ℕ → Digest
digest_at bs at =
    record {
      first = number_at 8 bs at;
      second = number_at 8 bs (at + 8);
      third = number_at 8 bs (at + 16);
      fourth = number_at 8 bs (at + 24);
    }

abbrev pub vouch_at : List ℕ → ℕ → Vouch
vouch_at bs at = record { view = number_at 4 bs at; length = number_at 4 bs (at + 4) }

abbrev pub pair_at : List ℕ → ℕ → Pair
pair_at bs at = record { replica = slice_index bs at; count = number_at 4 bs (at + 1) }

-- Bytes with others in place of the w that begin at a place.
abbrev pub overwritten : ℕ → List ℕ → ℕ → List ℕ → List ℕ
overwritten w bs at others = take at bs ++ (others ++ drop (at + w) bs)
