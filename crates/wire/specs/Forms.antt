use Rattle.std.specs.Prelude.{ℕ, ◌+◌, ◌*◌, ◌%◌, Bool, cond, ◌&&◌, List, [], ◌∷◌, length, take, drop, Some, None, Ok, Err, Option, Result, ◌==◌, nat_le, nat_lt, slice_index}
use Rattle.hash.specs.Bytes.{number_at}
use Rattle.wire.specs.Groups.{member, quorum_of}
use Rattle.wire.specs.Messages.{request_length, record_length, request_at, digest_at, vouch_at, pair_at}
use Rattle.wire.specs.declared.message.Body.{Body}
use Rattle.wire.specs.declared.message.Body.TheVariants as kinds
use Rattle.wire.specs.declared.message.Message.{Message}
use Rattle.wire.specs.declared.message.Pair.{Pair}
use Rattle.wire.specs.declared.message.Request.{Request}
use Rattle.wire.specs.declared.refusal.Buffer.{Buffer}
use Rattle.wire.specs.declared.refusal.Buffer.TheVariants as buffers
use Rattle.wire.specs.declared.refusal.Refusal.{Refusal}
use Rattle.wire.specs.declared.refusal.Refusal.TheVariants.{WrongLength, BadForm}

-- Fields are judged in the order of their bytes. Where the field that begins at a place is bad, that place is
-- the fault; where it is good, the fault is that of the rest.
abbrev pub field : ℕ → Bool → Option ℕ → Option ℕ
field place good rest = cond good rest (Some place)

abbrev pub or_else : Option ℕ → Option ℕ → Option ℕ
or_else (Some place) rest = Some place
or_else None rest = rest

-- A client is 0 to 63, and a request's number is from 1.
abbrev pub request_fault : ℕ → Request → Option ℕ
request_fault at x = field at (nat_lt x.client 64) (field (at + 2) (nat_lt 0 x.number) None)

-- The replica of a pair is a member of the group, and at least what the pair before leaves.
abbrev pub good_replica : ℕ → ℕ → ℕ → Bool
good_replica n least r = nat_le least r && member n r

-- The replicas of the pairs rise, so each is above that before; their counts are from 1.
abbrev pub pairs_fault : ℕ → ℕ → ℕ → List Pair → Option ℕ
pairs_fault n at least [] = None
pairs_fault n at least (p ∷ ps) =
    field at (good_replica n least p.replica) (field (at + 1) (nat_lt 0 p.count) (pairs_fault n (at + 5) (p.replica + 1) ps))

-- A checkpoint's position is a multiple of 16, from 16 on.
abbrev pub good_position : ℕ → Bool
good_position p = nat_le 16 p && p % 16 == 0

-- The first bad field of a body. A NEW-VIEW has as many pairs as a quorum has members.
abbrev pub body_fault : ℕ → Body → Option ℕ
body_fault n (kinds.Prepare view request) = request_fault 12 request
body_fault n (kinds.Commit vouch) = None
body_fault n (kinds.Checkpoint k) = field 8 (good_position k.position) None
body_fault n (kinds.ViewChange view vouch) = None
body_fault n (kinds.NewView view pairs) = pairs_fault n 12 0 (take (quorum_of n) pairs)

-- Where the bytes begin that no field of a body has.
abbrev pub named_end : ℕ → Body → ℕ
named_end n (kinds.Prepare view request) = 28
named_end n (kinds.Commit vouch) = 16
named_end n (kinds.Checkpoint k) = 44
named_end n (kinds.ViewChange view vouch) = 20
named_end n (kinds.NewView view pairs) = 12 + 5 * quorum_of n

-- Each byte that no field has is a field of its own, and zero.
abbrev pub unnamed_fault : ℕ → List ℕ → Option ℕ
unnamed_fault at [] = None
unnamed_fault at (b ∷ bs) = field at (b == 0) (unnamed_fault (at + 1) bs)

-- The first bad field of a record of a known kind: the sender is a member, bytes 2 and 3 are zero, the count is from 1.
abbrev pub record_fault : ℕ → List ℕ → Message → Option ℕ
record_fault n bs m =
    field 1 (member n m.sender)
    (field 2 (slice_index bs 2 == 0)
    (field 3 (slice_index bs 3 == 0)
    (field 4 (nat_lt 0 m.count)
    (or_else (body_fault n m.body) (unnamed_fault (named_end n m.body) (drop (named_end n m.body) bs))))))

-- The body of a record, by its kind; there are the kinds 1 to 5.
abbrev pub body_at : List ℕ → Option Body
body_at bs =
    cond (slice_index bs 0 == 1) (Some (kinds.Prepare (number_at 4 bs 8) (request_at bs 12)))
    (cond (slice_index bs 0 == 2) (Some (kinds.Commit (vouch_at bs 8)))
    (cond (slice_index bs 0 == 3) (Some (kinds.Checkpoint (record { position = number_at 4 bs 8; digest = digest_at bs 12 })))
    (cond (slice_index bs 0 == 4) (Some (kinds.ViewChange (number_at 4 bs 8) (vouch_at bs 12)))
    (cond (slice_index bs 0 == 5) (Some (kinds.NewView (number_at 4 bs 8) (pair_at bs 12 ∷ (pair_at bs 17 ∷ (pair_at bs 22 ∷ (pair_at bs 27 ∷ []))))))
    None))))

abbrev pub message_at : List ℕ → Body → Message
message_at bs body = record { sender = slice_index bs 1; count = number_at 4 bs 4; body = body }

-- A fault refuses the form at its place.
abbrev pub unless_fault : {X : Type 0} → Option ℕ → X → Result X Refusal
unless_fault None x = Ok x
unless_fault (Some place) x = Err (BadForm place)

-- A kind that there is not is a fault at place 0.
abbrev pub judged : ℕ → List ℕ → Option Body → Result Message Refusal
judged n bs None = Err (BadForm 0)
judged n bs (Some body) = unless_fault (record_fault n bs (message_at bs body)) (message_at bs body)

-- What reading a record gives in a group of n, for all bytes: its message, or the refusal.
abbrev pub parse : ℕ → List ℕ → Result Message Refusal
parse n bs = cond (length bs == record_length) (judged n bs (body_at bs)) (Err (WrongLength buffers.Record))

-- The same of a request.
abbrev pub parse_request : List ℕ → Result Request Refusal
parse_request bs =
    cond (length bs == request_length) (unless_fault (request_fault 0 (request_at bs 0)) (request_at bs 0)) (Err (WrongLength buffers.Request))

-- Writing wants a buffer of the exact length, which then holds the bytes; another is refused, and stays as it was.
abbrev pub fitted : ℕ → Buffer → List ℕ → Result (Unit {0}) Refusal
fitted w buffer out = cond (length out == w) (Ok tt) (Err (WrongLength buffer))

abbrev pub filled : ℕ → List ℕ → List ℕ → List ℕ
filled w bytes out = cond (length out == w) bytes out
