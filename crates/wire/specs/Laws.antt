use Rattle.std.specs.Prelude.{◌≡◌, ℕ, ◌-◌, ◌^◌, ◌<◌, true, List, length, drop, replicate, None, Ok, slice_index, slice_index_or}
use Rattle.wire.specs.Forms.{request_fault, body_fault, parse, parse_request}
use Rattle.wire.specs.Groups.{member, quorum_of}
use Rattle.wire.specs.Messages.{request_bytes, digest_bytes, bytes_of, digest_at}
use Rattle.wire.specs.declared.message.Body.{Body}
use Rattle.wire.specs.declared.message.Body.TheVariants as kinds
use Rattle.wire.specs.declared.message.Digest.{Digest}
use Rattle.wire.specs.declared.message.Message.{Message}
use Rattle.wire.specs.declared.message.Pair.{Pair}
use Rattle.wire.specs.declared.message.Request.{Request}
use Rattle.wire.specs.declared.message.Vouch.{Vouch}

-- Each number of a list is a byte.
abbrev pub Bytes : List ℕ → Type 0
Bytes bs = (i : ℕ) → slice_index bs i < 256

-- Numbers and commands fit their fields. Every value that the code can hold does.
abbrev pub FitsVouch : Vouch → Type 0
FitsVouch u = (u.view < 2 ^ 32) × (u.length < 2 ^ 32)

abbrev pub FitsDigest : Digest → Type 0
FitsDigest d = (d.first < 2 ^ 64) × (d.second < 2 ^ 64) × (d.third < 2 ^ 64) × (d.fourth < 2 ^ 64)

abbrev pub no_pair : Pair
no_pair = record { replica = 0; count = 0 }

abbrev pub FitsPairs : List Pair → Type 0
FitsPairs ps = (length ps ≡ 4) × ((i : ℕ) → (slice_index_or ps i no_pair).count < 2 ^ 32)

abbrev pub FitsRequest : Request → Type 0
FitsRequest x = (x.number < 2 ^ 32) × (length x.command ≡ 10) × Bytes x.command

-- A request has the right form if none of its fields is at fault and all fit.
pub record RightRequest (x : Request) : Type 0 where
  pub fields : request_fault 0 x ≡ None
  pub fits : FitsRequest x

abbrev pub FitsBody : Body → Type 0
FitsBody (kinds.Prepare view x) = (view < 2 ^ 32) × FitsRequest x
FitsBody (kinds.Commit vouch) = FitsVouch vouch
FitsBody (kinds.Checkpoint k) = (k.position < 2 ^ 32) × FitsDigest k.digest
FitsBody (kinds.ViewChange view vouch) = (view < 2 ^ 32) × FitsVouch vouch
FitsBody (kinds.NewView view pairs) = (view < 2 ^ 32) × FitsPairs pairs

-- The pairs past the quorum are not used, and zero.
abbrev pub Unused : ℕ → Body → Type 0
Unused n (kinds.Prepare view x) = Unit {0}
Unused n (kinds.Commit vouch) = Unit {0}
Unused n (kinds.Checkpoint k) = Unit {0}
Unused n (kinds.ViewChange view vouch) = Unit {0}
Unused n (kinds.NewView view pairs) = drop (quorum_of n) pairs ≡ replicate (4 - quorum_of n) no_pair

-- A message has the right form in a group of n if its sender is a member, its count is from 1, no field of its body
-- is at fault, pairs that are not used are zero, and all fit.
pub record RightForm (n : ℕ) (m : Message) : Type 0 where
  pub sender : member n m.sender ≡ true
  pub counted : 0 < m.count
  pub fields : body_fault n m.body ≡ None
  pub unused : Unused n m.body
  pub fits : m.count < 2 ^ 32
  pub fits_body : FitsBody m.body

-- Reading what was written gives the message.
abbrev pub WrittenIsRead : Type 0
WrittenIsRead = (n : ℕ) (m : Message) → RightForm n m → parse n (bytes_of m) ≡ Ok m

-- A record that is read, and its message written, gives the same bytes; and that message has the right form.
-- So the records that are read are just those of the messages of the right form.
abbrev pub ReadIsWritten : Type 0
ReadIsWritten = (n : ℕ) (bs : List ℕ) (m : Message) → Bytes bs → parse n bs ≡ Ok m → (bytes_of m ≡ bs) × RightForm n m

-- The same of requests.
abbrev pub WrittenRequestIsRead : Type 0
WrittenRequestIsRead = (x : Request) → RightRequest x → parse_request (request_bytes x) ≡ Ok x

abbrev pub ReadRequestIsWritten : Type 0
ReadRequestIsWritten = (bs : List ℕ) (x : Request) → Bytes bs → parse_request bs ≡ Ok x → (request_bytes x ≡ bs) × RightRequest x

-- A digest is kept whole both ways.
abbrev pub DigestIsKept : Type 0
DigestIsKept =
    ((d : Digest) → FitsDigest d → digest_at (digest_bytes d) 0 ≡ d) × ((bs : List ℕ) → Bytes bs → length bs ≡ 32 → digest_bytes (digest_at bs 0) ≡ bs)
