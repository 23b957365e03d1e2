use Rattle.std.specs.Prelude.{◌≡◌, ℕ, zero, suc, ◌*◌, Bool, true, cond, ◌&&◌, List, [], ◌++◌, length, take, drop, replicate, nat_lt, slice_index_or}
use Rattle.hash.specs.Hmac.{hmac, tag_under}
use Rattle.hash.specs.declared.block.Words.{Words}
use Rattle.hash.specs.declared.mac.MacKey.{MacKey}
use Rattle.wire.specs.Groups.{member}
use Rattle.device.specs.Keys.{same_bytes, sender_of, may_pass}

-- A tag has seven parts of 32 bytes, the part r for replica r; parts from the group's size on are zero.
-- Here `tags r` is the HMAC for replica r.
abbrev pub part : ℕ → (ℕ → List ℕ) → ℕ → List ℕ
part n tags r = cond (nat_lt r n) (tags r) (replicate 32 0)

-- The first k parts.
abbrev pub parts : ℕ → (ℕ → List ℕ) → ℕ → List ℕ
parts n tags zero = []
parts n tags (suc r) = parts n tags r ++ part n tags r

abbrev pub whole_tag : ℕ → (ℕ → List ℕ) → List ℕ
whole_tag n tags = parts n tags 7

-- The part of a tag that is for a replica.
abbrev pub part_for : ℕ → List ℕ → List ℕ
part_for r tag = take 32 (drop (32 * r) tag)

-- The key that a device's owner shares with a replica.
abbrev pub shared_key : List (List ℕ) → ℕ → List ℕ
shared_key keys r = slice_index_or keys r []

-- The tag that a device with these keys makes of a record.
abbrev pub pair_tag : ℕ → List (List ℕ) → List ℕ → List ℕ
pair_tag n keys bs = whole_tag n (λ r. hmac (shared_key keys r) bs)

-- A pair passes if the owner's own part is the HMAC of the record under the key shared with its sender.
-- No other part is looked at.
abbrev pub pair_passes : ℕ → ℕ → List (List ℕ) → List ℕ → List ℕ → Bool
pair_passes n owner keys bs tag = may_pass n owner 224 bs tag && same_bytes (part_for owner tag) (hmac (shared_key keys (sender_of bs)) bs)

-- The same where the keys are kept hashed.
abbrev pub no_words : Words
no_words = record { a = 0; b = 0; c = 0; d = 0; e = 0; f = 0; g = 0; h = 0 }

abbrev pub kept_tag : List MacKey → List ℕ → ℕ → List ℕ
kept_tag keys bs r = tag_under (slice_index_or keys r (record { inner = no_words; outer = no_words })) bs

abbrev pub pair_tag_at : ℕ → List MacKey → List ℕ → List ℕ
pair_tag_at n keys bs = whole_tag n (kept_tag keys bs)

abbrev pub pair_passes_at : ℕ → ℕ → List MacKey → List ℕ → List ℕ → Bool
pair_passes_at n owner keys bs tag = may_pass n owner 224 bs tag && same_bytes (part_for owner tag) (kept_tag keys bs (sender_of bs))

-- What one member's device makes passes at another's where both hold the same key for each other.
abbrev pub PassesAtPartner : Type 0
PassesAtPartner =
    (n maker reader : ℕ) (keys others : List (List ℕ)) (bs : List ℕ) → member n maker ≡ true → member n reader ≡ true → length bs ≡ 48 → sender_of bs ≡ maker
    → shared_key keys reader ≡ shared_key others maker → pair_passes n reader others bs (pair_tag n keys bs) ≡ true
