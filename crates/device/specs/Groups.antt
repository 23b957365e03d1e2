use Rattle.std.specs.Prelude.{ℕ, Bool, ◌&&◌, List}
use Rattle.hash.specs.Hmac.{hmac, tag_under}
use Rattle.device.specs.Keys.{same_bytes, may_pass}
use Rattle.hash.specs.declared.mac.MacKey.{MacKey}

-- A pair passes under a group's key if the tag is the HMAC of the record.
abbrev pub group_passes : ℕ → ℕ → List ℕ → List ℕ → List ℕ → Bool
group_passes n owner key bs tag = may_pass n owner 32 bs tag && same_bytes tag (hmac key bs)

-- The same where the key is kept hashed.
abbrev pub group_passes_at : ℕ → ℕ → MacKey → List ℕ → List ℕ → Bool
group_passes_at n owner key bs tag = may_pass n owner 32 bs tag && same_bytes tag (tag_under key bs)
