use Rattle.std.specs.Prelude.{◌≡◌, ℕ, ◌-◌, cond, List, ◌++◌, map, length, replicate, bit_xor, nat_le}
use Rattle.hash.specs.declared.mac.MacKey.{MacKey}
use Rattle.hash.specs.Compression.{compressed}
use Rattle.hash.specs.Constants.{initial}
use Rattle.hash.specs.Digest.{sha256, resumed}

-- Zeros fill bytes up to a block of 64.
abbrev pub filled : List ℕ → List ℕ
filled bytes = bytes ++ replicate (64 - length bytes) 0

-- A key as one block: a key longer than a block is hashed first.
abbrev pub block_key : List ℕ → List ℕ
block_key key = filled (cond (nat_le (length key) 64) key (sha256 key))

-- Each byte of a block, mixed with one byte.
abbrev pub mixed : List ℕ → ℕ → List ℕ
mixed block b = map (λ k. bit_xor k b) block

-- HMAC-SHA-256: the inner hash under the key mixed with 0x36, hashed again under the key mixed with 0x5c.
unfoldable pub hmac : List ℕ → List ℕ → List ℕ
hmac key text = sha256 (mixed (block_key key) 0x5c ++ sha256 (mixed (block_key key) 0x36 ++ text))

-- What is kept of a key: the hash values after its two mixed blocks.
abbrev pub kept : List ℕ → MacKey
kept key =
    record {
      inner = compressed initial (mixed (block_key key) 0x36);
      outer = compressed initial (mixed (block_key key) 0x5c);
    }

-- The tag under a kept key: both hashes go on from the kept values, after one block.
abbrev pub tag_under : MacKey → List ℕ → List ℕ
tag_under k text = resumed k.outer 64 (resumed k.inner 64 text)

-- A kept key gives the tags of the key that it was made from.
abbrev pub TagsAsKey : Type 0
TagsAsKey = (key text : List ℕ) → tag_under (kept key) text ≡ hmac key text
