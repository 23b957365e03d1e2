use Rattle.std.specs.Prelude.{◌≡◌, ℕ, ◌+◌, ◌*◌, ◌/◌, ◌%◌, ◌^◌, List, ◌++◌, length, take, drop}
use Rattle.hash.specs.declared.block.Words.{Words}
use Rattle.hash.specs.declared.sha.Hasher.{Hasher}
use Rattle.hash.specs.Digest.{after_blocks}

-- A hasher has taken the bytes m, after whole blocks of so many bytes before them that gave the hash value s.
-- A new one starts from the standard's first value with nothing before.
pub record Took (s : Words) (before : ℕ) (h : Hasher) (m : List ℕ) : Type 0 where
  pub whole : before % 64 ≡ 0
  -- the whole blocks of m are in the hash value
  pub value : h.state ≡ after_blocks s m (length m / 64)
  -- the rest of m stands at the front of the kept block
  pub rest : take (length m % 64) h.tail ≡ drop (64 * (length m / 64)) m
  pub count : h.len ≡ (before + length m) % 2 ^ 64

-- A hasher goes on by some bytes: whatever it had taken, it has then taken that and these bytes after it.
abbrev pub GoesOn : Hasher → List ℕ → Hasher → Type 0
GoesOn h bytes next = (s : Words) (before : ℕ) (m : List ℕ) → Took s before h m → Took s before next (m ++ bytes)
