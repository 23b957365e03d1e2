use Rattle.std.specs.Prelude.{ℕ, zero, suc, ◌+◌, ◌-◌, ◌*◌, ◌/◌, ◌%◌, List, ◌∷◌, ◌++◌, length, take, drop, replicate}
use Rattle.hash.specs.declared.block.Words.{Words}
use Rattle.hash.specs.Bytes.{big_endian}
use Rattle.hash.specs.Compression.{compressed}
use Rattle.hash.specs.Constants.{initial}

-- The padding of a message of n bytes: a one bit, as few zeros as bring the whole to a multiple of 64 bytes,
-- and the length in bits as a 64-bit number. Of a length of 2 ^ 64 bits and more, for which the standard
-- has no hash, the low 64 bits are written.
unfoldable pub padding : ℕ → List ℕ
padding n = 128 ∷ (replicate ((119 - n % 64) % 64) 0 ++ big_endian 8 (8 * n))

-- The block of 64 bytes with number k, from 0.
abbrev pub block : List ℕ → ℕ → List ℕ
block bytes k = take 64 (drop (64 * k) bytes)

-- The hash value after n blocks, from the hash value before them.
abbrev pub after_blocks : Words → List ℕ → ℕ → Words
after_blocks s bytes zero = s
after_blocks s bytes (suc n) = compressed (after_blocks s bytes n) (block bytes n)

-- The hash value after all blocks.
abbrev pub after_all : Words → List ℕ → Words
after_all s bytes = after_blocks s bytes (length bytes / 64)

-- The 32 bytes of a hash value.
abbrev pub bytes_of : Words → List ℕ
bytes_of s =
    big_endian 4 s.a ++ (big_endian 4 s.b ++ (big_endian 4 s.c ++ (big_endian 4 s.d ++ (big_endian 4 s.e ++ (big_endian 4 s.f ++ (big_endian 4 s.g ++ big_endian 4 s.h))))))

-- SHA-256: the hash value after all blocks of the padded message.
unfoldable pub sha256 : List ℕ → List ℕ
sha256 message = bytes_of (after_all initial (message ++ padding (length message)))

-- The hash of a message from its rest alone, where the bytes before it, whole blocks, gave a hash value.
unfoldable pub resumed : Words → ℕ → List ℕ → List ℕ
resumed s before rest = bytes_of (after_all s (rest ++ padding (before + length rest)))
