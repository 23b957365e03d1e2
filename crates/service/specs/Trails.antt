use Rattle.std.specs.Prelude.{ℕ, List, ◌++◌, replicate}
use Rattle.hash.specs.Bytes.{big_endian, number_at}
use Rattle.hash.specs.Digest.{sha256}

-- A trail is 32 bytes, at first zero.
abbrev pub fresh_trail : List ℕ
fresh_trail = replicate 32 0

-- A step makes them the SHA-256 of themselves, the client in two bytes and the command.
abbrev pub trail_after : List ℕ → ℕ → List ℕ → List ℕ
trail_after trail client command = sha256 (trail ++ (big_endian 2 client ++ command))

-- The answer is the first eight bytes then, as a number.
abbrev pub trail_answer : List ℕ → ℕ → List ℕ → ℕ
trail_answer trail client command = number_at 8 (trail_after trail client command) 0
