use Rattle.std.specs.Prelude.{ℕ, zero, suc, ◌+◌, ◌*◌, ◌/◌, ◌%◌, ◌^◌, List, [], ◌∷◌, slice_index}

-- A number as w bytes, the highest first: its low 8 * w bits.
abbrev pub big_endian : ℕ → ℕ → List ℕ
big_endian zero n = []
big_endian (suc zero) n = n % 256 ∷ []
big_endian (suc (suc w)) n = n / 256 ^ suc w % 256 ∷ big_endian (suc w) n

-- The number whose w bytes, the highest first, begin at a place.
abbrev pub number_at : ℕ → List ℕ → ℕ → ℕ
number_at zero bytes at = 0
number_at (suc w) bytes at = number_at w bytes at * 256 + slice_index bytes (at + w)
