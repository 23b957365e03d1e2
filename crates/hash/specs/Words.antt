use Rattle.std.specs.Prelude.{ℕ, ◌+◌, ◌-◌, ◌*◌, ◌/◌, ◌%◌, ◌^◌, bit_and, bit_or, bit_xor}

-- A word is a number below 2 ^ 32. These are the standard's operations on words.

-- Addition modulo 2 ^ 32.
abbrev pub plus : ℕ → ℕ → ℕ
plus x y = (x + y) % 2 ^ 32

-- The complement of each bit.
abbrev pub complement : ℕ → ℕ
complement x = 4294967295 - x

-- Rotation to the right by n places, 0 < n < 32.
abbrev pub rotr : ℕ → ℕ → ℕ
rotr n x = bit_or (x / 2 ^ n) (x * 2 ^ (32 - n) % 2 ^ 32)

-- Shift to the right by n places.
abbrev pub shr : ℕ → ℕ → ℕ
shr n x = x / 2 ^ n

-- The six functions. Each bit of x chooses between those of y and z.
abbrev pub ch : ℕ → ℕ → ℕ → ℕ
ch x y z = bit_xor (bit_and x y) (bit_and (complement x) z)

-- The majority of three bits.
abbrev pub maj : ℕ → ℕ → ℕ → ℕ
maj x y z = bit_xor (bit_xor (bit_and x y) (bit_and x z)) (bit_and y z)

-- The other four: three rotations, or two and a shift, mixed.
abbrev pub rotations : ℕ → ℕ → ℕ → ℕ → ℕ
rotations a b c x = bit_xor (bit_xor (rotr a x) (rotr b x)) (rotr c x)

abbrev pub rotations_and_shift : ℕ → ℕ → ℕ → ℕ → ℕ
rotations_and_shift a b c x = bit_xor (bit_xor (rotr a x) (rotr b x)) (shr c x)

abbrev pub big_sigma0 : ℕ → ℕ
big_sigma0 x = rotations 2 13 22 x

abbrev pub big_sigma1 : ℕ → ℕ
big_sigma1 x = rotations 6 11 25 x

abbrev pub small_sigma0 : ℕ → ℕ
small_sigma0 x = rotations_and_shift 7 18 3 x

abbrev pub small_sigma1 : ℕ → ℕ
small_sigma1 x = rotations_and_shift 17 19 10 x
