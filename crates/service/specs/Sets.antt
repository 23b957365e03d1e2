use Rattle.std.specs.Prelude.{ℕ, ◌/◌, ◌%◌, ◌^◌, Bool, ◌==◌, bit_or, bit_xor, count_ones}

-- A set of clients is a number: client c is in it where its bit c, the lowest being bit 0, is one.
abbrev pub has : ℕ → ℕ → Bool
has set c = (set / 2 ^ c % 2) == 1

-- The set with a client added.
abbrev pub with : ℕ → ℕ → ℕ
with set c = bit_or set (2 ^ c)

-- The set with a client that is in it taken out.
abbrev pub without : ℕ → ℕ → ℕ
without set c = bit_xor set (2 ^ c)

-- How many clients are in the set.
abbrev pub size : ℕ → ℕ
size set = count_ones set
