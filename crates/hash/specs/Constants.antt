use Rattle.std.specs.Prelude.{ℕ, zero, suc, ◌+◌, ◌*◌, ◌%◌, ◌^◌, cond, List, [], ◌∷◌, map, nat_le}
use Rattle.hash.specs.declared.block.Words.{Words}

-- The greatest x with x ^ k ≤ n, its bits below b chosen from the highest down, those of x so far kept.
unfoldable pub root : ℕ → ℕ → ℕ → ℕ → ℕ
root k zero x n = x
root k (suc b) x n = root k b (cond (nat_le ((x + 2 ^ b) ^ k) n) (x + 2 ^ b) x) n

-- The first 32 bits of the fractional part of the k-th root of p, a root below 8.
unfoldable pub fraction : ℕ → ℕ → ℕ
fraction k p = root k 35 0 (p * 2 ^ (32 * k)) % 2 ^ 32

-- The first 64 primes.
abbrev pub primes : List ℕ
primes =
    2 ∷ 3 ∷ 5 ∷ 7 ∷ 11 ∷ 13 ∷ 17 ∷ 19 ∷ 23 ∷ 29 ∷ 31 ∷ 37 ∷ 41 ∷ 43 ∷ 47 ∷ 53 ∷ 59 ∷ 61 ∷ 67 ∷ 71 ∷ 73 ∷ 79 ∷ 83 ∷ 89 ∷ 97 ∷ 101 ∷ 103 ∷ 107 ∷ 109 ∷ 113 ∷ 127 ∷ 131 ∷ 137 ∷ 139 ∷ 149 ∷ 151 ∷ 157 ∷ 163 ∷ 167 ∷ 173 ∷ 179 ∷ 181 ∷ 191 ∷ 193 ∷ 197 ∷ 199 ∷ 211 ∷ 223 ∷ 227 ∷ 229 ∷ 233 ∷ 239 ∷ 241 ∷ 251 ∷ 257 ∷ 263 ∷ 269 ∷ 271 ∷ 277 ∷ 281 ∷ 283 ∷ 293 ∷ 307 ∷ 311 ∷ []

-- The constants of the rounds: from the cube roots of the first 64 primes.
unfoldable pub constants : List ℕ
constants = map (fraction 3) primes

-- The first hash value: from the square roots of the first eight primes.
unfoldable pub initial : Words
initial =
    record {
      a = fraction 2 2;
      b = fraction 2 3;
      c = fraction 2 5;
      d = fraction 2 7;
      e = fraction 2 11;
      f = fraction 2 13;
      g = fraction 2 17;
      h = fraction 2 19;
    }
