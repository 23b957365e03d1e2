use Rattle.std.specs.Prelude.{◌≡◌, ℕ, ◌+◌, ◌%◌, Bool, true, cond, ◌&&◌, ◌||◌, ◌==◌, nat_lt}

-- A group has 3, 5 or 7 replicas.
abbrev pub is_size : ℕ → Bool
is_size n = n == 3 || (n == 5 || n == 7)

-- Its replicas are numbered from 0. A group of another size has none.
abbrev pub member : ℕ → ℕ → Bool
member n r = is_size n && nat_lt r n

-- The quorum is one more than the replicas that may be faulty: 2 of 3, 3 of 5, 4 of 7.
abbrev pub quorum_of : ℕ → ℕ
quorum_of n = cond (n == 3) 2 (cond (n == 5) 3 4)

-- The primary of view v is replica v mod n.
abbrev pub primary_of : ℕ → ℕ → ℕ
primary_of n v = v % n

-- The quorum is the least majority: twice it is one more than the group has.
abbrev pub LeastMajority : Type 0
LeastMajority = (n : ℕ) → is_size n ≡ true → quorum_of n + quorum_of n ≡ n + 1
