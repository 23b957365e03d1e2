-- The numbers of a line.
use Rattle.std.specs.Prelude.{ℕ, ◌+◌, ◌-◌, ◌*◌, Bool, true, cond, not, ◌&&◌, List, [], ◌∷◌, length, Some, None, Ok, Err, fold, Option, Result, ◌==◌, nat_le}
use Rattle.quarter.specs.declared.Fault.{Fault}
use Rattle.quarter.specs.declared.Fault.TheVariants.{NotANumber, OutOfRange}

-- A digit is a byte from `0` to `9`.
abbrev pub digit : ℕ → Bool
digit b = nat_le 48 b && nat_le b 57

-- Every byte of a word is a digit.
abbrev pub all_digits : List ℕ → Bool
all_digits [] = true
all_digits (b ∷ bs) = digit b && all_digits bs

-- The number that digits write in base ten, the highest first.
abbrev pub digits_value : List ℕ → ℕ
digits_value w = fold (λ n b. n * 10 + (b - 48)) 0 w

-- A number is one or more digits and nothing else; zeros may lead.
abbrev pub decimal : List ℕ → Option ℕ
decimal w = cond (not (length w == 0) && all_digits w) (Some (digits_value w)) None

-- What is read as field k is at most the field's limit.
abbrev pub up_to : ℕ → ℕ → Option ℕ → Result ℕ Fault
up_to most k None = Err (NotANumber k)
up_to most k (Some n) = cond (nat_le n most) (Ok n) (Err (OutOfRange k))

-- Field k is a number, and that is at most the field's limit.
abbrev pub field_read : ℕ → ℕ → List ℕ → Result ℕ Fault
field_read most k w = up_to most k (decimal w)
