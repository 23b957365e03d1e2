use Rattle.std.proofs.Common.{◌≡◌, min, take, drop}
use Rattle.quarter.specs.Numbers.{all_digits, digits_value}
use Rattle.quarter.proofs.number.Given as goal

-- the digits so far are digits and write n
abbrev pub invariant-loop-b : goal.invariant-loop-b
invariant-loop-b l = (l.n ≡ min (digits_value (take l.b-index l.word)) 4294967296) × (all_digits (drop l.b-index l.word) ≡ all_digits l.word)
