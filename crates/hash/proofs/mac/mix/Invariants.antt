use Rattle.std.proofs.Common.{◌≡◌, ◌++◌, map, take, drop}
use lib.Bits.{bit_xor}
use Rattle.hash.proofs.mac.mix.Given as goal

abbrev pub invariant-loop-byte : goal.invariant-loop-byte
invariant-loop-byte l = l.byte-items ≡ map (λ k. bit_xor k l.b) (take l.byte-index l.block) ++ drop l.byte-index l.block
