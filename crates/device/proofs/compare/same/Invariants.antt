use Rattle.std.proofs.Common.{◌≡◌, eqb, length, take}
use Rattle.device.specs.Keys.{same_bytes}
use Rattle.device.proofs.compare.same.Given as goal

abbrev pub invariant-loop-byte : goal.invariant-loop-byte
invariant-loop-byte l =
    eqb l.differ 0 ≡ same_bytes (take (length l.yielded) l.part) (take (length l.yielded) l.wanted)
