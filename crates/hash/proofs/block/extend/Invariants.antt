use Rattle.std.proofs.Common.{◌≡◌, ℕ, ◌-◌, List, length, take}
use Rattle.hash.specs.Compression.{schedule}
use Rattle.hash.proofs.block.extend.Given as goal

abbrev pub invariant-loop-i : goal.invariant-loop-i
invariant-loop-i l =
    (length l.ws ≡ 64) × ((first : List ℕ) → take l.from l.initial.ws ≡ schedule first (l.from - 16) → take l.i l.ws ≡ schedule first (l.i - 16))
