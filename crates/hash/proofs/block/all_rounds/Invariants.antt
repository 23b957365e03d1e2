use Rattle.std.proofs.Common.{◌≡◌, ◌+◌, ◌*◌, length, take}
use Rattle.hash.specs.Compression.{rounds, schedule}
use Rattle.hash.proofs.block.all_rounds.Given as goal

abbrev pub invariant-loop-j : goal.invariant-loop-j
invariant-loop-j l =
    (length l.ws ≡ 64) × (take (16 + 8 * l.j) l.ws ≡ schedule (take 16 l.initial.ws) (8 * l.j)) × (l.s ≡ rounds (schedule (take 16 l.initial.ws) 48) l.initial.s (8 * l.j))
