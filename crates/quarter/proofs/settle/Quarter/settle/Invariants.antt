use Rattle.std.proofs.Common.{◌≡◌, true, [], fold}
use Rattle.std.specs.Slice.Iter.{split_inclusive_rest}
use Rattle.quarter.specs.Quarters.{standing, after_line, lines_from, settled, reads_too, all_read}
use Rattle.quarter.proofs.settle.Quarter.settle.Given as goal

-- the rest of the text is still to be settled
abbrev pub invariant-loop-line : goal.invariant-loop-line
invariant-loop-line l =
    goal.iterator-loop-line.can_next l.line-iterator × goal.iterator-loop-line.is_finite l.line-iterator
    × (fold after_line (standing l.quarter) (lines_from [] (split_inclusive_rest l.line-iterator)) ≡ settled l.text)
    × (all_read l.text ≡ true → fold reads_too true (lines_from [] (split_inclusive_rest l.line-iterator)) ≡ true)
