use Rattle.std.proofs.Common.{◌≡◌, not, ap, ◌∙◌, rules, tests}
use Rattle.quarter.specs.Lines.{absent}
use Rattle.quarter.specs.Words.{blank, first_word, after_word}
use Rattle.quarter.proofs.next_word.Goals as goal
use Rattle.quarter.proofs.next_word.Goals.{After-split_front-2}

parts : (c : After-split_front-2) → (c.split_front-2.result.0.now ≡ first_word c.args.text.now) × (c.split_front-2.result.1.now ≡ after_word c.args.text.now)
unfolding first_word after_word
parts c =
    let unpadded = (c.split_front.ensures blank (λ b r said. search (rules, tests))).1 in
    rw unpadded at (c.split_front-2.ensures (λ b. not (blank b)) (λ b r said. search (rules, tests)))

pub returns-then-is_empty-clause-found : goal.returns-then-is_empty-clause-found
returns-then-is_empty-clause-found c =
    ap not (c.if-is_empty.ensures ∙ ap absent (parts (goal.at.returns-then-is_empty-clause-found c).After-split_front-2).0)

pub returns-else-is_empty : goal.returns-else-is_empty
returns-else-is_empty c =
    let (word, rest) = parts (goal.at.returns-else-is_empty c).After-split_front-2 in
    record { found = ap not (c.if-is_empty.ensures ∙ ap absent word); parts = (word, rest) }
