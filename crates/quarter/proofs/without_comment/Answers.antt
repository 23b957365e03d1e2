use Rattle.std.proofs.Common.{not, rules, tests}
use Rattle.quarter.specs.Words.{comment_mark, uncommented}
use Rattle.quarter.proofs.without_comment.Goals as goal

pub returns : goal.returns
unfolding uncommented
returns c = (c.split_front.ensures (λ b. not (comment_mark b)) (λ b r said. search (rules, tests))).0
