use Rattle.std.proofs.Common.{◌≡◌, take, drop, ap, ◌∙◌, rules}
use Rattle.std.specs.List.{prefix_len}
use Rattle.std.proofs.lemmas.Iterator.{YieldsList-from_slice}
use Rattle.std.proofs.lemmas.Iterator.Consumers.{count_from_yields_List}
use Rattle.std.proofs.lemmas.Iterator.Search.{YieldsList-from_take_while}
use Rattle.std.proofs.lemmas.List.Folds.{length-prefix_len}
use Rattle.quarter.proofs.split_front.Goals as goal

pub returns : goal.returns
returns g c = λ test same.
    let text = c.args.text.now in
    let n : c.count-n.result ≡ prefix_len test text =
    count_from_yields_List c.take_while.result c.count-n.result c.count-n.ensures.ran
    (YieldsList-from_take_while _ test (YieldsList-from_slice text (cc)) c.take_while.ensures.closure c.take_while.ensures.done (λ x b q k. search (rules, same)))
    ∙ length-prefix_len test text
    in
    (c.split_at.ensures.front ∙ ap (λ k. take k text) n, c.split_at.ensures.back ∙ ap (λ k. drop k text) n)
