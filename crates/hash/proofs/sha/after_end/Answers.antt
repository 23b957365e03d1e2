use Rattle.std.proofs.Common.{◌≡◌, ℕ, ◌+◌, ◌-◌, ◌<◌, length, get_or, replicate, ap, ◌∙◌, arith, rules}
use Rattle.std.proofs.lemmas.List.{same_lists, places, get_or-replicate, get_or-set_same, get_or-set_other}
use Rattle.std.proofs.lemmas.Bool.{cases_eq}
use Rattle.hash.specs.Digest.{after_all}
use Rattle.hash.proofs.sha.after_end.Goals as goal

pub returns : goal.returns
returns g c =
    let n = length c.args.tail.now in
    let zero : (k d : ℕ) → k < g.row.N → get_or (replicate {A = ℕ} g.row.N 0) k d ≡ 0 = λ k d h. get_or-replicate g.row.N k 0 d h in
    c.absorb.ensures.value
    ∙ ap (after_all c.args.state) (same_lists _ _ (search (rules, places)) (λ k d h. grind (arith, places, get_or-set_same, get_or-set_other, cases_eq k n, zero (n + (k - n)) d)))
