use Rattle.std.proofs.Common.{◌≡◌, ℕ, ◌<◌, [], get_or, sym, ap, ◌∙◌, arith, rules}
use Rattle.std.specs.List.{flat_map}
use Rattle.std.proofs.lemmas.List.{take_all}
use Rattle.hash.proofs.Maps.{get_or-from}
use Rattle.device.specs.Pairs.{part, kept_tag, pair_tag_at}
use Rattle.device.proofs.Own.{own_pair_passes}
use Rattle.device.proofs.Parts.{parts_joined}
use Rattle.device.proofs.pair.ArrayMacKey7Keys.write_tag.Goals as goal

written : (c : goal.After-slice_known-2-1) → c.copy_from_slice.new.self ≡ pair_tag_at c.args.size c.args.self.now c.args.record.now
written c =
    let n = c.args.size in
    let tags = kept_tag c.args.self.now c.args.record.now in
    let ps = c.from_fn-parts.result in
    let made = c.from_fn-parts.ensures.items in
    let each : (r : ℕ) → r < 7 → get_or ps r [] ≡ part n tags r = λ r lt. get_or-from _ (part n tags) _ 7 (λ i y q below k. search rules) ps made r [] lt in
    c.copy_from_slice.ensures.after ∙ c.as_flattened.ensures.value ∙ ap (flat_map (λ p. p)) (sym (take_all 7 ps (omega (arith, made.long))))
    ∙ parts_joined n tags ps 7 (omega (arith, made.long)) each

pub returns-clause-value : goal.returns-clause-value
returns-clause-value c = written c

pub returns-clause-own_passes : goal.returns-clause-own_passes
returns-clause-own_passes c = own_pair_passes c.args.self.now c.args.size c.args.record.now _ (written c)
