use Rattle.std.proofs.Common.{◌≡◌, ◌+◌, true, length, sym, ap, ◌∙◌, arith}
use Rattle.wire.specs.Groups.{member}
use Rattle.device.specs.Keys.{sender_of}
use Rattle.device.specs.Makes.{make_refusal}
use Rattle.device.proofs.Checks.{makes, answered_ok}
use Rattle.device.proofs.Stamps.{stamped_length, stamped_sender}
use Rattle.device.proofs.device.DeviceUsig.make.Goals as goal

pub returns-clause-passing : goal.returns-clause-passing
returns-clause-passing g c ok =
    let d = c.args.self.now in
    let n = d.counter in
    let old = c.args.record.now in
    let bs = c.stamp.new.record in
    let none = answered_ok (make_refusal n.made n.last c.tag_len.result old c.args.tag.now) (sym c.ready.ensures ∙ c.in_ok-ready.was) in
    let m = makes n.made n.last c.tag_len.result old c.args.tag.now none in
    let inside : member n.size n.owner ≡ true = n.inside (omega (arith, n.within, m.left)) in
    let long : length bs ≡ 48 = ap length c.stamp.ensures.recorded ∙ stamped_length old n.owner (n.made + 1) m.long in
    let sender : sender_of bs ≡ n.owner = ap sender_of c.stamp.ensures.recorded ∙ stamped_sender old n.owner (n.made + 1) m.long in
    let size : c.stamp.new.self.size ≡ n.size = c.stamp.ensures.kept.0 in
    let named : member c.stamp.new.self.size (sender_of bs) ≡ true = (λ i. member (size i) (sender i)) ∙ inside in
    sym (λ i. g.K.Keys.passes d.keys (size i) (sender i) bs c.write_tag.new.tag) ∙ c.write_tag.ensures.own_passes long named
