use Rattle.std.proofs.Common.{◌∙◌}
use Rattle.device.proofs.Own.{own_group_passes}
use Rattle.device.proofs.group.MacKeyKeys.write_tag.Goals as goal

pub returns-clause-own_passes : goal.returns-clause-own_passes
returns-clause-own_passes c = own_group_passes c.args.self.now c.args._size c.args.record.now _ (c.copy_from_slice.ensures.after ∙ c.tag.ensures.value)
