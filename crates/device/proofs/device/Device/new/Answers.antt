use Rattle.device.proofs.Parts.{passes_at_partner}
use Rattle.device.proofs.Stamps.{stamp_names}
use Rattle.device.proofs.device.Device.new.Goals as goal

pub returns-clause-stamp_names : goal.returns-clause-stamp_names
returns-clause-stamp_names g c = stamp_names

pub returns-clause-passes_at_partner : goal.returns-clause-passes_at_partner
returns-clause-passes_at_partner g c = passes_at_partner
