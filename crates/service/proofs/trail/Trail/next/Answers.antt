use Rattle.std.proofs.Common.{[], ◌++◌}
use Rattle.hash.specs.Constants.{initial}
use Rattle.std.proofs.lemmas.List.{append_assoc}
use Rattle.service.proofs.trail.Trail.next.Goals as goal

pub returns : goal.returns
returns c =
    let bytes = c.args.self.now.bytes in
    let client = c.to_be_bytes.result in
    let took1 = c.update.ensures initial 0 [] c.new-h.ensures in
    let took2 = c.update-2.ensures initial 0 bytes took1 in
    let took3 = c.update-3.ensures initial 0 (bytes ++ client) took2 in
    cc (c.finish.ensures _ took3, append_assoc bytes client c.args.command.now)
