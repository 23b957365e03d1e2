use Rattle.std.proofs.Common.{codes, ap, sym, arith}
use Rattle.std.proofs.lemmas.Slice.Eq.{text_from_reads, HasBytesAt}
use Rattle.quarter.specs.Lines.{act_of}
use Rattle.quarter.proofs.act_named.Goals as goal

pub returns-in-return : goal.returns-in-return
returns-in-return c =
    let letters : HasBytesAt c.args.word.now 0 (codes "return") = (omega arith, (omega arith, (omega arith, (omega arith, (omega arith, (omega arith, tt)))))) in
    ap act_of (sym (text_from_reads c.args.word.now (codes "return") (omega arith) letters))
