use Rattle.std.proofs.Common.{◌≡◌, ℕ, ◌-◌, ◌++◌, length, drop, replicate, ap, ◌∙◌, arith}
use borrow.Rule.Slice.PartMut.{post_of}
use Rattle.std.proofs.lemmas.List.{drop-replicate}
use Rattle.hash.proofs.mac.put.Goals as goal

pub returns : goal.returns
returns c =
    let bs = c.args.bytes.now in
    let n = length bs in
    let same : n - 0 ≡ n = omega arith in
    ap (λ l. l ++ post_of 0 (n - 0) c.args.out.now) c.copy_from_slice.ensures.after ∙ ap (λ o. bs ++ post_of 0 (n - 0) o) c.requires.out_value
    ∙ ap (λ k. bs ++ drop k (replicate {A = ℕ} 64 0)) same ∙ ap (λ l. bs ++ l) (drop-replicate n 64 0)
