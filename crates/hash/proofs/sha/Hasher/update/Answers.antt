use Rattle.std.proofs.Common.{◌≡◌, ℕ, ◌-◌, List, ◌++◌, length, take, sym, ap, ◌∙◌, subst, arith, eqb-true}
use Rattle.std.proofs.lemmas.List.{append_assoc, take-append-drop, take_all}
use Rattle.hash.specs.Taken.{Took}
use Rattle.hash.proofs.sha.Hasher.update.Goals as goal

pub returns-then-not-is_empty : goal.returns-then-not-is_empty
returns-then-not-is_empty c s before m took =
    let bs = c.args.bytes.now in
    let rest = c.fill-rest.result.now in
    let used = length bs - length rest in
    let whole : (m ++ take used bs) ++ rest ≡ m ++ bs =
    append_assoc m (take used bs) rest ∙ ap (λ l. m ++ (take used bs ++ l)) c.fill-rest.ensures.left ∙ ap (λ l. m ++ l) (take-append-drop used bs)
    in
    subst (λ (l : List ℕ). Took s before c.take_blocks.new.self l) whole (c.take_blocks.ensures s before (m ++ take used bs) (c.fill-rest.ensures.takes s before m took))

pub returns-else-not-is_empty : goal.returns-else-not-is_empty
returns-else-not-is_empty c s before m took =
    let bs = c.args.bytes.now in
    let rest = c.fill-rest.result.now in
    let none : length rest ≡ 0 = eqb-true _ _ (sym c.is_empty.ensures ∙ c.if-not-is_empty.false) in
    subst (λ (l : List ℕ). Took s before c.fill-rest.new.self (m ++ l)) (take_all (length bs - length rest) bs (omega arith)) (c.fill-rest.ensures.takes s before m took)
