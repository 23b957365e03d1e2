use Rattle.std.proofs.Common.{◌≡◌, ℕ, ◌+◌, Bool, not, cond, Some, eqb, List, [], ◌∷◌, true, false, Option, refl, sym, ap, ◌∙◌, rules, tests, arith}
use Rattle.std.specs.List.{position_from}
use Rattle.std.specs.Option.{option_map}
use Rattle.std.proofs.lemmas.Iterator.{YieldsList-from_slice}
use Rattle.std.proofs.lemmas.Iterator.Adapters.{position_from-zero}
use Rattle.std.proofs.lemmas.Iterator.Search.{position_from_yields_List}
use Rattle.wire.specs.Forms.{field, unnamed_fault, unless_fault}
use Rattle.wire.proofs.reader.check_unnamed.Goals as goal

abbrev nonzero : ℕ → Bool
nonzero b = not (eqb b 0)

-- the first byte that is not zero, counted from the place where the bytes begin
first_fault : (from i : ℕ) (bs : List ℕ) → unnamed_fault (from + i) bs ≡ option_map (λ k. from + k) (position_from nonzero i bs)
first_fault from i [] = refl
first_fault from i (b ∷ bs) =
    let next : from + (i + 1) ≡ from + i + 1 = omega arith in
    let more : unnamed_fault (from + i + 1) bs ≡ option_map (λ k. from + k) (position_from nonzero (i + 1) bs) = rw next at (first_fault from (i + 1) bs) in
    elim (eqb b 0) as (λ t. field (from + i) t (unnamed_fault (from + i + 1) bs) ≡ option_map (λ k. from + k) (cond (not t) (Some i) (position_from nonzero (i + 1) bs))) [ true ↦ more | false ↦ refl ]

refused : (from : ℕ) (bs : List ℕ) (o p : Option ℕ) → p ≡ position_from nonzero 0 bs → p ≡ o
    → unless_fault {X = Unit {0}} (option_map (λ k. from + k) o) tt ≡ unless_fault (unnamed_fault from bs) tt
refused from bs o p e h =
    let here : from ≡ from + 0 = omega arith in
    sym (ap (λ q. unless_fault q tt) (ap (λ k. unnamed_fault k bs) here ∙ first_fault from 0 bs ∙ ap (option_map (λ k. from + k)) (sym e ∙ h)))

pub returns-in-None : goal.returns-in-None
returns-in-None c =
    let bs = c.args.bytes.now in
    let found : c.position.result ≡ position_from nonzero 0 bs =
    position_from_yields_List nonzero _ _ _ c.position.ensures.ran (YieldsList-from_slice bs c.iter.ensures.rest) (λ x b q k. search (rules, tests)) ∙ position_from-zero nonzero bs
    in
    refused c.args.from bs _ _ found c.in-None.is

pub returns-in-Some : goal.returns-in-Some
returns-in-Some c =
    let bs = c.args.bytes.now in
    let found : c.position.result ≡ position_from nonzero 0 bs =
    position_from_yields_List nonzero _ _ _ c.position.ensures.ran (YieldsList-from_slice bs c.iter.ensures.rest) (λ x b q k. search (rules, tests)) ∙ position_from-zero nonzero bs
    in
    refused c.args.from bs _ _ found c.in-Some.is
