use Rattle.std.proofs.Common.{◌≡◌, ℕ, Bool, true, false, cond, eqb, List, length, Some, None, Ok, Option, refl, arith, eqb-true}
use borrow.Author.Tests.{eqb-false}
use Rattle.wire.specs.declared.refusal.Refusal.{Refusal}
use Rattle.device.specs.Makes.{make_refusal, answered}

cond_none : (b : Bool) (o : Option Refusal) (r : Refusal) → cond b o (Some r) ≡ None → (b ≡ true) × (o ≡ None)
cond_none true o r h = (refl, h)
cond_none false o r h = let z : ◌≡◌ {A = ℕ} 0 1 = cc in absurd (omega arith)

cond_some : (b : Bool) (r : Refusal) → cond b (Some r) None ≡ None → b ≡ false
cond_some true r h = let z : ◌≡◌ {A = ℕ} 0 1 = cc in absurd (omega arith)
cond_some false r h = refl

-- where make is not refused, both lengths are right and a count is left
pub record Makes (made last width : ℕ) (bs tag : List ℕ) : Type 0 where
  pub long : length bs ≡ 48
  pub wide : length tag ≡ width
  pub left : made ≡ last → ⊥

pub makes : (made last width : ℕ) (bs tag : List ℕ) → make_refusal made last width bs tag ≡ None → Makes made last width bs tag
makes made last width bs tag h =
    let a = cond_none (eqb (length bs) 48) _ _ h in
    let b = cond_none (eqb (length tag) width) _ _ a.1 in
    record { long = eqb-true _ _ a.0; wide = eqb-true _ _ b.0; left = eqb-false _ _ (cond_some (eqb made last) _ b.1) }

-- an answer that is no refusal
pub answered_ok : (o : Option Refusal) → answered o ≡ Ok tt → o ≡ None
answered_ok None e = refl
answered_ok (Some r) e = cc
