-- What holds of the sizes 3, 5 and 7 holds of every group.
use Rattle.std.proofs.Common.{◌≡◌, ℕ, ◌<◌, ◌≤◌, true, ◌||◌, eqb, ltb, sym, subst, ⊎_elim, lit≤, ltb-true, eqb-true}
use Rattle.std.proofs.lemmas.Bool.{and_parts, or_cases}
use Rattle.wire.specs.Groups.{is_size, member}

pub by_size : (P : ℕ → Type 0) (n : ℕ) → is_size n ≡ true → P 3 → P 5 → P 7 → P n
by_size P n h x y z =
    ⊎_elim (λ e. subst P (sym (eqb-true n 3 e)) x)
    (λ h. ⊎_elim (λ e. subst P (sym (eqb-true n 5 e)) y) (λ e. subst P (sym (eqb-true n 7 e)) z) (or_cases (eqb n 5) (eqb n 7) h))
    (or_cases (eqb n 3) (eqb n 5 || eqb n 7) h)

-- a group with a member has a size
pub sized : (n r : ℕ) → member n r ≡ true → is_size n ≡ true
sized n r h = (and_parts (is_size n) (ltb r n) h).0

-- a member's number is below the size, and the size is at most 7
pub member_below : (n r : ℕ) → member n r ≡ true → (r < n) × (n ≤ 7)
member_below n r h =
    let P : ℕ → Type 0 = λ k. k ≤ 7 in (ltb-true r n (and_parts (is_size n) (ltb r n) h).1, by_size P n (sized n r h) (lit≤ tt) (lit≤ tt) (lit≤ tt))
