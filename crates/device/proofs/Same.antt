-- Comparing bytes by the differences of all of them.
use Rattle.std.proofs.Common.{◌≡◌, ℕ, ◌+◌, ◌<◌, true, false, ◌&&◌, eqb, List, [], ◌∷◌, ◌++◌, length, get_or, take, sym, refl, ap, ◌∙◌, arith, eq-eqb}
use lib.Bits.{bit_or, bit_xor, and_le_l, and_le_r, or_add_and, xor_add_and, xor_self}
use Rattle.std.proofs.lemmas.List.{take_more, length-take-le}
use Rattle.std.proofs.lemmas.Bool.Decides.{nat_tests}
use Rattle.device.specs.Keys.{same_bytes}

pub same_self : (xs : List ℕ) → same_bytes xs xs ≡ true
same_self [] = refl
same_self (x ∷ xs) = rw (eq-eqb x x refl) (same_self xs)

-- differences stay zero only over equal bytes
pub differ_more : (d x y : ℕ) → eqb (bit_or d (bit_xor x y)) 0 ≡ eqb d 0 && eqb x y
differ_more d x y =
    let o = or_add_and d (bit_xor x y) in
    let l = and_le_l d (bit_xor x y) in
    let r = and_le_r d (bit_xor x y) in
    let e = xor_add_and x y in
    let p = and_le_l x y in
    let q = and_le_r x y in
    let s = xor_self x in
    grind (arith, nat_tests)

same_push : (xs ys : List ℕ) (x y : ℕ) → length xs ≡ length ys → same_bytes (xs ++ (x ∷ [])) (ys ++ (y ∷ [])) ≡ same_bytes xs ys && eqb x y
same_push [] [] x y h = elim (eqb x y) as (λ b. b && true ≡ b) [ true ↦ refl | false ↦ refl ]
same_push [] (b ∷ ys) x y h = absurd (omega arith)
same_push (a ∷ xs) [] x y h = absurd (omega arith)
same_push (a ∷ xs) (b ∷ ys) x y h =
    ap (λ s. eqb a b && s) (same_push xs ys x y (omega arith)) ∙ elim (eqb a b) as (λ t. t && (same_bytes xs ys && eqb x y) ≡ (t && same_bytes xs ys) && eqb x y) [ true ↦ refl | false ↦ refl ]

pub same_more : (xs ys : List ℕ) (i : ℕ) → i < length xs → i < length ys
    → same_bytes (take (i + 1) xs) (take (i + 1) ys) ≡ same_bytes (take i xs) (take i ys) && eqb (get_or xs i 0) (get_or ys i 0)
same_more xs ys i h k =
    ap (λ l. same_bytes l (take (i + 1) ys)) (take_more xs i 0 h) ∙ ap (same_bytes (take i xs ++ (get_or xs i 0 ∷ []))) (take_more ys i 0 k)
    ∙ same_push (take i xs) (take i ys) (get_or xs i 0) (get_or ys i 0) (length-take-le i xs (omega arith) ∙ sym (length-take-le i ys (omega arith)))
