use Rattle.std.proofs.Common.{◌≡◌, ℕ, zero, suc, ◌-◌, ◌/◌, ◌%◌, ◌^◌, ◌<◌, sym, refl, ◌∙◌, ap₂, mod-eq_of_lt, arith}
use lib.Arith.{bin_ind}
use lib.Bits.{bit_and, bit_xor, and_comm, xor_comm, xor_assoc, xor_add_and, and_mask, and_shr, xor_shr, and_mod, xor_mod}

one_and : (n : ℕ) → bit_and 1 n ≡ n % 2
one_and n = and_comm 1 n ∙ and_mask n 1

bit_and_xor : (x y z : ℕ) → x < 2 → bit_and x (bit_xor y z) ≡ bit_xor (bit_and x y) (bit_and x z)
bit_and_xor zero y z h = refl
bit_and_xor (suc zero) y z h = one_and (bit_xor y z) ∙ xor_mod y z 1 ∙ ap₂ bit_xor (sym (one_and y)) (sym (one_and z))
bit_and_xor (suc (suc x)) y z h = absurd (omega arith)

-- `and` goes into an exclusive or, in the lowest bit and in the bits above it
and_xor : (x y z : ℕ) → bit_and x (bit_xor y z) ≡ bit_xor (bit_and x y) (bit_and x z)
and_xor =
    bin_ind (λ (x : ℕ). (y z : ℕ) → bit_and x (bit_xor y z) ≡ bit_xor (bit_and x y) (bit_and x z)) (λ y z. refl)
    (λ x above y z.
    let l = bit_and x (bit_xor y z) in
    let r = bit_xor (bit_and x y) (bit_and x z) in
    let high : l / 2 ≡ r / 2 = cc (and_shr x (bit_xor y z) 1, xor_shr y z 1, above (y / 2) (z / 2), xor_shr (bit_and x y) (bit_and x z) 1, and_shr x y 1, and_shr x z 1) in
    let low : l % 2 ≡ r % 2 =
    cc (and_mod x (bit_xor y z) 1, xor_mod y z 1, bit_and_xor (x % 2) (y % 2) (z % 2) (omega arith), xor_mod (bit_and x y) (bit_and x z) 1, and_mod x y 1, and_mod x z 1)
    in
    omega arith)

-- the complement of k bits is the exclusive or with k ones
complement_xor : (k x : ℕ) → x < 2 ^ k → (2 ^ k - 1) - x ≡ bit_xor x (2 ^ k - 1)
complement_xor k x h = omega (arith, xor_add_and x (2 ^ k - 1), and_mask x k, mod-eq_of_lt h)

-- the bits of x choose between those of y and z, with no complement
pub choice : (k x y z : ℕ) → x < 2 ^ k → z < 2 ^ k → bit_xor z (bit_and x (bit_xor y z)) ≡ bit_xor (bit_and x y) (bit_and ((2 ^ k - 1) - x) z)
choice k x y z hx hz =
    let ones = 2 ^ k - 1 in
    let left : bit_and (ones - x) z ≡ bit_xor (bit_and x z) z =
    cc (complement_xor k x hx, and_comm (ones - x) z, and_xor z x ones, and_comm z x, and_mask z k, mod-eq_of_lt hz)
    in
    cc (left, and_xor x y z, xor_comm z (bit_and x (bit_xor y z)), xor_assoc (bit_and x y) (bit_and x z) z)
