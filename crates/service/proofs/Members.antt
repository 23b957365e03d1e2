use Rattle.std.proofs.Common.{◌≡◌, ℕ, zero, suc, ◌+◌, ◌*◌, ◌/◌, ◌%◌, ◌^◌, ◌<◌, ◌≤◌, max, Bool, true, false, cond, not, ◌&&◌, ◌||◌, eqb, sym, refl, ap, ◌∙◌, inl, inr, mod-lt, pow-suc, arith}
use lib.Bits.{bit_or, bit_xor, differ, or_block, xor_block, or_step, xor_step, or_zero_r, xor_zero_r}
use lib.Count.{ones, ones_step, ones_cat, ones-le}
use Rattle.std.proofs.lemmas.Nat.{pow_pos, shr_split, div_below}
use Rattle.std.specs.Int.{bit_at}
use Rattle.std.proofs.lemmas.Nat.Bits.{bit_at_or, bit_at_xor, bit_at-pow_same, bit_at-pow_other, bit_at-lt, bit_at_cat_low}
use Rattle.std.proofs.lemmas.Bool.{eqb-true, eqb-false, eq-eqb, ne_eqb, cases_eq}
use Rattle.service.specs.Sets.{has, with, without, size}
use Rattle.service.specs.Laws.{members, SetsStand}

-- a bit is 0 or 1
by_bit : (P : ℕ → Type 0) → P 0 → P 1 → (b : ℕ) → b < 2 → P b
by_bit P p q zero h = p
by_bit P p q (suc zero) h = q
by_bit P p q (suc (suc b)) h = absurd (omega arith)

-- ---- members

-- the bits of a power of two
pow_bit : (c d : ℕ) → bit_at (2 ^ c) d ≡ cond (eqb c d) 1 0
pow_bit c d =
    elim (cases_eq c d) [
      | inl e ↦ rw (eq-eqb c d e, ← e) (bit_at-pow_same c)
      | inr ne ↦ rw (ne_eqb c d ne) (bit_at-pow_other c d (λ e. ne (sym e)))
    ]

or_bit : (b : ℕ) (t : Bool) → b < 2 → eqb (max b (cond t 1 0)) 1 ≡ (t || eqb b 1)
or_bit b true h = by_bit (λ b. eqb (max b 1) 1 ≡ true) refl refl b h
or_bit b false h = by_bit (λ b. eqb (max b 0) 1 ≡ eqb b 1) refl refl b h

xor_bit : (b : ℕ) (t : Bool) → b < 2 → (t ≡ true → b ≡ 1) → eqb ((b + cond t 1 0) % 2) 1 ≡ (not t && eqb b 1)
xor_bit b true h one = rw (one refl)
xor_bit b false h one = by_bit (λ b. eqb ((b + 0) % 2) 1 ≡ eqb b 1) refl refl b h

adds : (set c d : ℕ) → has (with set c) d ≡ (eqb c d || has set d)
adds set c d = rw (bit_at_or set (2 ^ c) d, pow_bit c d) (or_bit (bit_at set d) (eqb c d) (bit_at-lt set d))

takes : (set c d : ℕ) → has set c ≡ true → has (without set c) d ≡ (not (eqb c d) && has set d)
takes set c d h =
    let one : eqb c d ≡ true → bit_at set d ≡ 1 = λ e. ap (bit_at set) (sym (eqb-true c d e)) ∙ eqb-true (bit_at set c) 1 h in
    rw (bit_at_xor set (2 ^ c) d, pow_bit c d) (xor_bit (bit_at set d) (eqb c d) (bit_at-lt set d) one)

-- ---- sizes

one_block : (c : ℕ) → 2 ^ c ≡ 1 * 2 ^ c + 0
one_block c = omega arith

-- a set, cut at a client
module _ (s c : ℕ) where
  low_lt : s % 2 ^ c < 2 ^ c
  low_lt = mod-lt s (pow_pos c)

  ones_cut : (a : ℕ) → ones (a * 2 ^ c + s % 2 ^ c) ≡ ones a + ones (s % 2 ^ c)
  ones_cut a = ones_cat c a (s % 2 ^ c) low_lt

  size_cut : size s ≡ ones (s / 2 ^ c) + ones (s % 2 ^ c)
  size_cut = ap ones (sym (shr_split s c)) ∙ ones_cut (s / 2 ^ c)

  with_cut : with s c ≡ bit_or (s / 2 ^ c) 1 * 2 ^ c + s % 2 ^ c
  with_cut =
      ap (λ x. bit_or x (2 ^ c)) (sym (shr_split s c)) ∙ ap (bit_or (s / 2 ^ c * 2 ^ c + s % 2 ^ c)) (one_block c)
      ∙ or_block c (s / 2 ^ c) 1 (s % 2 ^ c) 0 low_lt (pow_pos c) ∙ ap (λ r. bit_or (s / 2 ^ c) 1 * 2 ^ c + r) (or_zero_r (s % 2 ^ c))

  without_cut : without s c ≡ bit_xor (s / 2 ^ c) 1 * 2 ^ c + s % 2 ^ c
  without_cut =
      ap (λ x. bit_xor x (2 ^ c)) (sym (shr_split s c)) ∙ ap (bit_xor (s / 2 ^ c * 2 ^ c + s % 2 ^ c)) (one_block c)
      ∙ xor_block c (s / 2 ^ c) 1 (s % 2 ^ c) 0 low_lt (pow_pos c) ∙ ap (λ r. bit_xor (s / 2 ^ c) 1 * 2 ^ c + r) (xor_zero_r (s % 2 ^ c))

-- the lowest bit set, and cleared
ones_set : (a : ℕ) → a % 2 ≡ 0 → ones (bit_or a 1) ≡ ones a + 1
ones_set a even =
    let n = bit_or a 1 in
    let is : n ≡ a / 2 * 2 + 1 =
    or_step a 1 ∙ ap (λ h. h * 2 + max (a % 2) 1) (or_zero_r (a / 2)) ∙ ap (λ b. a / 2 * 2 + max b 1) even
    in
    let half : n / 2 ≡ a / 2 = omega arith in
    ones_step n ∙ omega (arith, ones_step a, ap ones half)

ones_cleared : (a : ℕ) → a % 2 ≡ 1 → ones (bit_xor a 1) + 1 ≡ ones a
ones_cleared a odd =
    let n = bit_xor a 1 in
    let is : n ≡ a / 2 * 2 + 0 =
    xor_step a 1 ∙ ap (λ h. h * 2 + differ (a % 2) 1) (xor_zero_r (a / 2)) ∙ ap (λ b. a / 2 * 2 + differ b 1) odd
    in
    let half : n / 2 ≡ a / 2 = omega arith in
    omega (arith, ones_step n, ones_step a, ap ones half)

pub size_with : (s c : ℕ) → has s c ≡ false → size (with s c) ≡ size s + 1
size_with s c h =
    let even : s / 2 ^ c % 2 ≡ 0 = omega (arith, eqb-false (s / 2 ^ c % 2) 1 h) in
    ap ones (with_cut s c) ∙ ones_cut s c (bit_or (s / 2 ^ c) 1) ∙ omega (arith, ones_set (s / 2 ^ c) even, size_cut s c)

pub size_without : (s c : ℕ) → has s c ≡ true → size (without s c) + 1 ≡ size s
size_without s c h =
    omega (arith, ap ones (without_cut s c), ones_cut s c (bit_xor (s / 2 ^ c) 1), ones_cleared (s / 2 ^ c) (eqb-true (s / 2 ^ c % 2) 1 h), size_cut s c)

-- ---- the size counts the members

-- the bits below n stand in the remainder
bit_low : (n j s : ℕ) → j < n → bit_at (s % 2 ^ n) j ≡ bit_at s j
bit_low n j s h = sym (bit_at_cat_low (s / 2 ^ n) n (s % 2 ^ n) j h) ∙ ap (λ x. bit_at x j) (shr_split s n)

members_low : (n k s : ℕ) → k ≤ n → members (s % 2 ^ n) k ≡ members s k
members_low n zero s h = refl
members_low n (suc k) s h =
    ap (λ b. cond (eqb b 1) 1 0 + members (s % 2 ^ n) k) (bit_low n k s (omega arith)) ∙ ap (λ m. cond (has s k) 1 0 + m) (members_low n k s (omega arith))

ones_bit : (b : ℕ) → b < 2 → ones b ≡ cond (eqb (b % 2) 1) 1 0
ones_bit b h =
    let none : ones 0 ≡ 0 = omega (arith, ones-le 0 0 (omega arith)) in
    by_bit (λ b. ones b ≡ cond (eqb (b % 2) 1) 1 0) none (ones_step 1 ∙ ap (λ n. 1 + n) none) b h

counts : (n set : ℕ) → set < 2 ^ n → size set ≡ members set n
counts zero set h = omega (arith, ones-le 0 set h)
counts (suc n) set h =
    let top : set / 2 ^ n < 2 = div_below set (2 ^ n) 2 (pow_pos n) (omega (arith, pow-suc 2 n)) in
    let low : size (set % 2 ^ n) ≡ members set n = counts n (set % 2 ^ n) (mod-lt set (pow_pos n)) ∙ members_low n n set (omega arith) in
    size_cut set n ∙ ap (λ a. a + size (set % 2 ^ n)) (ones_bit (set / 2 ^ n) top) ∙ ap (λ m. cond (has set n) 1 0 + m) low

pub sets_stand : SetsStand
sets_stand = record { adds = adds; takes = takes; counts = counts }
