use Rattle.std.proofs.Common.{◌≡◌, ℕ, ◌-◌, ◌*◌, ◌/◌, ◌%◌, ◌^◌, List, ◌∷◌, ◌++◌, replicate, ap, ◌∙◌, arith}
use Rattle.hash.specs.Bytes.{big_endian}
use Rattle.hash.specs.Digest.{padding}

-- eight bytes hold the low 64 bits
pub eight_low : (a b : ℕ) → a % 2 ^ 64 ≡ b % 2 ^ 64 → big_endian 8 a ≡ big_endian 8 b
eight_low a b e =
    let e7 : a / 72057594037927936 % 256 ≡ b / 72057594037927936 % 256 = omega arith in
    let e6 : a / 281474976710656 % 256 ≡ b / 281474976710656 % 256 = omega arith in
    let e5 : a / 1099511627776 % 256 ≡ b / 1099511627776 % 256 = omega arith in
    let e4 : a / 4294967296 % 256 ≡ b / 4294967296 % 256 = omega arith in
    let e3 : a / 16777216 % 256 ≡ b / 16777216 % 256 = omega arith in
    let e2 : a / 65536 % 256 ≡ b / 65536 % 256 = omega arith in
    let e1 : a / 256 % 256 ≡ b / 256 % 256 = omega arith in
    let e0 : a % 256 ≡ b % 256 = omega arith in
    cc

-- and so does the padding
pub padding_low : (n : ℕ) → padding (n % 2 ^ 64) ≡ padding n
unfolding padding
padding_low n =
    let z : n % 2 ^ 64 % 64 ≡ n % 64 = omega arith in
    let b : big_endian 8 (8 * (n % 2 ^ 64)) ≡ big_endian 8 (8 * n) = eight_low _ _ (omega arith) in
    ap (λ k. 128 ∷ (replicate ((119 - k) % 64) 0 ++ big_endian 8 (8 * (n % 2 ^ 64)))) z ∙ ap (λ t. 128 ∷ (replicate ((119 - n % 64) % 64) 0 ++ t)) b

-- the end of a message as the code lays it out
pub padding_laid : (len z : ℕ) (tail bits out : List ℕ) → z ≡ (119 - len % 64) % 64 → bits ≡ big_endian 8 (len * 8 % 2 ^ 64)
    → out ≡ tail ++ (128 ∷ (replicate z 0 ++ bits)) → out ≡ tail ++ padding len
unfolding padding
padding_laid len z tail bits out size b e =
    let low : big_endian 8 (len * 8 % 2 ^ 64) ≡ big_endian 8 (8 * len) = eight_low _ _ (omega arith) in
    e ∙ ap (λ k. tail ++ (128 ∷ (replicate k 0 ++ bits))) size ∙ ap (λ t. tail ++ (128 ∷ (replicate ((119 - len % 64) % 64) 0 ++ t))) (b ∙ low)
