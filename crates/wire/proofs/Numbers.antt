-- Numbers as bytes, and back, over any width.
use Rattle.std.proofs.Common.{◌≡◌, ℕ, zero, suc, ◌+◌, ◌*◌, ◌/◌, ◌%◌, ◌^◌, ◌<◌, ◌≤◌, List, [], ◌∷◌, ◌++◌, length, get_or, drop, sym, refl, ap, ◌∙◌, append_assoc, pow-suc, div-add-mod', arith}
use native.Mathlib.Nat.{pow-succ', div-div-eq-div-mul}
use Rattle.std.proofs.lemmas.List.{drop_more, get_or_append_left, get_or_at}
use Rattle.hash.specs.Bytes.{big_endian, number_at}
use Rattle.wire.specs.Laws.{Bytes}

-- the last byte of a number
pub big_endian_push : (w a b : ℕ) → b < 256 → big_endian (suc w) (a * 256 + b) ≡ big_endian w a ++ (b ∷ [])
big_endian_push zero a b h = ap (λ x. x ∷ []) (omega arith)
big_endian_push (suc zero) a b h =
    let high : (a * 256 + b) / 256 % 256 ≡ a % 256 = omega arith in
    let low : (a * 256 + b) % 256 ≡ b = omega arith in
    cc
big_endian_push (suc (suc w)) a b h =
    let by : (a * 256 + b) / 256 ≡ a = omega arith in
    let high : (a * 256 + b) / 256 ^ suc (suc w) ≡ a / 256 ^ suc w =
    ap (λ k. (a * 256 + b) / k) (pow-succ' 256 (suc w)) ∙ sym (div-div-eq-div-mul (a * 256 + b) 256 (256 ^ suc w)) ∙ ap (λ k. k / 256 ^ suc w) by in
    ap (λ k. k % 256 ∷ big_endian (suc (suc w)) (a * 256 + b)) high ∙ ap (λ l. a / 256 ^ suc w % 256 ∷ l) (big_endian_push (suc w) a b h)

-- the bytes of the number that stands at a place are those that stand there
pub number_back : (w : ℕ) (bs : List ℕ) (at : ℕ) → Bytes bs → at + w ≤ length bs → big_endian w (number_at w bs at) ++ drop (at + w) bs ≡ drop at bs
number_back zero bs at fit h = ap (λ k. drop k bs) (omega arith)
number_back (suc w) bs at fit h =
    let n = number_at w bs at in
    let b = get_or bs (at + w) 0 in
    let next : at + suc w ≡ at + w + 1 = omega arith in
    ap (λ l. l ++ drop (at + suc w) bs) (big_endian_push w n b (fit (at + w)))
    ∙ append_assoc (big_endian w n) (b ∷ []) (drop (at + suc w) bs)
    ∙ ap (λ k. big_endian w n ++ (b ∷ drop k bs)) next
    ∙ ap (λ l. big_endian w n ++ l) (sym (drop_more bs (at + w) 0 (omega arith)))
    ∙ number_back w bs at fit (omega arith)

-- a number in w bytes is below 256 ^ w
pub number_below : (w : ℕ) (bs : List ℕ) (at : ℕ) → Bytes bs → number_at w bs at < 256 ^ w
number_below zero bs at fit = omega arith
number_below (suc w) bs at fit =
    let h = number_below w bs at fit in
    let b = fit (at + w) in
    let p : 256 ^ suc w ≡ 256 ^ w * 256 = pow-suc 256 w in
    omega arith

pub length-big_endian : (w n : ℕ) → length (big_endian w n) ≡ w
length-big_endian zero n = refl
length-big_endian (suc zero) n = refl
length-big_endian (suc (suc w)) n = ap suc (length-big_endian (suc w) n)

number_front : (w : ℕ) (xs ys : List ℕ) → w ≤ length xs → number_at w (xs ++ ys) 0 ≡ number_at w xs 0
number_front zero xs ys h = refl
number_front (suc w) xs ys h =
    let before = number_front w xs ys (omega arith) in
    let here = get_or_append_left xs ys 0 (0 + w) (omega arith) in
    ap (λ n. n * 256 + get_or (xs ++ ys) (0 + w) 0) before ∙ ap (λ b. number_at w xs 0 * 256 + b) here

-- a number that was written is read
pub number_read : (w n : ℕ) → n < 256 ^ w → number_at w (big_endian w n) 0 ≡ n
number_read zero n h = omega arith
number_read (suc w) n h =
    let q = n / 256 in
    let r = n % 256 in
    let long : length (big_endian w q) ≡ w = length-big_endian w q in
    let p : 256 ^ suc w ≡ 256 ^ w * 256 = pow-suc 256 w in
    let small : q < 256 ^ w = omega arith in
    let whole : n ≡ q * 256 + r = sym (div-add-mod' n 256) in
    let bytes : big_endian (suc w) n ≡ big_endian w q ++ (r ∷ []) = ap (big_endian (suc w)) whole ∙ big_endian_push w q r (omega arith) in
    let front : number_at w (big_endian w q ++ (r ∷ [])) 0 ≡ q = number_front w (big_endian w q) (r ∷ []) (omega arith) ∙ number_read w q small in
    let last : get_or (big_endian w q ++ (r ∷ [])) (0 + w) 0 ≡ r = get_or_at (big_endian w q) r [] 0 (0 + w) (omega arith) in
    ap (λ l. number_at (suc w) l 0) bytes ∙ ap (λ k. k * 256 + get_or (big_endian w q ++ (r ∷ [])) (0 + w) 0) front ∙ ap (λ b. q * 256 + b) last ∙ sym whole
