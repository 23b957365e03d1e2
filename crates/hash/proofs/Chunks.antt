use Rattle.std.proofs.Common.{◌≡◌, ℕ, zero, suc, ◌+◌, ◌*◌, ◌<◌, ◌≤◌, List, get_or, take, drop, refl, ap, ap₂, ◌∙◌, arith}
use Rattle.std.proofs.lemmas.List.{get_or-take, get_or-drop, drop-drop}
use Rattle.std.specs.Simd.{first_chunks}
use Rattle.hash.specs.Bytes.{number_at}

-- a chunk that the library cuts is the part that begins at its place
pub get_or-chunks : (n k : ℕ) (xs d : List ℕ) (i : ℕ) → i < k → get_or (first_chunks n k xs) i d ≡ take n (drop (n * i) xs)
get_or-chunks n zero xs d i h = absurd (omega arith)
get_or-chunks n (suc k) xs d zero h =
    let at : 0 ≡ n * 0 = omega arith in
    ap (λ j. take n (drop j xs)) at
get_or-chunks n (suc k) xs d (suc i) h =
    let at : n + n * i ≡ n * suc i = omega arith in
    get_or-chunks n k (drop n xs) d i (omega arith) ∙ ap (take n) (drop-drop (n * i) n xs ∙ ap (λ j. drop j xs) at)

-- a number in a part is the number at its place in the whole
pub number_at-part : (w : ℕ) (bs : List ℕ) (n at i : ℕ) → i + w ≤ n → number_at w (take n (drop at bs)) i ≡ number_at w bs (at + i)
number_at-part zero bs n at i h = refl
number_at-part (suc w) bs n at i h =
    let place : at + (i + w) ≡ (at + i) + w = omega arith in
    let byte : get_or (take n (drop at bs)) (i + w) 0 ≡ get_or bs ((at + i) + w) 0 =
    get_or-take n (drop at bs) (i + w) 0 (omega arith) ∙ get_or-drop at bs (i + w) 0 ∙ ap (λ j. get_or bs j 0) place
    in
    ap₂ (λ x y. x * 256 + y) (number_at-part w bs n at i (omega arith)) byte
