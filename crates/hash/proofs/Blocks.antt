use Rattle.std.proofs.Common.{◌≡◌, ℕ, zero, suc, ◌+◌, ◌*◌, ◌≤◌, List, ◌++◌, length, take, drop, sym, refl, ap, ◌∙◌, add-one, arith}
use Rattle.std.proofs.lemmas.List.{drop-append-le, take-append-le, length-drop, drop_at, drop-drop}
use Rattle.hash.specs.declared.block.Words.{Words}
use Rattle.hash.specs.Compression.{compressed}
use Rattle.hash.specs.Digest.{block, after_blocks}

pub after_more : (s : Words) (bs : List ℕ) (n : ℕ) → after_blocks s bs (n + 1) ≡ compressed (after_blocks s bs n) (block bs n)
after_more s bs n = rw add-one

-- blocks that lie in the front of a list are that front's
pub after_front : (s : Words) (xs ys : List ℕ) (n : ℕ) → 64 * n ≤ length xs → after_blocks s (xs ++ ys) n ≡ after_blocks s xs n
after_front s xs ys zero h = refl
after_front s xs ys (suc n) h =
    let a : 64 * n ≤ length xs = omega arith in
    let b : 64 ≤ length (drop (64 * n) xs) = simp length-drop (omega arith) in
    let e : block (xs ++ ys) n ≡ block xs n = ap (take 64) (drop-append-le (64 * n) xs ys a) ∙ take-append-le 64 (drop (64 * n) xs) ys b in
    ap (λ t. compressed t (block (xs ++ ys) n)) (after_front s xs ys n a) ∙ ap (compressed (after_blocks s xs n)) e

-- blocks after whole blocks go on from their hash value
pub after_rest : (s : Words) (xs ys : List ℕ) (m n : ℕ) → length xs ≡ 64 * m → after_blocks s (xs ++ ys) (m + n) ≡ after_blocks (after_blocks s xs m) ys n
after_rest s xs ys m zero h = ap (after_blocks s (xs ++ ys)) (omega arith) ∙ after_front s xs ys m (omega arith)
after_rest s xs ys m (suc n) h =
    let at : 64 * (m + n) ≡ length xs + 64 * n = omega arith in
    let d : drop (64 * (m + n)) (xs ++ ys) ≡ drop (64 * n) ys =
    ap (λ k. drop k (xs ++ ys)) at ∙ sym (drop-drop (64 * n) (length xs) (xs ++ ys)) ∙ ap (drop (64 * n)) (drop_at xs ys (length xs) refl)
    in
    ap (after_blocks s (xs ++ ys)) (omega arith) ∙ after_more s (xs ++ ys) (m + n) ∙ ap (λ t. compressed t (block (xs ++ ys) (m + n))) (after_rest s xs ys m n h)
    ∙ ap (λ b. compressed (after_blocks (after_blocks s xs m) ys n) (take 64 b)) d
