use Rattle.std.proofs.Common.{◌≡◌, ℕ, zero, suc, ◌+◌, ◌-◌, ◌*◌, ◌<◌, ◌≤◌, List, [], ◌∷◌, ◌++◌, length, get_or, take, sym, refl, ap, ◌∙◌, add-one, arith}
use Rattle.std.proofs.lemmas.List.{get_or-take, length_push, take_all, take-append-le, take-take}
use Rattle.hash.specs.declared.block.Words.{Words}
use Rattle.hash.specs.Bytes.{number_at}
use Rattle.hash.specs.Compression.{words, next_word, schedule, round, rounds}
use Rattle.hash.specs.Constants.{constants, fraction, root}

-- each recursion, one step on
pub words_none : (block : List ℕ) → words block 0 ≡ []
unfolding words
words_none block = refl

pub words_more : (block : List ℕ) (n : ℕ) → words block (n + 1) ≡ words block n ++ number_at 4 block (4 * n) ∷ []
unfolding words
words_more block n = rw add-one

pub schedule_none : (ws : List ℕ) → schedule ws 0 ≡ ws
unfolding schedule
schedule_none ws = refl

pub schedule_more : (ws : List ℕ) (n : ℕ) → schedule ws (n + 1) ≡ schedule ws n ++ next_word (schedule ws n) (16 + n) ∷ []
unfolding schedule
schedule_more ws n = rw add-one

pub rounds_none : (ws : List ℕ) (s : Words) → rounds ws s 0 ≡ s
unfolding rounds
rounds_none ws s = refl

pub rounds_more : (ws : List ℕ) (s : Words) (n : ℕ) → rounds ws s (n + 1) ≡ round (rounds ws s n) (get_or constants n 0) (get_or ws n 0)
unfolding rounds
rounds_more ws s n = rw add-one

-- the next word looks at the words before it alone
pub next_take : (ws : List ℕ) (i : ℕ) → 16 ≤ i → next_word (take i ws) i ≡ next_word ws i
unfolding next_word
next_take ws i h =
    rw (get_or-take i ws (i - 2) 0 (omega arith), get_or-take i ws (i - 7) 0 (omega arith), get_or-take i ws (i - 15) 0 (omega arith), get_or-take i ws (i - 16) 0 (omega arith))

-- the table of the code, computed from its rule
abbrev pub table : List ℕ
table =
    0x428a2f98 ∷ 0x71374491 ∷ 0xb5c0fbcf ∷ 0xe9b5dba5 ∷ 0x3956c25b ∷ 0x59f111f1 ∷ 0x923f82a4 ∷ 0xab1c5ed5 ∷ 0xd807aa98 ∷ 0x12835b01 ∷ 0x243185be ∷ 0x550c7dc3 ∷ 0x72be5d74 ∷ 0x80deb1fe ∷ 0x9bdc06a7 ∷ 0xc19bf174 ∷ 0xe49b69c1 ∷ 0xefbe4786 ∷ 0x0fc19dc6 ∷ 0x240ca1cc ∷ 0x2de92c6f ∷ 0x4a7484aa ∷ 0x5cb0a9dc ∷ 0x76f988da ∷ 0x983e5152 ∷ 0xa831c66d ∷ 0xb00327c8 ∷ 0xbf597fc7 ∷ 0xc6e00bf3 ∷ 0xd5a79147 ∷ 0x06ca6351 ∷ 0x14292967 ∷ 0x27b70a85 ∷ 0x2e1b2138 ∷ 0x4d2c6dfc ∷ 0x53380d13 ∷ 0x650a7354 ∷ 0x766a0abb ∷ 0x81c2c92e ∷ 0x92722c85 ∷ 0xa2bfe8a1 ∷ 0xa81a664b ∷ 0xc24b8b70 ∷ 0xc76c51a3 ∷ 0xd192e819 ∷ 0xd6990624 ∷ 0xf40e3585 ∷ 0x106aa070 ∷ 0x19a4c116 ∷ 0x1e376c08 ∷ 0x2748774c ∷ 0x34b0bcb5 ∷ 0x391c0cb3 ∷ 0x4ed8aa4a ∷ 0x5b9cca4f ∷ 0x682e6ff3 ∷ 0x748f82ee ∷ 0x78a5636f ∷ 0x84c87814 ∷ 0x8cc70208 ∷ 0x90befffa ∷ 0xa4506ceb ∷ 0xbef9a3f7 ∷ 0xc67178f2 ∷ []

pub table_stands : constants ≡ table
unfolding constants fraction root
table_stands = refl

-- one round more, with the constant and the word as the code reads them
pub round_follows : (ws all : List ℕ) (start : Words) {s r : Words} (i j end : ℕ) → i < end → take end ws ≡ take end all → i + 1 ≡ j
    → s ≡ rounds all start i → r ≡ round s (get_or table i 0) (get_or ws i 0) → r ≡ rounds all start j
round_follows ws all start i j end within same next before after =
    let word : get_or ws i 0 ≡ get_or all i 0 = sym (get_or-take end ws i 0 within) ∙ ap (λ l. get_or l i 0) same ∙ get_or-take end all i 0 within in
    after ∙ ap (λ t. round t (get_or table i 0) (get_or ws i 0)) before ∙ ap (λ t. round (rounds all start i) (get_or t i 0) (get_or ws i 0)) (sym table_stands)
    ∙ ap (round (rounds all start i) (get_or constants i 0)) word ∙ sym (rounds_more all start i) ∙ ap (rounds all start) next

pub length-schedule : (first : List ℕ) (n : ℕ) → length (schedule first n) ≡ length first + n
unfolding schedule
length-schedule first zero = omega arith
length-schedule first (suc n) = length_push (schedule first n) _ ∙ omega (arith, length-schedule first n)

-- a longer schedule begins with a shorter one
pub schedule_front : (first : List ℕ) (n more : ℕ) → length first ≡ 16 → take (16 + n) (schedule first (n + more)) ≡ schedule first n
schedule_front first n zero h =
    let e : n + 0 ≡ n = omega arith in
    ap (λ k. take (16 + n) (schedule first k)) e ∙ take_all (16 + n) (schedule first n) (omega (arith, length-schedule first n))
schedule_front first n (suc more) h =
    let e : n + suc more ≡ (n + more) + 1 = omega arith in
    ap (λ k. take (16 + n) (schedule first k)) e ∙ ap (take (16 + n)) (schedule_more first (n + more))
    ∙ take-append-le (16 + n) (schedule first (n + more)) _ (omega (arith, length-schedule first (n + more))) ∙ schedule_front first n more h

-- the words that stand so far are those of the whole schedule
pub stands_so_far : (ws first : List ℕ) (n k : ℕ) → length first ≡ 16 → n ≤ 48 → k ≤ 16 + n → take (16 + n) ws ≡ schedule first n
    → take k ws ≡ take k (schedule first 48)
stands_so_far ws first n k h small near e =
    let whole : n + (48 - n) ≡ 48 = omega arith in
    let f : take (16 + n) ws ≡ take (16 + n) (schedule first 48) = e ∙ sym (schedule_front first n (48 - n) h) ∙ ap (λ m. take (16 + n) (schedule first m)) whole in
    sym (take-take k (16 + n) ws near) ∙ ap (take k) f ∙ take-take k (16 + n) (schedule first 48) near
