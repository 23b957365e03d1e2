use Rattle.std.proofs.Common.{◌≡◌, ℕ, ◌+◌, ◌*◌, ◌/◌, ◌%◌, ◌^◌, ◌<◌, ◌≤◌, List, ◌++◌, length, take, drop, sym, refl, ap, ◌∙◌, arith}
use Rattle.std.proofs.lemmas.List.{append_assoc, length-append, length-drop, length-take-le, take-append-drop, drop-append-le, drop_at, drop_all, drop-drop, take_all}
use Rattle.hash.specs.declared.block.Words.{Words}
use Rattle.hash.specs.declared.sha.Hasher.{Hasher}
use Rattle.hash.specs.Compression.{compressed}
use Rattle.hash.specs.Digest.{padding, block, after_blocks, after_all}
use Rattle.hash.specs.Taken.{Took}
use Rattle.hash.proofs.Blocks.{after_more, after_front, after_rest}
use Rattle.hash.proofs.Paddings.{padding_low}

module _ (s : Words) (before : ℕ) (h : Hasher) (m bytes tail : List ℕ) (took : Took s before h m) where
  -- the kept bytes are as many as the count says
  pub kept_size : h.len % 64 ≡ length m % 64
  kept_size = omega (arith, took.count, took.whole)

  counted : (n : ℕ) → n ≡ length bytes → (h.len + n) % 2 ^ 64 ≡ (before + length (m ++ bytes)) % 2 ^ 64
  counted n e = omega (arith, took.count, length-append m bytes)

  -- bytes that do not fill the block
  pub took_some : (n : ℕ) → n ≡ length bytes → length m % 64 + length bytes < 64
      → take (length m % 64 + length bytes) tail ≡ take (length m % 64) h.tail ++ bytes
      → Took s before (record { state = h.state; tail = tail; len = (h.len + n) % 2 ^ 64 }) (m ++ bytes)
  took_some n size few laid =
      let l : length (m ++ bytes) ≡ length m + length bytes = length-append m bytes in
      let q : length (m ++ bytes) / 64 ≡ length m / 64 = omega arith in
      let r : length (m ++ bytes) % 64 ≡ length m % 64 + length bytes = omega arith in
      let front : 64 * (length m / 64) ≤ length m = omega arith in
      record {
        whole = took.whole;
        value = took.value ∙ sym (after_front s m bytes (length m / 64) front) ∙ ap (after_blocks s (m ++ bytes)) (sym q);
        rest =
            ap (λ k. take k tail) r ∙ laid ∙ ap (λ t. t ++ bytes) took.rest ∙ sym (drop-append-le (64 * (length m / 64)) m bytes front)
            ∙ ap (λ k. drop (64 * k) (m ++ bytes)) (sym q);
        count = counted n size;
      }

  -- bytes that just fill the block
  pub took_block : (n : ℕ) → n ≡ length bytes → length m % 64 + length bytes ≡ 64 → 0 < length m % 64
      → tail ≡ take (length m % 64) h.tail ++ bytes
      → (t : Words) → t ≡ compressed h.state tail
      → Took s before (record { state = t; tail = tail; len = (h.len + n) % 2 ^ 64 }) (m ++ bytes)
  took_block n size full some laid t e =
      let l : length (m ++ bytes) ≡ length m + length bytes = length-append m bytes in
      let k = length m / 64 in
      let q : length (m ++ bytes) / 64 ≡ k + 1 = omega arith in
      let r : length (m ++ bytes) % 64 ≡ 0 = omega arith in
      let front : 64 * k ≤ length m = omega arith in
      let d : drop (64 * k) (m ++ bytes) ≡ tail = drop-append-le (64 * k) m bytes front ∙ ap (λ t. t ++ bytes) (sym took.rest) ∙ sym laid in
      let long : length tail ≡ 64 = ap length (sym d) ∙ length-drop (64 * k) (m ++ bytes) ∙ omega arith in
      let b : block (m ++ bytes) k ≡ tail = ap (take 64) d ∙ take_all 64 tail (omega arith) in
      record {
        whole = took.whole;
        value =
            e ∙ ap (λ v. compressed v tail) (took.value ∙ sym (after_front s m bytes k front)) ∙ ap (compressed (after_blocks s (m ++ bytes) k)) (sym b)
            ∙ sym (after_more s (m ++ bytes) k) ∙ ap (after_blocks s (m ++ bytes)) (sym q);
        rest = ap (λ k. take k tail) r ∙ sym (drop_all (64 * (length (m ++ bytes) / 64)) (m ++ bytes) (omega arith));
        count = counted n size;
      }

  -- bytes after whole blocks
  pub took_rest : (n : ℕ) → n ≡ length bytes → length m % 64 ≡ 0
      → take (length bytes % 64) tail ≡ drop (64 * (length bytes / 64)) bytes
      → (t : Words) → t ≡ after_all h.state bytes
      → Took s before (record { state = t; tail = tail; len = (h.len + n) % 2 ^ 64 }) (m ++ bytes)
  took_rest n size even laid t e =
      let l : length (m ++ bytes) ≡ length m + length bytes = length-append m bytes in
      let k = length m / 64 in
      let j = length bytes / 64 in
      let q : length (m ++ bytes) / 64 ≡ k + j = omega arith in
      let r : length (m ++ bytes) % 64 ≡ length bytes % 64 = omega arith in
      let whole-m : length m ≡ 64 * k = omega arith in
      let at : length m + 64 * j ≡ 64 * (length (m ++ bytes) / 64) = omega arith in
      let d : drop (64 * j) bytes ≡ drop (64 * (length (m ++ bytes) / 64)) (m ++ bytes) =
      ap (drop (64 * j)) (sym (drop_at m bytes (length m) refl)) ∙ drop-drop (64 * j) (length m) (m ++ bytes) ∙ ap (λ i. drop i (m ++ bytes)) at
      in
      record {
        whole = took.whole;
        value = e ∙ ap (λ v. after_blocks v bytes j) took.value ∙ sym (after_rest s m bytes k j whole-m) ∙ ap (after_blocks s (m ++ bytes)) (sym q);
        rest = ap (λ i. take i tail) r ∙ laid ∙ d;
        count = counted n size;
      }

-- what is left to hash is the kept bytes and the padding
pub took_all : (s : Words) (before : ℕ) (h : Hasher) (m : List ℕ) → Took s before h m
    → after_all h.state (take (h.len % 64) h.tail ++ padding h.len) ≡ after_all s (m ++ padding (before + length m))
took_all s before h m took =
    let q = length m / 64 in
    let pad = padding (before + length m) in
    let front = take (64 * q) m in
    let rest = drop (64 * q) m in
    let split : front ++ rest ≡ m = take-append-drop (64 * q) m in
    let kept : take (h.len % 64) h.tail ≡ rest = ap (λ k. take k h.tail) (kept_size s before h m m m took) ∙ took.rest in
    let end : padding h.len ≡ pad = ap padding took.count ∙ padding_low (before + length m) in
    let long : length front ≡ 64 * q = length-take-le (64 * q) m (omega arith) in
    let j = length (rest ++ pad) / 64 in
    let count : length (m ++ pad) / 64 ≡ q + j = omega (arith, length-append m pad, length-append rest pad, length-drop (64 * q) m) in
    let value : after_blocks s m q ≡ after_blocks s front q = ap (λ l. after_blocks s l q) (sym split) ∙ after_front s front rest q (omega arith) in
    ap (λ t. after_all h.state (t ++ padding h.len)) kept ∙ ap (λ p. after_all h.state (rest ++ p)) end
    ∙ ap (λ v. after_blocks v (rest ++ pad) j) (took.value ∙ value) ∙ sym (after_rest s front (rest ++ pad) q j long)
    ∙ ap (λ l. after_blocks s l (q + j)) (sym (append_assoc front rest pad) ∙ ap (λ l. l ++ pad) split) ∙ ap (after_blocks s (m ++ pad)) (sym count)
