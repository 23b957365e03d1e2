use Rattle.std.proofs.Common.{◌≡◌, ℕ, ◌+◌, ◌-◌, ◌/◌, ◌≤◌, cond, leb, List, ◌++◌, length, sym, ap, ◌∙◌, arith}
use Rattle.std.proofs.lemmas.List.{append_assoc, length-append, length-map, length-replicate, take_all}
use Rattle.std.proofs.lemmas.Bool.{leb-true, cond_both}
use Rattle.hash.specs.Compression.{compressed}
use Rattle.hash.specs.Constants.{initial}
use Rattle.hash.specs.Digest.{padding, after_blocks, after_all, bytes_of, sha256, resumed}
use Rattle.hash.specs.Hmac.{filled, block_key, mixed, hmac, TagsAsKey}
use Rattle.hash.proofs.Blocks.{after_more, after_rest}

-- a hash that goes on after one block is the hash of the whole
pub resumed_block : (b text : List ℕ) → length b ≡ 64 → resumed (compressed initial b) 64 text ≡ sha256 (b ++ text)
unfolding resumed sha256
resumed_block b text long =
    let all = length (b ++ text) in
    let size : 64 + length text ≡ all = omega (arith, length-append b text) in
    let rest = text ++ padding all in
    let first : compressed initial b ≡ after_blocks initial b 1 =
    sym (after_more initial b 0 ∙ ap (compressed initial) (take_all 64 b (omega arith)))
    in
    let count : 1 + length rest / 64 ≡ length ((b ++ text) ++ padding all) / 64 =
    omega (arith, length-append (b ++ text) (padding all), length-append b text, length-append text (padding all))
    in
    ap bytes_of
    (ap (λ n. after_all (compressed initial b) (text ++ padding n)) size ∙ ap (λ v. after_all v rest) first ∙ sym (after_rest initial b rest 1 (length rest / 64) long)
    ∙ ap (λ l. after_blocks initial l (1 + length rest / 64)) (sym (append_assoc b text (padding all))) ∙ ap (after_blocks initial ((b ++ text) ++ padding all)) count)

pub length-filled : (bytes : List ℕ) → length bytes ≤ 64 → length (filled bytes) ≡ 64
length-filled bytes h = length-append bytes _ ∙ omega (arith, length-replicate {A = ℕ} (64 - length bytes) 0)

length-sha256 : (m : List ℕ) → length (sha256 m) ≤ 64
unfolding sha256
length-sha256 m = omega arith

length-mixed : (key : List ℕ) (b : ℕ) → length (mixed (block_key key) b) ≡ 64
length-mixed key b =
    length-map (block_key key) _
    ∙ length-filled (cond (leb (length key) 64) key (sha256 key))
    (cond_both (leb (length key) 64) key (sha256 key) (λ k. length k ≤ 64) (λ e. leb-true (length key) 64 e) (λ e. length-sha256 key))

pub tags_as_key : TagsAsKey
unfolding hmac
tags_as_key key text =
    resumed_block (mixed (block_key key) 0x5c) _ (length-mixed key 0x5c)
    ∙ ap (λ d. sha256 (mixed (block_key key) 0x5c ++ d)) (resumed_block (mixed (block_key key) 0x36) text (length-mixed key 0x36))
