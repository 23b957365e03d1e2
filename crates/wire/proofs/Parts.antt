-- What a part of some bytes says is what stands at its place in the whole.
use Rattle.std.proofs.Common.{◌≡◌, ℕ, ◌+◌, List, get_or, take, drop, ap, ◌∙◌, arith}
use Rattle.std.proofs.lemmas.List.{get_or-take, get_or-drop, drop-drop, take-take, drop-take}
use Rattle.hash.specs.Bytes.{number_at}
use Rattle.hash.proofs.Chunks.{number_at-part}
use Rattle.wire.specs.Messages.{request_at, digest_at, pair_at}

pub request_part : (bs : List ℕ) (at : ℕ) → request_at (take 16 (drop at bs)) 0 ≡ request_at bs at
request_part bs at =
    let here : at + 0 ≡ at = omega arith in
    let c = number_at-part 2 bs 16 at 0 (omega arith) ∙ ap (number_at 2 bs) here in
    let n = number_at-part 4 bs 16 at 2 (omega arith) in
    let rest = ap (take 10) (drop-take 6 10 (drop at bs)) ∙ take-take 10 10 (drop 6 (drop at bs)) (omega arith) ∙ ap (take 10) (drop-drop 6 at bs) in
    λ i. record { client = c i; number = n i; command = rest i }

pub digest_part : (bs : List ℕ) (at : ℕ) → digest_at (take 32 (drop at bs)) 0 ≡ digest_at bs at
digest_part bs at =
    let here : at + 0 ≡ at = omega arith in
    let a = number_at-part 8 bs 32 at 0 (omega arith) ∙ ap (number_at 8 bs) here in
    let b = number_at-part 8 bs 32 at 8 (omega arith) in
    let c = number_at-part 8 bs 32 at 16 (omega arith) in
    let d = number_at-part 8 bs 32 at 24 (omega arith) in
    λ i. record { first = a i; second = b i; third = c i; fourth = d i }

pub pair_part : (bs : List ℕ) (at : ℕ) → pair_at (take 5 (drop at bs)) 0 ≡ pair_at bs at
pair_part bs at =
    let here : at + 0 ≡ at = omega arith in
    let r = get_or-take 5 (drop at bs) 0 0 (omega arith) ∙ get_or-drop at bs 0 0 ∙ ap (λ k. get_or bs k 0) here in
    let n = number_at-part 4 bs 5 at 1 (omega arith) in
    λ i. record { replica = r i; count = n i }
