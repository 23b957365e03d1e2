use Rattle.std.proofs.Common.{◌≡◌, ℕ, ◌+◌, ◌-◌, ◌<◌, ◌≤◌, List, [], ◌∷◌, ◌++◌, get_or, length, take, drop, ap, ◌∙◌, arith}
use Rattle.std.proofs.lemmas.List.{get_or-take, get_or-drop, length-take-le, length-drop, length_push}
use Rattle.std.proofs.lemmas.Slice.Zip.{zip_turn}
use Rattle.hash.specs.Compression.{round}
use Rattle.hash.proofs.Steps.{table, round_follows}
use Rattle.hash.proofs.block.Words.eight_rounds.Goals as goal

-- what a range of eight of 64 words holds
eight_from : (i : ℕ) (xs : List ℕ) → length xs ≡ 64 → i + 8 ≤ 64 → length (take 8 (drop i xs)) ≡ 8
eight_from i xs long within = length-take-le 8 (drop i xs) (omega (arith, length-drop i xs))

at_place : (i n : ℕ) (xs : List ℕ) → n < 8 → get_or (take 8 (drop i xs)) n 0 ≡ get_or xs (i + n) 0
at_place i n xs below = get_or-take 8 (drop i xs) n 0 below ∙ get_or-drop i xs n 0

pub loop-k-preserved : goal.loop-k-preserved
loop-k-preserved c all start same at =
    let i = c.args.i in
    let xs = c.args.ws.now in
    let n = length c.loop-k.yielded in
    let eight : (i + 8) - i ≡ 8 = omega arith in
    let s = c.into_iter-k-iterator in
    let ks : s.result.a.rest.now ≡ take 8 (drop i table) =
    ap (λ z. z.a.rest.now) s.ensures.into_iter_gives ∙ ap (λ a. a.rest.now) c.zip-k-items.ensures.first ∙ c.iter.ensures.rest ∙ ap (λ m. take m (drop i table)) eight
    in
    let vs : s.result.b.rest.now ≡ take 8 (drop i xs) = ap (λ z. z.b.rest.now) s.ensures.into_iter_gives ∙ c.zip-k-items.ensures.second.0 ∙ ap (λ m. take m (drop i xs)) eight in
    let turn =
    zip_turn _ _ c.loop-k.yielded s.result c.loop-k.k-iterator c.next.new.self c.next.result ks vs c.loop-k.yielded_by (c.in-Some.k, c.in-Some.w) c.in-Some.is c.next.ensures.steps
    in
    let below : n < 8 = omega (arith, turn.1, eight_from i xs c.told-ws c.requires) in
    let k : c.in-Some.k.now ≡ get_or table (i + n) 0 = turn.2 0 ∙ at_place i n table below in
    let w : c.in-Some.w.now ≡ get_or xs (i + n) 0 = turn.3 0 ∙ at_place i n xs below in
    let more : (i + n) + 1 ≡ i + length (c.loop-k.yielded ++ (c.in-Some.k, c.in-Some.w) ∷ []) = omega (arith, length_push c.loop-k.yielded (c.in-Some.k, c.in-Some.w)) in
    round_follows xs all start (i + n) _ (i + 8) (omega arith) same more (c.loop-k.invariant all start same at)
    (c.round-s.ensures ∙ ap (λ x. round c.loop-k.s x c.in-Some.w.now) k ∙ ap (round c.loop-k.s (get_or table (i + n) 0)) w)
