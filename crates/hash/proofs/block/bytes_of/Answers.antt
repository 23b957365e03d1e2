use Rattle.std.proofs.Common.{◌≡◌, map, [], ◌∷◌, ap, ◌∙◌, rules}
use Rattle.std.specs.List.{flat_map}
use Rattle.hash.specs.Bytes.{big_endian}
use Rattle.hash.proofs.Maps.{map-same}
use Rattle.hash.proofs.block.bytes_of.Goals as goal

pub returns : goal.returns
returns c =
    let s = c.args.s in
    let words = s.a ∷ s.b ∷ s.c ∷ s.d ∷ s.e ∷ s.f ∷ s.g ∷ s.h ∷ [] in
    let fours : c.map.result ≡ map (big_endian 4) words = map-same _ (big_endian 4) _ (λ x y q k. search rules) _ _ 8 (search rules) c.map.ensures.items in
    let all = rw c.unwrap.ensures at c.as_array.ensures.cases in
    all.same ∙ c.as_flattened.ensures.value ∙ ap (flat_map (λ x. x)) fours
