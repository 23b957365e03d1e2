use Rattle.std.proofs.Common.{◌≡◌, ℕ, ◌<◌, List, map, get_or, ap, ◌∙◌, rules}
use Rattle.hash.specs.Hmac.{hmac, kept, tag_under}
use Rattle.hash.proofs.Maps.{map-same}
use Rattle.device.specs.Keys.{same_bytes, sender_of, may_pass}
use Rattle.device.specs.Pairs.{part_for, shared_key, no_words, kept_tag}
use Rattle.device.proofs.Parts.{kept_is, whole_same, both_same}
use Rattle.device.proofs.Stamps.{sender_below}
use Rattle.device.proofs.pair.ArrayMacKey7Keys.hashed.Goals as goal

each : (c : goal.After-map) (bs : List ℕ) (r : ℕ) → r < 7 → kept_tag c.map.result bs r ≡ hmac (shared_key c.args.shared.now r) bs
each c bs r h =
    let keys = c.args.shared.now in
    let hashed : c.map.result ≡ map kept keys = map-same _ kept _ (λ x y q k. search rules) keys _ 7 c.told-shared c.map.ensures.items in
    ap (λ ks. tag_under (get_or ks r (record { inner = no_words; outer = no_words })) bs) hashed ∙ kept_is keys bs r c.told-shared h

pub returns-clause-tagging : goal.returns-clause-tagging
returns-clause-tagging c size bs = whole_same size (kept_tag c.map.result bs) (λ r. hmac (shared_key c.args.shared.now r) bs) (each c bs)

pub returns-clause-passing : goal.returns-clause-passing
returns-clause-passing c n o bs tag =
    both_same (may_pass n o 224 bs tag) _ _ (λ h. ap (same_bytes (part_for o tag)) (each c bs (sender_of bs) (sender_below n o 224 bs tag h)))
