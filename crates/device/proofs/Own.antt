-- A member's own tag passes at it, for both kinds of keys.
use Rattle.std.proofs.Common.{◌≡◌, ℕ, true, ◌&&◌, List, length, ap, ◌∙◌}
use Rattle.hash.specs.Hmac.{tag_under}
use Rattle.hash.specs.declared.mac.MacKey.{MacKey}
use Rattle.wire.specs.Groups.{member}
use Rattle.device.specs.Groups.{group_passes_at}
use Rattle.device.specs.Keys.{same_bytes, sender_of}
use Rattle.device.specs.Pairs.{part_for, kept_tag, pair_tag_at, pair_passes_at}
use Rattle.device.proofs.Parts.{part_for_member, tag_length, length-whole}
use Rattle.device.proofs.Same.{same_self}
use Rattle.device.proofs.Stamps.{may_pass_where}

pub own_group_passes : (k : MacKey) (n : ℕ) (bs tag : List ℕ) → tag ≡ tag_under k bs → length bs ≡ 48 → member n (sender_of bs) ≡ true → group_passes_at n (sender_of bs) k bs tag ≡ true
own_group_passes k n bs tag is h m =
    ap (λ b. b && same_bytes tag (tag_under k bs)) (may_pass_where n (sender_of bs) 32 bs tag m h (ap length is ∙ tag_length k bs) m) ∙ ap (λ t. same_bytes t (tag_under k bs)) is
    ∙ same_self (tag_under k bs)

pub own_pair_passes : (keys : List MacKey) (n : ℕ) (bs tag : List ℕ) → tag ≡ pair_tag_at n keys bs → length bs ≡ 48 → member n (sender_of bs) ≡ true → pair_passes_at n (sender_of bs) keys bs tag ≡ true
own_pair_passes keys n bs tag is h m =
    let o = sender_of bs in
    let good = kept_tag keys bs o in
    let wide : (r : ℕ) → length (kept_tag keys bs r) ≡ 32 = λ r. tag_length _ bs in
    let own : part_for o tag ≡ good = ap (part_for o) is ∙ part_for_member n (kept_tag keys bs) wide o m in
    ap (λ b. b && same_bytes (part_for o tag) good) (may_pass_where n o 224 bs tag m h (ap length is ∙ length-whole n (kept_tag keys bs) wide) m) ∙ ap (λ p. same_bytes p good) own
    ∙ same_self good
