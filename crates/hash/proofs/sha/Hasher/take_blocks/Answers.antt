use Rattle.std.proofs.Common.{◌≡◌, ◌*◌, ◌/◌, ◌%◌, length, take, drop, refl, ap, ◌∙◌, arith}
use borrow.Rule.Slice.PartMut.{put_mid}
use Rattle.std.proofs.lemmas.List.{length-drop}
use Rattle.std.proofs.lemmas.Slice.{take-put_mid}
use Rattle.hash.proofs.Taking.{kept_size, took_rest}
use Rattle.hash.proofs.sha.Hasher.take_blocks.Goals as goal

pub returns : goal.returns
returns c s before m took =
    let h = c.args.self.now in
    let bs = c.args.bytes.now in
    let n = length bs in
    let last = c.copy_from_slice.new.self in
    let left = drop (64 * (n / 64)) bs in
    let size : length left ≡ n % 64 = length-drop (64 * (n / 64)) bs ∙ omega arith in
    let k : length c.absorb.result.1.now ≡ n % 64 = ap length c.absorb.ensures.rest ∙ size in
    let tail = put_mid 0 (length c.absorb.result.1.now) h.tail last in
    let even = kept_size s before h m bs tail took in
    let copied : last ≡ left = c.copy_from_slice.ensures.after ∙ c.absorb.ensures.rest in
    let laid : take (n % 64) tail ≡ left = take-put_mid 0 _ h.tail last _ (omega (arith, ap length copied)) (omega arith) ∙ copied in
    took_rest s before h m bs tail took n refl (omega arith) laid _ c.absorb.ensures.value
