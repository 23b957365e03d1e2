use Rattle.std.proofs.Common.{◌≡◌, ◌+◌, ◌-◌, ◌%◌, ◌≤◌, ◌++◌, length, take, sym, ap, ◌∙◌, arith, rules}
use borrow.Rule.Slice.PartMut.{put_mid}
use Rattle.std.proofs.lemmas.List.{take_all, length-take-le, places}
use Rattle.std.proofs.lemmas.Slice.{take-put_mid}
use Rattle.hash.proofs.Taking.{kept_size, took_some, took_block}
use Rattle.hash.proofs.sha.Hasher.fill.Goals as goal

pub returns-then-n-room-clause-takes : goal.returns-then-n-room-clause-takes
returns-then-n-room-clause-takes c s before m took =
    let h = c.args.self.now in
    let bs = c.args.bytes.now in
    let n = length bs in
    let part = take (n - 0) bs in
    let last = c.copy_from_slice.new.self in
    let tail = put_mid (h.len % 64) ((h.len % 64 + n) - h.len % 64) h.tail last in
    let whole : part ≡ bs = take_all (n - 0) bs (omega arith) in
    let copied : last ≡ part = c.copy_from_slice.ensures.after ∙ sym whole in
    let size : length part ≡ n = ap length whole in
    let k = kept_size s before h m part tail took in
    let long : length m % 64 + length part ≡ h.len % 64 + length last = omega (arith, ap length copied) in
    let laid : take (length m % 64 + length part) tail ≡ take (length m % 64) h.tail ++ part =
    take-put_mid (h.len % 64) _ h.tail last _ long (omega arith) ∙ ap (λ l. take (h.len % 64) h.tail ++ l) copied ∙ ap (λ i. take i h.tail ++ part) k
    in
    took_some s before h m part tail took n (sym size) (omega arith) laid

pub returns-clause-takes : goal.returns-clause-takes
returns-clause-takes c s before m took =
    let h = c.args.self.now in
    let bs = c.args.bytes.now in
    let have = h.len % 64 in
    let part = take (length bs - length c.split_at.result.1.now) bs in
    let last = c.copy_from_slice-2.new.self in
    let tail = put_mid have (64 - have) h.tail last in
    let used : length bs - length c.split_at.result.1.now ≡ 64 - have = omega (arith, c.split_at.ensures.back_len) in
    let copied : last ≡ part = c.copy_from_slice-2.ensures.after ∙ c.split_at.ensures.front ∙ ap (λ i. take i bs) (sym used) in
    let size : length part ≡ 64 - have = ap (λ i. length (take i bs)) used ∙ length-take-le (64 - have) bs (omega arith) in
    let long : length tail ≤ 64 = search (rules, places) in
    let laid : tail ≡ take have h.tail ++ part =
    sym (take_all 64 tail long) ∙ take-put_mid have (64 - have) h.tail last 64 (omega (arith, ap length copied)) (omega arith) ∙ ap (λ l. take have h.tail ++ l) copied
    in
    let k = kept_size s before h m part tail took in
    took_block s before h m part tail took (64 - have) (sym size) (omega arith) (omega arith) (laid ∙ ap (λ i. take i h.tail ++ part) k) _ c.compress-self.ensures
