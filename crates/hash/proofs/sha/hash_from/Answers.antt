use Rattle.std.proofs.Common.{◌≡◌, ◌+◌, ◌*◌, ◌/◌, ◌%◌, ◌^◌, ◌++◌, length, take, drop, sym, refl, ap, ◌∙◌, arith}
use Rattle.std.proofs.lemmas.List.{take_all, length-drop}
use Rattle.hash.specs.declared.sha.Hasher.{Hasher}
use Rattle.hash.specs.Constants.{initial}
use Rattle.hash.specs.Digest.{padding, after_all, bytes_of, resumed, sha256}
use Rattle.hash.specs.Taken.{Took}
use Rattle.hash.proofs.Taking.{took_all}
use Rattle.hash.proofs.sha.hash_from.Goals as goal

-- the code is at the end of a hasher that has taken the rest
closed : (c : goal.After-bytes_of) → c.bytes_of.result ≡ bytes_of (after_all c.args.state (c.args.rest.now ++ padding (c.args.before + length c.args.rest.now)))
closed c =
    let rest = c.args.rest.now in
    let before = c.args.before in
    let n = length rest in
    let left = drop (64 * (n / 64)) rest in
    let len = (before + n) % 2 ^ 64 in
    let h : Hasher = record { state = c.absorb.result.0; tail = left; len = len } in
    let size : length left ≡ n % 64 = length-drop (64 * (n / 64)) rest ∙ omega arith in
    let took : Took c.args.state before h rest =
    record { whole = c.requires; value = c.absorb.ensures.value; rest = take_all (n % 64) left (omega arith); count = refl }
    in
    let part : c.absorb.result.1.now ≡ take (len % 64) left = c.absorb.ensures.rest ∙ sym (take_all (len % 64) left (omega (arith, c.requires))) in
    c.bytes_of.ensures ∙ ap bytes_of (c.close.ensures ∙ ap (λ t. after_all c.absorb.result.0 (t ++ padding len)) part ∙ took_all c.args.state before h rest took)

pub returns : goal.returns
unfolding resumed sha256
returns c =
    let rest = c.args.rest.now in
    record {
      rest = closed c;
      whole = λ first none. closed c ∙ ap (λ s. bytes_of (after_all s (rest ++ padding (c.args.before + length rest)))) first ∙ ap (λ n. bytes_of (after_all initial (rest ++ padding n))) (omega (arith, none));
    }
