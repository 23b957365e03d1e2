use Rattle.std.proofs.Common.{◌≡◌, ℕ, ◌/◌, ◌%◌, ◌<◌, true, [], ◌∷◌, ◌++◌, get_or, take, sym, refl, ap, ◌∙◌}
use lib.Utf8.{encode}
use Rattle.std.proofs.Output.{has_written_append, has_written_of_eq}
use Rattle.std.proofs.lemmas.List.{flat_map_more, take_more}
use Rattle.std.proofs.lemmas.Str.{encode_ascii}
use Rattle.hexadecimal.specs.Texts.{hex_digit, hex_pair, hex_text}
use Rattle.hexadecimal.proofs.HexDisplay.fmt.Goals as goal

pair : (high low b : ℕ) → high < 128 → low < 128 → high ≡ hex_digit (b / 16) → low ≡ hex_digit (b % 16) → encode high ++ encode low ≡ hex_pair b
pair high low b h l e f = (λ i. encode_ascii high h i ++ encode_ascii low l i) ∙ (λ i. e i ∷ f i ∷ [])

pub loop-b-preserved : goal.loop-b-preserved
loop-b-preserved g c = λ plain.
    let bs = c.args.self.now.0.now in
    let i = c.loop-b.b-index in
    let b = get_or bs i 0 in
    let took = g.W.Write.write_str_gives in
    let f = c.args.f.now in
    let before = c.loop-b.invariant plain in
    let high = c.hex_digit.ensures in
    let low = c.hex_digit-in-loop-b.ensures in
    let first = c.in_ok-write_char.ensures.writes before.plain (refl {a = true}) in
    let second = c.in_ok-write_char-2.ensures.writes first.plain (refl {a = true}) in
    let h = encode c.hex_digit.result in
    let l = encode c.hex_digit-in-loop-b.result in
    let both = has_written_append took c.loop-b.f h c.write_char.new.self l c.write_char-in-loop-b.new.self first second in
    let more = ap (λ t. hex_text (take i bs) ++ t) (pair _ _ b high.ascii low.ascii high.value low.value) in
    let all = flat_map_more hex_pair [] (take i bs) b ∙ ap hex_text (sym (take_more bs i 0 c.loop-b-test.true)) in
    has_written_of_eq took f _ _ c.write_char-in-loop-b.new.self (more ∙ all) (has_written_append took f (hex_text (take i bs)) c.loop-b.f (h ++ l) c.write_char-in-loop-b.new.self before both)
