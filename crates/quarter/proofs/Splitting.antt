use Rattle.std.proofs.Common.{◌≡◌, ◌≢◌, ℕ, ◌+◌, ◌<◌, min, suc, Bool, true, false, ◌&&◌, eqb, List, [], ◌∷◌, ◌++◌, length, get_or, take, fold, Some, None, Option, MatchOption, unwrap_or, sym, ap, ◌∙◌, inl, inr, arith}
use denote.Ref.{Bor}
use Rattle.std.proofs.Math.Seq.{take-append_seam}
use Rattle.std.proofs.lemmas.Bool.{and_parts, cases_lt, eqb-true, ne_eqb}
use Rattle.std.proofs.lemmas.List.{append_assoc, append-nil, get_or_append_left, length-append, nil_from_length, take_more}
use Rattle.std.specs.List.{IsFirstMatchOrLen}
use Rattle.quarter.specs.Quarters.{lines_from}

-- no newline stands in a text
abbrev Unbroken : List ℕ → Type 0
Unbroken text = (k : ℕ) → k < length text → eqb (get_or text k 0) 10 ≡ false

-- a newline ends a line
line_ends : (line front rest : List ℕ) → Unbroken front → lines_from line (front ++ 10 ∷ rest) ≡ (line ++ front) ∷ lines_from [] rest
line_ends line [] rest whole = rw append-nil
line_ends line (b ∷ front) rest whole =
    let no : eqb b 10 ≡ false = whole 0 (omega arith) in
    rw no (line_ends (line ++ b ∷ []) front rest (λ k h. whole (suc k) (omega arith)) ∙ ap (λ l. l ∷ lines_from [] rest) (append_assoc line (b ∷ []) front))

-- with no newline left, the line ends with the text
text_ends : (line text : List ℕ) → 0 < length line + length text → Unbroken text → lines_from line text ≡ (line ++ text) ∷ []
text_ends line [] some whole = rw (ne_eqb (length line) 0 (λ e. omega arith), append-nil)
text_ends line (b ∷ text) some whole =
    let no : eqb b 10 ≡ false = whole 0 (omega arith) in
    rw no
    (text_ends (line ++ b ∷ []) text (omega (arith, length-append line (b ∷ []))) (λ k h. whole (suc k) (omega arith)) ∙ ap (λ l. l ∷ []) (append_assoc line (b ∷ []) text))

-- the piece of a text up to its first newline, stripped of it, is the text's first line
pub first_line : (text piece rest : List ℕ) (i : ℕ) → text ≡ piece ++ rest → length piece ≡ min (i + 1) (length text) → IsFirstMatchOrLen (λ b. eqb b 10) text i → 0 < length text
    → (line : Bor (List ℕ)) → line.now ≡ piece → (r : Option (Bor (List ℕ))) → MatchOption r ((front : List ℕ) → piece ≢ front ++ 10 ∷ []) (λ x. piece ≡ x.now ++ 10 ∷ [])
    → lines_from [] text ≡ (unwrap_or r line).now ∷ lines_from [] rest
first_line text piece rest i joined ends first some line is (Some x) stripped =
    let apart : text ≡ x.now ++ 10 ∷ rest = joined ∙ ap (λ l. l ++ rest) stripped ∙ append_assoc x.now (10 ∷ []) rest in
    let longer : length piece ≡ length x.now + 1 = ap length stripped ∙ length-append x.now (10 ∷ []) in
    let whole : Unbroken x.now = λ k h. ap (λ b. eqb b 10) (sym (get_or_append_left x.now (10 ∷ rest) 0 k h) ∙ ap (λ l. get_or l k 0) (sym apart)) ∙ first.0 k 0 (omega arith) (omega arith) in
    ap (lines_from []) apart ∙ line_ends [] x.now rest whole
first_line text piece rest i joined ends first some line is None other =
    elim (cases_lt i (length text)) [
      | inl within ↦
          let long : length piece ≡ i + 1 = omega arith in
          let newline : get_or text i 0 ≡ 10 = eqb-true (get_or text i 0) 10 (first.1 within 0) in
          let cut : piece ≡ take (i + 1) text = sym (take-append_seam piece rest) ∙ ap (λ n. take n (piece ++ rest)) long ∙ ap (take (i + 1)) (sym joined) in
          absurd (other (take i text) (cut ∙ take_more text i 0 within ∙ ap (λ b. take i text ++ b ∷ []) newline))
      | inr past ↦
          let none : rest ≡ [] = nil_from_length rest (omega (arith, ap length joined, length-append piece rest)) in
          let all : text ≡ line.now = joined ∙ ap (λ l. piece ++ l) none ∙ append-nil piece ∙ sym is in
          text_ends [] text (omega arith) (λ k h. first.0 k 0 (omega arith) (omega arith)) ∙ (λ j. all j ∷ lines_from [] (sym none j))
    ]

-- where all lines pass a test, so did those before
all_pass : (P : List ℕ → Bool) (b : Bool) (ls : List (List ℕ)) → fold (λ ok l. ok && P l) b ls ≡ true → b ≡ true
all_pass P b [] h = h
all_pass P b (l ∷ ls) h = (and_parts b (P l) (all_pass P (b && P l) ls h)).0

-- and the first of them, and those after it
pub first_passes : (P : List ℕ → Bool) (l : List ℕ) (ls : List (List ℕ)) → fold (λ ok l. ok && P l) true (l ∷ ls) ≡ true → (P l ≡ true) × (fold (λ ok l. ok && P l) true ls ≡ true)
first_passes P l ls h = let first = all_pass P (P l) ls h in (first, ap (λ b. fold (λ ok l. ok && P l) b ls) (sym first) ∙ h)
