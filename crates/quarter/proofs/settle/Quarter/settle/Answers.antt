use Rattle.std.proofs.Common.{◌≡◌, ℕ, true, eqb, List, [], ◌∷◌, is_ok, fold, refl, ap, sym, ◌∙◌, rules}
use denote.Ref.{Bor}
use Rattle.std.proofs.lemmas.Bool.{false≢true}
use Rattle.std.proofs.lemmas.Bool.Decides.{Decides-eqb}
use Rattle.std.proofs.lemmas.List.Sorted.{answers_always}
use Rattle.std.proofs.lemmas.Slice.Eq.{strip_suffix_is}
use Rattle.std.specs.Slice.Iter.{split_inclusive_rest}
use Rattle.quarter.specs.Lines.{line_read}
use Rattle.quarter.specs.Quarters.{standing, after_line, lines_from, reads_too, all_read}
use Rattle.quarter.proofs.Splitting.{first_line, first_passes}
use Rattle.quarter.proofs.settle.Quarter.settle.Goals as goal
use Rattle.quarter.proofs.settle.Quarter.settle.Goals.{After-line}

-- the loop's line is the first of those that are left
next_line : (c : After-line) → lines_from [] (split_inclusive_rest c.loop-line.line-iterator) ≡ c.unwrap_or.result.now ∷ lines_from [] (split_inclusive_rest c.next.new.self)
next_line c =
    let steps = c.in-Some.ensures.steps in
    let first = (steps.1.2 (λ b. eqb b 10) (answers_always _ _ _ (λ f a r g h. search rules))).1 in
    let rest = split_inclusive_rest c.next.new.self in
    first_line _ c.in-Some.line.now rest steps.1.0 steps.0 steps.1.1 first steps.2 c.in-Some.line refl c.strip_suffix.result
    (strip_suffix_is Decides-eqb _ (10 ∷ []) _ c.strip_suffix.ensures.cases)
    ∙ ap (λ (b : Bor (List ℕ)). b.now ∷ lines_from [] rest) (sym c.unwrap_or.ensures)

-- where all lines can be read, it can be, and those after it
reads : (c : After-line) → all_read c.args.text.now ≡ true
    → (is_ok (line_read c.unwrap_or.result.now) ≡ true) × (fold reads_too true (lines_from [] (split_inclusive_rest c.next.new.self)) ≡ true)
reads c all =
    first_passes (λ l. is_ok (line_read l)) c.unwrap_or.result.now (lines_from [] (split_inclusive_rest c.next.new.self))
    (ap (fold reads_too true) (sym (next_line c)) ∙ c.loop-line.invariant.3 all)

pub loop-line-preserved : goal.loop-line-preserved
loop-line-preserved c =
    let after = (goal.at.loop-line-preserved c).After-line in
    let rest = lines_from [] (split_inclusive_rest c.next.new.self) in (
      search rules,
      tt,
      ap (λ s. fold after_line s rest) c.in_ok-line.ensures.stands ∙ ap (fold after_line (standing c.loop-line.quarter)) (sym (next_line after)) ∙ c.loop-line.invariant.2,
      λ all. (reads after all).1,
    )

-- a line that is refused for want of memory could not be read
pub returns-in_err-line-clause-succeeds : goal.returns-in_err-line-clause-succeeds
returns-in_err-line-clause-succeeds c = λ all. absurd (false≢true (c.in_err-line.ensures.succeeds (reads (goal.at.returns-in_err-line-clause-succeeds c).After-line all).0))
