use Rattle.std.proofs.Common.{◌≡◌, ℕ, List, [], ◌∷◌, Some, None, Ok, Err, fold, Option, Result, refl, ◌∙◌}
use Rattle.service.specs.Laws.{book_after}
use Rattle.quarter.specs.declared.Entry.{Entry}
use Rattle.quarter.specs.declared.Fault.{Fault}
use Rattle.quarter.specs.Lines.{line_read}
use Rattle.quarter.specs.Quarters.{Standing, fresh, noted, after_line, lines_from, asked, requests, BookOfRequests}

-- one line asks for what it changes in the book
noted_book : (s : Standing) (r : Result (Option Entry) Fault) (rest : List (ℕ × List ℕ)) → book_after (noted s r).book rest ≡ book_after s.book (asked r rest)
noted_book s (Ok (Some e)) rest = refl
noted_book s (Ok None) rest = refl
noted_book s (Err f) rest = refl

book_of_lines : (s : Standing) (lines : List (List ℕ)) → (fold after_line s lines).book ≡ book_after s.book (requests lines)
book_of_lines s [] = refl
book_of_lines s (line ∷ lines) = book_of_lines (after_line s line) lines ∙ noted_book s (line_read line) (requests lines)

pub book_of_requests : BookOfRequests
book_of_requests text = book_of_lines fresh (lines_from [] text)
