-- How a quarter's text is settled.
use Rattle.std.specs.Prelude.{◌≡◌, ℕ, ◌+◌, min, Bool, true, cond, ◌&&◌, List, [], ◌∷◌, ◌++◌, length, is_ok, Some, None, Ok, Err, vec_items, fold, Option, Result, ◌==◌}
use Rattle.service.specs.declared.seats.Product.{Product}
use Rattle.service.specs.Laws.{book_after}
use Rattle.service.specs.Seats.{fresh_book, seats_after, seats_answer}
use Rattle.service.specs.Trails.{fresh_trail, trail_after}
use Rattle.quarter.specs.declared.Entry.{Entry}
use Rattle.quarter.specs.declared.Fault.{Fault}
use Rattle.quarter.specs.declared.settle.Quarter.{Quarter}
use Rattle.quarter.specs.declared.settle.Unread.{Unread}
use Rattle.quarter.specs.Commands.{client_of, command_of}
use Rattle.quarter.specs.Lines.{line_read}

-- Where a quarter stands: the seat book, the trail over all commands, how many lines were read, how many commands
-- were granted and refused, and the lines that say nothing that can be run, each with its number and fault.
pub record Standing : Type 0 where
  pub book : List Product
  pub trail : List ℕ
  pub lines : ℕ
  pub granted : ℕ
  pub refused : ℕ
  pub unread : List Unread

abbrev pub standing : Quarter → Standing
standing q =
    record {
      book = q.book.products;
      trail = q.trail.bytes;
      lines = q.lines;
      granted = q.granted;
      refused = q.refused;
      unread = vec_items q.unread;
    }

abbrev pub fresh : Standing
fresh = record { book = fresh_book; trail = fresh_trail; lines = 0; granted = 0; refused = 0; unread = [] }

-- One more, held at the greatest 64-bit number.
abbrev pub one_more : ℕ → ℕ
one_more n = min (n + 1) 18446744073709551615

-- The seat book grants an entry if it answers 1.
abbrev pub grants : List Product → Entry → Bool
grants book e = seats_answer book (client_of e) (command_of e) == 1

-- An entry is run on the book and goes into the trail, granted or refused.
abbrev pub entered : Standing → Entry → Standing
entered s e =
    record {
      book = seats_after s.book (client_of e) (command_of e);
      trail = trail_after s.trail (client_of e) (command_of e);
      lines = one_more s.lines;
      granted = cond (grants s.book e) (one_more s.granted) s.granted;
      refused = cond (grants s.book e) s.refused (one_more s.refused);
      unread = s.unread;
    }

-- A line that is no entry is counted, and its fault, if it has one, is noted with the line's number.
abbrev pub passed : Standing → List Unread → Standing
passed s more =
    record {
      book = s.book;
      trail = s.trail;
      lines = one_more s.lines;
      granted = s.granted;
      refused = s.refused;
      unread = s.unread ++ more;
    }

-- What was read of a line: an entry, nothing, or a fault. Lines are numbered from 1.
abbrev pub noted : Standing → Result (Option Entry) Fault → Standing
noted s (Ok (Some e)) = entered s e
noted s (Ok None) = passed s []
noted s (Err f) = passed s (record { line = one_more s.lines; fault = f } ∷ [])

abbrev pub after_line : Standing → List ℕ → Standing
after_line s line = noted s (line_read line)

-- The lines of a text: each newline ends one, and what stands after the last newline is one too unless it is empty.
abbrev pub lines_from : List ℕ → List ℕ → List (List ℕ)
lines_from line [] = cond (length line == 0) [] (line ∷ [])
lines_from line (b ∷ bs) = cond (b == 10) (line ∷ lines_from [] bs) (lines_from (line ++ b ∷ []) bs)

-- A text is settled line by line.
abbrev pub settled : List ℕ → Standing
settled text = fold after_line fresh (lines_from [] text)

-- Each line of a text can be read: none has a fault.
abbrev pub reads_too : Bool → List ℕ → Bool
reads_too before line = before && is_ok (line_read line)

abbrev pub all_read : List ℕ → Bool
all_read text = fold reads_too true (lines_from [] text)

-- What was asked of the seat book in some lines, in their order: the client and command of each line that can be read.
abbrev pub asked : Result (Option Entry) Fault → List (ℕ × List ℕ) → List (ℕ × List ℕ)
asked (Ok (Some e)) rest = (client_of e, command_of e) ∷ rest
asked (Ok None) rest = rest
asked (Err f) rest = rest

abbrev pub requests : List (List ℕ) → List (ℕ × List ℕ)
requests [] = []
requests (line ∷ lines) = asked (line_read line) (requests lines)

-- Whatever the text, the settled book is the seat book after just those requests, and so within its laws.
abbrev pub BookOfRequests : Type 0
BookOfRequests = (text : List ℕ) → (settled text).book ≡ book_after fresh_book (requests (lines_from [] text))
