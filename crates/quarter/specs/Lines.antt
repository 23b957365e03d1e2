-- What a line says.
use Rattle.std.specs.Prelude.{ℕ, zero, suc, Bool, cond, List, length, Some, None, Ok, Err, codes, Option, Result, ◌==◌}
use Rattle.std.specs.Str.{bytes_eq}
use Rattle.service.specs.declared.orders.Act.{Act}
use Rattle.service.specs.declared.orders.Act.TheVariants as act
use Rattle.quarter.specs.declared.Entry.{Entry}
use Rattle.quarter.specs.declared.Entry.TheVariants.{Buy, Take, Return}
use Rattle.quarter.specs.declared.Fault.{Fault}
use Rattle.quarter.specs.declared.Fault.TheVariants.{UnknownWord, MissingField, ExtraField}
use Rattle.quarter.specs.Numbers.{field_read}
use Rattle.quarter.specs.Words.{uncommented, first_word, after_word}

-- The first word names the act: `buy`, `take` or `return`, in lower case.
abbrev pub act_of : List ℕ → Option Act
act_of w =
    cond (bytes_eq w (codes "buy")) (Some act.Buy)
    (cond (bytes_eq w (codes "take")) (Some act.Take)
    (cond (bytes_eq w (codes "return")) (Some act.Return) None))

-- Field 1 is judged wholly before field 2.
abbrev pub both : (ℕ → ℕ → Entry) → Result ℕ Fault → Result ℕ Fault → Result Entry Fault
both make (Err e) y = Err e
both make (Ok a) (Err e) = Err e
both make (Ok a) (Ok b) = Ok (make a b)

-- `buy PRODUCT AMOUNT`, `take CLIENT PRODUCT`, `return CLIENT PRODUCT`: a product is at most 255, an amount at most 4294967295, a client at most 63.
abbrev pub entry_read : Act → List ℕ → List ℕ → Result Entry Fault
entry_read act.Buy a b = both Buy (field_read 255 1 a) (field_read 4294967295 2 b)
entry_read act.Take a b = both Take (field_read 63 1 a) (field_read 255 2 b)
entry_read act.Return a b = both Return (field_read 63 1 a) (field_read 255 2 b)

-- The word at a place, from 0; empty where the text has fewer.
abbrev pub word_at : ℕ → List ℕ → List ℕ
word_at zero s = first_word s
word_at (suc k) s = word_at k (after_word s)

-- No word stands there.
abbrev pub absent : List ℕ → Bool
absent w = length w == 0

-- An entry that is read is the line's.
abbrev pub some_entry : Result Entry Fault → Result (Option Entry) Fault
some_entry (Ok e) = Ok (Some e)
some_entry (Err f) = Err f

-- The questions in their order: the first word names an act, two fields follow it, no fourth word does, and the fields are numbers within their limits.
abbrev pub act_read : Option Act → List ℕ → Result (Option Entry) Fault
act_read None s = Err UnknownWord
act_read (Some act) s =
    cond (absent (word_at 1 s)) (Err (MissingField 1))
    (cond (absent (word_at 2 s)) (Err (MissingField 2))
    (cond (absent (word_at 3 s)) (some_entry (entry_read act (word_at 1 s) (word_at 2 s))) (Err ExtraField)))

-- A text with no word says nothing.
abbrev pub text_read : List ℕ → Result (Option Entry) Fault
text_read s = cond (absent (word_at 0 s)) (Ok None) (act_read (act_of (word_at 0 s)) s)

-- A line says what stands before its comment.
abbrev pub line_read : List ℕ → Result (Option Entry) Fault
line_read line = text_read (uncommented line)
