-- How a line falls into words.
use Rattle.std.specs.Prelude.{◌≡◌, ℕ, Bool, not, ◌||◌, List, take, drop, ◌==◌}
use Rattle.std.specs.List.{prefix_len}

-- A comment starts at `#`.
abbrev pub comment_mark : ℕ → Bool
comment_mark b = b == 35

-- Blanks are the space, the tab and the carriage return.
abbrev pub blank : ℕ → Bool
blank b = b == 32 || b == 9 || b == 13

-- A text falls into the longest front whose bytes all pass a test and the rest.
abbrev pub IsSplit : (ℕ → Bool) → List ℕ → List ℕ → List ℕ → Type 0
IsSplit test s front rest = (front ≡ take (prefix_len test s) s) × (rest ≡ drop (prefix_len test s) s)

-- What stands before the first `#`: a comment goes to the end of the line.
unfoldable pub uncommented : List ℕ → List ℕ
uncommented line = take (prefix_len (λ b. not (comment_mark b)) line) line

-- A text without the blanks at its front.
abbrev pub unpadded : List ℕ → List ℕ
unpadded s = drop (prefix_len blank s) s

-- The first word of a text: past the blanks, up to the next blank or the end. It is empty where no word is left.
unfoldable pub first_word : List ℕ → List ℕ
first_word s = take (prefix_len (λ b. not (blank b)) (unpadded s)) (unpadded s)

-- What follows the first word.
unfoldable pub after_word : List ℕ → List ℕ
after_word s = drop (prefix_len (λ b. not (blank b)) (unpadded s)) (unpadded s)
