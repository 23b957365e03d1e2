use Rattle.std.specs.Prelude.{◌≡◌, ℕ, zero, suc, ◌+◌, ◌^◌, ◌<◌, ◌≤◌, max, true, cond, not, ◌&&◌, ◌||◌, ◌⊎◌, List, [], ◌∷◌, ◌==◌}
use Rattle.service.specs.declared.seats.Product.{Product}
use Rattle.service.specs.Sets.{has, with, without, size}
use Rattle.service.specs.Seats.{fresh_book, product_at, out, take_act, act, product, seats_after, seats_answer}

-- How many of the clients below n are in a set.
abbrev pub members : ℕ → ℕ → ℕ
members set zero = 0
members set (suc n) = cond (has set n) 1 0 + members set n

-- Numbers stand for sets: adding and taking out change one member, and the size counts the members.
pub record SetsStand : Type 0 where
  pub adds : (set c d : ℕ) → has (with set c) d ≡ (c == d || has set d)
  pub takes : (set c d : ℕ) → has set c ≡ true → has (without set c) d ≡ (not (c == d) && has set d)
  pub counts : (n set : ℕ) → set < 2 ^ n → size set ≡ members set n

-- The book after commands, each with its client.
abbrev pub book_after : List Product → List (ℕ × List ℕ) → List Product
book_after book [] = book
book_after book (r ∷ rs) = book_after (seats_after book r.0 r.1) rs

abbrev pub out_at : List Product → ℕ → ℕ
out_at book i = out (product_at book i)

abbrev pub bought_at : List Product → ℕ → ℕ
bought_at book i = (product_at book i).bought

-- A command gave away one seat of product i: it is a granted request for that product, and then at most the
-- bought number is out.
pub record Gained (book : List Product) (client : ℕ) (command : List ℕ) (i : ℕ) : Type 0 where
  pub one : out_at (seats_after book client command) i ≡ out_at book i + 1
  pub within : out_at (seats_after book client command) i ≤ bought_at (seats_after book client command) i
  pub by_act : act command ≡ take_act
  pub of_product : product command ≡ i
  pub answered : seats_answer book client command ≡ 1

-- However many commands were run, the next one leaves each product's seats out as many or fewer, or gives away
-- one seat within the bought number.
abbrev pub NeverOversold : Type 0
NeverOversold =
    (before : List (ℕ × List ℕ)) (client : ℕ) (command : List ℕ) (i : ℕ)
    → (out_at (seats_after (book_after fresh_book before) client command) i ≤ out_at (book_after fresh_book before) i) ⊎ Gained (book_after fresh_book before) client command i

-- The greatest bought number that a product had, at the start or after one of the commands.
abbrev pub most_bought : List Product → List (ℕ × List ℕ) → ℕ → ℕ
most_bought book [] i = bought_at book i
most_bought book (r ∷ rs) i = max (bought_at book i) (most_bought (seats_after book r.0 r.1) rs i)

-- However many commands are run, no product has more seats out than were ever bought of it at one time.
abbrev pub NeverAboveBought : Type 0
NeverAboveBought =
    (commands : List (ℕ × List ℕ)) (i : ℕ) → out_at (book_after fresh_book commands) i ≤ most_bought fresh_book commands i
