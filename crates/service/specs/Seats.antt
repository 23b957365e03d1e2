use Rattle.std.specs.Prelude.{ℕ, Bool, cond, not, ◌&&◌, List, ◌∷◌, replicate, is_some, Some, None, Option, ◌==◌, nat_le, nat_lt, slice_index, slice_index_or, slice_set}
use Rattle.std.specs.Option.{unwrap_or}
use Rattle.std.specs.List.{flat_map}
use Rattle.hash.specs.Bytes.{big_endian, number_at}
use Rattle.hash.specs.Digest.{sha256}
use Rattle.service.specs.declared.seats.Product.{Product}
use Rattle.service.specs.Sets.{has, with, without, size}

-- A book is a list of products, each with a bought number and the set of clients that hold a seat.
-- A new book has products 0 to 15, of each none bought and nobody holding.
abbrev pub no_product : Product
no_product = record { bought = 0; holders = 0 }

abbrev pub fresh_book : List Product
fresh_book = replicate 16 no_product

abbrev pub product_at : List Product → ℕ → Product
product_at book i = slice_index_or book i no_product

-- The product with a number; there is none above 15.
abbrev pub found_product : List Product → ℕ → Option Product
found_product book i = cond (nat_lt i 16) (Some (product_at book i)) None

-- The seats of a product that are out are its holders.
abbrev pub out : Product → ℕ
out p = size p.holders

-- A client holds a seat if it is among the holders. Clients are 0 to 63.
abbrev pub holds : Product → ℕ → Bool
holds p client = nat_lt client 64 && has p.holders client

-- The acts: to take a seat, to return it, and to buy seats.
abbrev pub take_act : ℕ
take_act = 1

abbrev pub return_act : ℕ
return_act = 2

abbrev pub buy_act : ℕ
buy_act = 3

-- A command: byte 0 is the act, byte 1 the product, bytes 2 to 5 the amount.
abbrev pub act : List ℕ → ℕ
act command = slice_index command 0

abbrev pub product : List ℕ → ℕ
product command = slice_index command 1

abbrev pub amount : List ℕ → ℕ
amount command = number_at 4 command 2

-- Its product is at most 15 and its bytes 6 to 9 are zero.
abbrev pub well_formed : List ℕ → Bool
well_formed command =
    nat_lt (product command) 16 && (slice_index command 6 == 0 && (slice_index command 7 == 0 && (slice_index command 8 == 0 && slice_index command 9 == 0)))

-- To take gives the client a seat, if it holds none and fewer seats are out than bought.
abbrev pub given : Product → ℕ → ℕ → Option Product
given p client n =
    cond (n == 0 && (not (holds p client) && nat_lt (out p) p.bought)) (Some (record { bought = p.bought; holders = with p.holders client })) None

-- To return takes the client's seat back, if it holds one.
abbrev pub returned : Product → ℕ → ℕ → Option Product
returned p client n =
    cond (n == 0 && holds p client) (Some (record { bought = p.bought; holders = without p.holders client })) None

-- To buy, by client 0 alone, sets the bought number to an amount of at most 64.
abbrev pub bought_to : Product → ℕ → ℕ → Option Product
bought_to p client n = cond (client == 0 && nat_le n 64) (Some (record { bought = n; holders = p.holders })) None

-- What an act makes of its product, or nothing where it is not done.
abbrev pub acted : Product → ℕ → ℕ → ℕ → Option Product
acted p client a n =
    cond (a == take_act) (given p client n) (cond (a == return_act) (returned p client n) (cond (a == buy_act) (bought_to p client n) None))

-- What a command of a client makes of its product. Clients are 0 to 63.
abbrev pub done : List Product → ℕ → List ℕ → Option Product
done book client command =
    cond (nat_lt client 64 && well_formed command) (acted (product_at book (product command)) client (act command) (amount command)) None

-- The step: where the command is done its product changes, and nothing else; the answer is 1 if done, else 0.
abbrev pub seats_after : List Product → ℕ → List ℕ → List Product
seats_after book client command = slice_set book (product command) (unwrap_or (done book client command) (product_at book (product command)))

abbrev pub seats_answer : List Product → ℕ → List ℕ → ℕ
seats_answer book client command = cond (is_some (done book client command)) 1 0

-- An entry of the digest: the bought number as one byte and the set of holders as eight.
abbrev pub entry : Product → List ℕ
entry p = p.bought ∷ big_endian 8 p.holders

-- The digest of a book: SHA-256 over the entries in the order of the products.
unfoldable pub seats_digest : List Product → List ℕ
seats_digest book = sha256 (flat_map entry book)
