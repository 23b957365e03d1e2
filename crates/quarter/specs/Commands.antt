-- What an entry asks of the service.
use Rattle.std.specs.Prelude.{ℕ, List, ◌∷◌, ◌++◌, replicate}
use Rattle.hash.specs.Bytes.{big_endian}
use Rattle.service.specs.Seats.{take_act, return_act, buy_act}
use Rattle.quarter.specs.declared.Entry.{Entry}
use Rattle.quarter.specs.declared.Entry.TheVariants.{Buy, Take, Return}

-- Who asks: the client that takes or returns; client 0 buys.
abbrev pub client_of : Entry → ℕ
client_of (Buy p n) = 0
client_of (Take c p) = c
client_of (Return c p) = c

-- Ten bytes: the act, the product, the amount in four bytes (0 where none is bought), four zeros.
abbrev pub command_of : Entry → List ℕ
command_of (Buy p n) = buy_act ∷ p ∷ big_endian 4 n ++ replicate 4 0
command_of (Take c p) = take_act ∷ p ∷ big_endian 4 0 ++ replicate 4 0
command_of (Return c p) = return_act ∷ p ∷ big_endian 4 0 ++ replicate 4 0
