use Rattle.std.specs.Prelude.{◌≡◌, ℕ, true, List, ◌∷◌, replicate, is_ok, Ok, Err}
use Rattle.wire.specs.Forms.{parse}
use Rattle.wire.specs.Groups.{primary_of}
use Rattle.wire.specs.Messages.{bytes_of}
use Rattle.wire.specs.declared.message.Body.TheVariants.{Commit}
use Rattle.wire.specs.declared.message.Message.{Message}
use Rattle.wire.specs.declared.refusal.Refusal.TheVariants.{BadForm}

abbrev pub commit_message : Message
commit_message = record { sender = 1; count = 3; body = Commit (record { view = 0; length = 2 }) }

abbrev pub commit_record : List ℕ
commit_record =
    0x02 ∷ (0x01 ∷ (0x00 ∷ (0x00 ∷ (0x00 ∷ (0x00 ∷ (0x00 ∷ (0x03 ∷ (0x00 ∷ (0x00 ∷ (0x00 ∷ (0x00 ∷ (0x00 ∷ (0x00 ∷ (0x00 ∷ (0x02 ∷ replicate 32 0)))))))))))))))

-- NEW-VIEW by 1, count 1, view 1, from the first counts of 0, 1 and 2.
abbrev pub three_pairs : List ℕ
three_pairs =
    5 ∷ (1 ∷ (0 ∷ (0 ∷ (0 ∷ (0 ∷ (0 ∷ (1 ∷ (0 ∷ (0 ∷ (0 ∷ (1 ∷ (0 ∷ (0 ∷ (0 ∷ (0 ∷ (1 ∷ (1 ∷ (0 ∷ (0 ∷ (0 ∷ (1 ∷ (2 ∷ (0 ∷ (0 ∷ (0 ∷ (1 ∷ replicate 21 0))))))))))))))))))))))))))

-- Worked cases, each of the definitions that the promises cite.
pub record WorkedCases : Type 0 where
  -- View 7 of 3 is led by 1, and view 4,294,967,295 of 7 by 3.
  pub view_7_of_3 : primary_of 3 7 ≡ 1
  pub last_view_of_7 : primary_of 7 4294967295 ≡ 3
  -- A COMMIT, as a record and read again. COMMIT by 1, count 3, view 0, length 2 is 0x02010000 00000003 00000000 00000002, then 32 zero bytes.
  pub commit : bytes_of commit_message ≡ commit_record
  pub commit_read : parse 3 commit_record ≡ Ok commit_message
  -- A NEW-VIEW with three pairs is right in a group of 5; in a group of 3 its third pair stands where zeros must.
  pub three_pairs_of_5 : is_ok (parse 5 three_pairs) ≡ true
  pub three_pairs_of_3 : parse 3 three_pairs ≡ Err (BadForm 22)
