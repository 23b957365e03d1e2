-- What is written for people.
use Rattle.std.specs.Prelude.{ℕ, List, ◌++◌, codes, decimal}
use Rattle.quarter.specs.declared.Fault.{Fault}
use Rattle.quarter.specs.declared.Fault.TheVariants.{UnknownWord, MissingField, ExtraField, NotANumber, OutOfRange}

-- The words for each fault; a field is written by its number.
abbrev pub fault_text : Fault → List ℕ
fault_text UnknownWord = codes "unknown word"
fault_text (MissingField k) = codes "field " ++ decimal k ++ codes " is missing"
fault_text ExtraField = codes "more than three words"
fault_text (NotANumber k) = codes "field " ++ decimal k ++ codes " is not a number"
fault_text (OutOfRange k) = codes "field " ++ decimal k ++ codes " is out of range"
