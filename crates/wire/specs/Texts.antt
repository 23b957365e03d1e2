-- What is written for people.
use Rattle.std.specs.Prelude.{ℕ, List, ◌++◌, codes, decimal}
use Rattle.wire.specs.Refusals.{layer_number, number_of, layer_of, place_of}
use Rattle.wire.specs.declared.refusal.Refusal.{Refusal}

-- A refusal is written by the numbers of its question, its layer and its place.
abbrev pub refusal_text : Refusal → List ℕ
refusal_text r = codes "question " ++ decimal (number_of r) ++ codes ", layer " ++ decimal (layer_number (layer_of r)) ++ codes ", place " ++ decimal (place_of r)
