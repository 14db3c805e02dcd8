-- A refusal as it is written, byte for byte.
use Rattle.std.specs.Prelude.{ℕ, List, ◌++◌, codes, decimal}
use Rattle.coverage.specs.declared.refusal.Layer.{Layer}
use Rattle.coverage.specs.declared.refusal.Layer.TheVariants.{Text, Check, Run, Shelf}
use Rattle.coverage.specs.declared.refusal.Returned.{Returned}
use Rattle.coverage.specs.declared.refusal.Returned.TheVariants.{One, Two}
use Rattle.coverage.specs.declared.refusal.Refusal.{Refusal}

-- the layers by their words
abbrev pub layer_word : Layer → List ℕ
layer_word Text = codes "text"
layer_word Check = codes "check"
layer_word Run = codes "run"
layer_word Shelf = codes "shelf"

-- what is returned: one number, or two with a blank between them
abbrev pub returned_words : Returned → List ℕ
returned_words (One n) = decimal n
returned_words (Two a b) = decimal a ++ (codes " " ++ decimal b)

-- a refusal, its layer, its number and what it returns: (refused shelf 19 0 1)
abbrev pub refusal_line : Refusal → List ℕ
refusal_line r = codes "(refused " ++ (layer_word r.layer ++ (codes " " ++ (decimal r.number ++ (codes " " ++ (returned_words r.returned ++ codes ")")))))
