-- A text of few bytes is the row of its bytes.
use Rattle.std.proofs.Common.{◌≡◌, ℕ, List, [], ◌∷◌, length, get_or, refl}
use Rattle.std.proofs.lemmas.Slice.Eq.{text_from_reads}

pub five : (w : List ℕ) → length w ≡ 5 → w ≡ get_or w 0 0 ∷ get_or w 1 0 ∷ get_or w 2 0 ∷ get_or w 3 0 ∷ get_or w 4 0 ∷ []
five w h = text_from_reads w _ h (refl, (refl, (refl, (refl, (refl, tt)))))

pub six : (w : List ℕ) → length w ≡ 6 → w ≡ get_or w 0 0 ∷ get_or w 1 0 ∷ get_or w 2 0 ∷ get_or w 3 0 ∷ get_or w 4 0 ∷ get_or w 5 0 ∷ []
six w h = text_from_reads w _ h (refl, (refl, (refl, (refl, (refl, (refl, tt))))))

pub seven : (w : List ℕ) → length w ≡ 7 → w ≡ get_or w 0 0 ∷ get_or w 1 0 ∷ get_or w 2 0 ∷ get_or w 3 0 ∷ get_or w 4 0 ∷ get_or w 5 0 ∷ get_or w 6 0 ∷ []
seven w h = text_from_reads w _ h (refl, (refl, (refl, (refl, (refl, (refl, (refl, tt)))))))

pub eight : (w : List ℕ) → length w ≡ 8 → w ≡ get_or w 0 0 ∷ get_or w 1 0 ∷ get_or w 2 0 ∷ get_or w 3 0 ∷ get_or w 4 0 ∷ get_or w 5 0 ∷ get_or w 6 0 ∷ get_or w 7 0 ∷ []
eight w h = text_from_reads w _ h (refl, (refl, (refl, (refl, (refl, (refl, (refl, (refl, tt))))))))

-- the longer reserved words
pub ruleset few_bytes = (five, six, seven, eight)
