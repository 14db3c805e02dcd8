-- Coverages of two lists put one after the other, by number.
use Rattle.std.proofs.Common.{◌≡◌, ℕ, zero, suc, ◌-◌, ◌<◌, ◌≤◌, List, [], ◌∷◌, ◌++◌, length, take, refl, ap, ◌∙◌, arith}
use Rattle.std.specs.List.{slice_get}
use Rattle.shelf.specs.Meaning.{Coverage, edited}

pub nth_take : {X : Type 0} (n : ℕ) (xs : List X) (c : ℕ) → c < n → slice_get (take n xs) c ≡ slice_get xs c
nth_take zero xs c h = absurd (omega arith)
nth_take (suc n) [] c h = refl
nth_take (suc n) (x ∷ xs) zero h = refl
nth_take (suc n) (x ∷ xs) (suc c) h = nth_take n xs c (omega arith)

pub nth_left : {X : Type 0} (xs ys : List X) (c : ℕ) → c < length xs → slice_get (xs ++ ys) c ≡ slice_get xs c
nth_left [] ys c h = absurd (omega arith)
nth_left (x ∷ xs) ys zero h = refl
nth_left (x ∷ xs) ys (suc c) h = nth_left xs ys c (omega arith)

pub nth_right : {X : Type 0} (xs ys : List X) (c : ℕ) → length xs ≤ c → slice_get (xs ++ ys) c ≡ slice_get ys (c - length xs)
nth_right [] ys c h = ap (slice_get ys) (let e : c ≡ c - 0 = omega arith in e)
nth_right (x ∷ xs) ys zero h = absurd (omega arith)
nth_right (x ∷ xs) ys (suc c) h = nth_right xs ys c (omega arith) ∙ ap (slice_get ys) (let e : c - length xs ≡ suc c - suc (length xs) = omega arith in e)

pub edited_take : (n : ℕ) (xs : List Coverage) (c : ℕ) (f : Coverage → Coverage) → edited (take n xs) c f ≡ take n (edited xs c f)
edited_take zero xs c f = refl
edited_take (suc n) [] c f = refl
edited_take (suc n) (x ∷ xs) zero f = refl
edited_take (suc n) (x ∷ xs) (suc c) f = ap (λ l. x ∷ l) (edited_take n xs c f)

pub edited_left : (xs ys : List Coverage) (c : ℕ) (f : Coverage → Coverage) → c < length xs → edited (xs ++ ys) c f ≡ edited xs c f ++ ys
edited_left [] ys c f h = absurd (omega arith)
edited_left (x ∷ xs) ys zero f h = refl
edited_left (x ∷ xs) ys (suc c) f h = ap (λ l. x ∷ l) (edited_left xs ys c f (omega arith))

pub edited_right : (xs ys : List Coverage) (c : ℕ) (f : Coverage → Coverage) → length xs ≤ c → edited (xs ++ ys) c f ≡ xs ++ edited ys (c - length xs) f
edited_right [] ys c f h = ap (λ i. edited ys i f) (let e : c ≡ c - 0 = omega arith in e)
edited_right (x ∷ xs) ys zero f h = absurd (omega arith)
edited_right (x ∷ xs) ys (suc c) f h = ap (λ l. x ∷ l) (edited_right xs ys c f (omega arith) ∙ ap (λ i. xs ++ edited ys i f) (let e : c - length xs ≡ suc c - suc (length xs) = omega arith in e))
