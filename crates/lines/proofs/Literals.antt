-- Fixed bytes at a place of a line.
use Rattle.std.proofs.Common.{◌≡◌, ℕ, ◌+◌, ◌<◌, Bool, true, false, cond, eqb, List, [], ◌∷◌, ◌++◌, length, Some, Ok, Err, Result, MatchResult, sym, refl, ap, ◌∙◌, arith, length-drop, eq-eqb, ne_eqb, eqb-true}
use borrow.Author.Tests.{clash}
use Rattle.std.specs.List.{between}
use Rattle.std.proofs.lemmas.List.Sums.{common_prefix_len-le}
use Rattle.coverage.proofs.Bools.{by_test}
use Rattle.cursor.specs.declared.cursor.Cursor.{Cursor}
use Rattle.cursor.specs.Rest.{rest}
use Rattle.cursor.specs.Words.{stand}
use Rattle.lines.specs.Pieces.{Piece, word, stuck, onto, stop, Read}
use Rattle.lines.proofs.Bytes.{alike, at_end_lem, goes, halts}
use Rattle.lines.proofs.Moves.{past_word}

-- they stand there, and the line goes on after them
pub word_goes : (w bs : List ℕ) (p : ℕ) (s : List Piece) → stop p (word w ∷ s) (w ++ bs) ≡ stop (p + length w) s bs
word_goes [] bs p s = alike p (word [] ∷ s) s bs refl (λ b r e. refl) ∙ ap (λ (n : ℕ). stop n s bs) (omega arith)
word_goes (c ∷ w) bs p s =
    goes p (word (c ∷ w) ∷ s) (word w ∷ s) c (w ++ bs) (ap (λ (t : Bool). cond t (onto (word w ∷ s)) stuck) (eq-eqb c c refl)) ∙ word_goes w bs (p + 1) s ∙ ap (λ (n : ℕ). stop n s bs) (omega arith)

-- other bytes stand there, and the line stops at the first of them
word_halts : (w bs : List ℕ) (p : ℕ) (s : List Piece) → stand w bs < length w → stop p (word w ∷ s) bs ≡ Some (p + stand w bs)
word_halts [] bs p s h = absurd (omega arith)
word_halts (c ∷ w) [] p s h = at_end_lem p (word (c ∷ w) ∷ s) ∙ ap (λ (n : ℕ). Some n) (omega arith)
word_halts (c ∷ w) (b ∷ bs) p s h = by_test (eqb c b)
    (λ e.
    let n : stand (c ∷ w) (b ∷ bs) ≡ 1 + stand w bs = ap (λ (t : Bool). cond t (1 + stand w bs) 0) e in
    let k : eqb b c ≡ true = eq-eqb b c (sym (eqb-true c b e)) in
    goes p (word (c ∷ w) ∷ s) (word w ∷ s) b bs (ap (λ (t : Bool). cond t (onto (word w ∷ s)) stuck) k) ∙ word_halts w bs (p + 1) s (omega arith) ∙ ap (λ (n : ℕ). Some n) (omega arith))
    (λ e.
    let n : stand (c ∷ w) (b ∷ bs) ≡ 0 = ap (λ (t : Bool). cond t (1 + stand w bs) 0) e in
    let k : eqb b c ≡ false = ne_eqb b c (λ q. clash (sym e ∙ eq-eqb c b (sym q))) in
    halts p (word (c ∷ w) ∷ s) b bs (ap (λ (t : Bool). cond t (onto (word w ∷ s)) stuck) k) ∙ ap (λ (n : ℕ). Some n) (omega arith))

pub literal_read : (w : List ℕ) (from to : Cursor) (r : Result (Unit {0}) ℕ) → to.text.now ≡ from.text.now → MatchResult r (λ u. (to.at ≡ from.at + length w) × (between from.at to.at from.text.now ≡ w)) (λ p. (to.at ≡ from.at) × (p ≡ from.at + stand w (rest from)) × (p < from.at + length w)) → Read (word w ∷ []) (λ v u. v ≡ w) from to r
literal_read w from to (Ok u) same m =
    let e = past_word from to same w m.0 m.1 in
    (w, record { text = same; place = m.0; bytes = e; turns = λ s. ap (stop from.at (word w ∷ s)) e ∙ word_goes w (rest to) from.at s ∙ ap (λ (n : ℕ). stop n s (rest to)) (sym m.0) }, refl)
literal_read w from to (Err p) same m =
    let l = common_prefix_len-le eqb w (rest from) in
    let d = length-drop from.at from.text.now in
    let i = from.within in
    record { forward = omega arith; within = omega arith; turns = λ s. word_halts w (rest from) from.at s (omega arith) ∙ ap (λ (n : ℕ). Some n) (sym m.1) }
