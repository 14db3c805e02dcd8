-- Where a line stops, byte after byte.
use Rattle.std.proofs.Common.{◌≡◌, ℕ, suc, ◌+◌, Bool, cond, List, [], ◌∷◌, Some, None, sym, refl, ap, ◌∙◌, arith}
use Rattle.lines.specs.Pieces.{Piece, stuck, onto, after, complete, follow, stop}

pub at_byte : (p : ℕ) (s : List Piece) (b : ℕ) (bs : List ℕ) → stop p s (b ∷ bs) ≡ follow (λ s'. stop (suc p) s' bs) p (after s b)
unfolding stop
at_byte p s b bs = refl

pub at_end_lem : (p : ℕ) (s : List Piece) → stop p s [] ≡ cond (complete s) None (Some p)
unfolding stop
at_end_lem p s = refl

-- pieces that end alike and go on alike stop alike
pub alike : (p : ℕ) (s t : List Piece) (bs : List ℕ) → complete s ≡ complete t → ((b : ℕ) (r : List ℕ) → bs ≡ b ∷ r → after s b ≡ after t b) → stop p s bs ≡ stop p t bs
alike p s t [] e f = at_end_lem p s ∙ ap (λ (c : Bool). cond c None (Some p)) e ∙ sym (at_end_lem p t)
alike p s t (b ∷ bs) e f = at_byte p s b bs ∙ ap (follow (λ s'. stop (suc p) s' bs) p) (f b bs refl) ∙ sym (at_byte p t b bs)

-- a byte that goes on
pub goes : (p : ℕ) (s t : List Piece) (b : ℕ) (bs : List ℕ) → after s b ≡ onto t → stop p s (b ∷ bs) ≡ stop (p + 1) t bs
goes p s t b bs e = at_byte p s b bs ∙ ap (follow (λ s'. stop (suc p) s' bs) p) e ∙ ap (λ (n : ℕ). stop n t bs) (omega arith)

-- a byte that does not
pub halts : (p : ℕ) (s : List Piece) (b : ℕ) (bs : List ℕ) → after s b ≡ stuck → stop p s (b ∷ bs) ≡ Some p
halts p s b bs e = at_byte p s b bs ∙ ap (follow (λ s'. stop (suc p) s' bs) p) e
