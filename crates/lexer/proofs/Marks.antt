-- A mark of two bytes, and one of one byte.
use Rattle.std.proofs.Common.{◌≡◌, ◌≢◌, ℕ, ◌+◌, Bool, true, false, ◌&&◌, ◌||◌, eqb, ltb, List, length, get_or, Some, slice_get, MatchBool, sym, refl, ◌∙◌, ap, arith}
use Rattle.std.proofs.lemmas.Bool.{ne_eqb, lt-ltb, ltb-true}
use Rattle.std.proofs.lemmas.Grind.{common_steps}
use Rattle.std.proofs.lemmas.Option.{get_or_from_slice_get, slice_get-get_or, slice_get_within}
use Rattle.lexer.specs.declared.symbol.Symbol.{Symbol}
use Rattle.lexer.specs.Tokens.{Tok, symbol, bad, Seen, seen}
use Rattle.lexer.specs.Lexing.{mark_token, pair_token, paired, mark_at}

-- a byte that stands here is eaten
pub past : (r : Bool) (P : Type 0) (x y z : ℕ) → MatchBool r (P × (x ≡ y)) ((P → ⊥) × (x ≡ z)) → P → x ≡ y
past true P x y z h p = h.1
past false P x y z h p = absurd (h.0 p)

pairs : (b : ℕ) (x : Symbol) → symbol x ≡ pair_token b → (eqb b 33 || eqb b 60 || eqb b 62) ≡ true
pairs b x e = grind (arith, common_steps)

no_pair : (b : ℕ) → bad ≡ pair_token b → (eqb b 33 || eqb b 60 || eqb b 62) ≡ false
no_pair b e = grind (arith, common_steps)

and_false : (x y : Bool) → y ≡ false → (x && y) ≡ false
and_false true y e = e
and_false false y e = refl

no_equals : (bs : List ℕ) (s : ℕ) → slice_get bs s ≢ Some 61 → (ltb s (length bs) && eqb (get_or bs s 0) 61) ≡ false
no_equals bs s h = cases (ltb s (length bs)) refl
  where
    cases : (r : Bool) → ltb s (length bs) ≡ r → (ltb s (length bs) && eqb (get_or bs s 0) 61) ≡ false
    cases true l = rw l (ne_eqb (get_or bs s 0) 61 (λ e. h (slice_get-get_or bs s 0 (ltb-true s (length bs) l) ∙ ap Some e)))
    cases false l = rw l refl

module _ (bs : List ℕ) (s b : ℕ) (first : get_or bs s 0 ≡ b) where
  pub two : (x : Symbol) → symbol x ≡ pair_token b → slice_get bs (s + 1) ≡ Some 61 → seen (symbol x) s (s + 2) ≡ mark_at bs s
  two x e h =
      let p : (eqb (get_or bs s 0) 33 || eqb (get_or bs s 0) 60 || eqb (get_or bs s 0) 62) ≡ true = ap (λ n. eqb n 33 || eqb n 60 || eqb n 62) first ∙ pairs b x e in
      let l : ltb (s + 1) (length bs) ≡ true = lt-ltb (s + 1) (length bs) (slice_get_within bs (s + 1) 61 h) in
      let q : get_or bs (s + 1) 0 ≡ 61 = get_or_from_slice_get bs (s + 1) 61 0 h in
      let g : pair_token (get_or bs s 0) ≡ symbol x = ap pair_token first ∙ sym e in
      rw (p, l, q, g) refl

  -- no pair begins with the byte
  pub alone : bad ≡ pair_token b → seen (mark_token b) s (s + 1) ≡ mark_at bs s
  alone e =
      let p : (eqb (get_or bs s 0) 33 || eqb (get_or bs s 0) 60 || eqb (get_or bs s 0) 62) ≡ false = ap (λ n. eqb n 33 || eqb n 60 || eqb n 62) first ∙ no_pair b e in
      rw p (ap (λ n. seen (mark_token n) s (s + 1)) (sym first))

  -- no `=` follows it
  pub apart : slice_get bs (s + 1) ≢ Some 61 → seen (mark_token b) s (s + 1) ≡ mark_at bs s
  apart h =
      let p : paired bs s ≡ false = and_false (eqb (get_or bs s 0) 33 || eqb (get_or bs s 0) 60 || eqb (get_or bs s 0) 62) _ (no_equals bs (s + 1) h) in
      rw p (ap (λ n. seen (mark_token n) s (s + 1)) (sym first))

-- the same at an end that is told in another way
pub placed : (t : Tok) (s : ℕ) {m n : ℕ} {x : Seen} → m ≡ n → seen t s n ≡ x → seen t s m ≡ x
placed t s e h = ap (seen t s) e ∙ h
