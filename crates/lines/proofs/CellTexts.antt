-- The cells of a text, byte after byte.
use Rattle.std.proofs.Common.{◌≡◌, ℕ, ◌+◌, ◌<◌, ◌≤◌, Bool, cond, eqb, List, [], ◌∷◌, ◌++◌, length, length-take, get_or, take, drop, ℤ, sym, refl, ap, ◌∙◌, append_assoc, arith, eq-eqb, ne_eqb}
use Rattle.std.specs.List.{between}
use Rattle.std.proofs.lemmas.List.{drop_more, drop_all, drop-append-le, take_more}
use Rattle.std.proofs.lemmas.List.Edits.{between_none}
use Rattle.std.proofs.lemmas.Slice.{between_is}
use Rattle.lines.specs.Numerals.{signed_worth, told_cell, words_after, words_of, cells_of_words, cells_of}

-- cells were read up to a place; a word begins at from
pub record Read_to (text : List ℕ) (from at : ℕ) (cells : List ℤ) : Type 0 where
  pub forward : from ≤ at
  pub within : at ≤ length text
  pub rest : cells ++ cells_of_words (words_after (between from at text) (drop at text)) ≡ cells_of_words (words_of text)

byte_turn : (text : List ℕ) (from at : ℕ) → at < length text → words_after (between from at text) (drop at text) ≡ cond (eqb (get_or text at 0) 32) (between from at text ∷ words_after [] (drop (at + 1) text)) (words_after (between from at text ++ (get_or text at 0 ∷ [])) (drop (at + 1) text))
byte_turn text from at h = ap (words_after (between from at text)) (drop_more text at 0 h)

pub read_word : (text : List ℕ) (from at : ℕ) (cells : List ℤ) (v : ℤ) → at < length text → get_or text at 0 ≡ 32 → v ≡ told_cell (signed_worth (between from at text)) → Read_to text from at cells → Read_to text (at + 1) (at + 1) (cells ++ (v ∷ []))
read_word text from at cells v h e c r =
    let w = between from at text in
    let t : words_after w (drop at text) ≡ w ∷ words_after [] (drop (at + 1) text) = byte_turn text from at h ∙ ap (λ (b : Bool). cond b (w ∷ words_after [] (drop (at + 1) text)) (words_after (w ++ (get_or text at 0 ∷ [])) (drop (at + 1) text))) (eq-eqb _ 32 e) in
    let n : words_after (between (at + 1) (at + 1) text) (drop (at + 1) text) ≡ words_after [] (drop (at + 1) text) = ap (λ (x : List ℕ). words_after x (drop (at + 1) text)) (between_none text (at + 1)) in
    let tail = cells_of_words (words_after [] (drop (at + 1) text)) in
    record {
      forward = omega arith;
      within = omega arith;
      rest = ap (λ (x : List (List ℕ)). (cells ++ (v ∷ [])) ++ cells_of_words x) n ∙ append_assoc cells (v ∷ []) tail ∙ ap (λ (x : ℤ). cells ++ (x ∷ tail)) c ∙ sym (ap (λ (x : List (List ℕ)). cells ++ cells_of_words x) t) ∙ r.rest;
    }

byte_more : (text : List ℕ) (from at : ℕ) → from ≤ at → at < length text → between from (at + 1) text ≡ between from at text ++ (get_or text at 0 ∷ [])
byte_more text from at f h =
    let n = length-take at text in
    between_is text from (at + 1) ∙ ap (drop from) (take_more text at 0 h) ∙ drop-append-le from (take at text) (get_or text at 0 ∷ []) (omega arith) ∙ ap (λ (x : List ℕ). x ++ (get_or text at 0 ∷ [])) (sym (between_is text from at))

pub read_byte : (text : List ℕ) (from at : ℕ) (cells : List ℤ) → at < length text → (get_or text at 0 ≡ 32 → ⊥) → Read_to text from at cells → Read_to text from (at + 1) cells
read_byte text from at cells h e r =
    let w = between from at text in
    let t : words_after w (drop at text) ≡ words_after (w ++ (get_or text at 0 ∷ [])) (drop (at + 1) text) = byte_turn text from at h ∙ ap (λ (b : Bool). cond b (w ∷ words_after [] (drop (at + 1) text)) (words_after (w ++ (get_or text at 0 ∷ [])) (drop (at + 1) text))) (ne_eqb _ 32 e) in
    let f = r.forward in
    record {
      forward = omega arith;
      within = omega arith;
      rest = ap (λ (x : List ℕ). cells ++ cells_of_words (words_after x (drop (at + 1) text))) (byte_more text from at f h) ∙ sym (ap (λ (x : List (List ℕ)). cells ++ cells_of_words x) t) ∙ r.rest;
    }

some_cells : (text : List ℕ) → (length text ≡ 0 → ⊥) → cells_of text ≡ cells_of_words (words_of text)
some_cells [] h = absurd (h refl)
some_cells (b ∷ text) h = refl

pub read_all : (text : List ℕ) (from at : ℕ) (cells : List ℤ) (v : ℤ) → (length text ≡ 0 → ⊥) → at ≡ length text → v ≡ told_cell (signed_worth (between from (length text) text)) → Read_to text from at cells → cells ++ (v ∷ []) ≡ cells_of text
read_all text from at cells v h e c r =
    let w = between from at text in
    let d : drop at text ≡ [] = drop_all at text (omega arith) in
    ap (λ (x : ℤ). cells ++ (x ∷ [])) (c ∙ ap (λ (n : ℕ). told_cell (signed_worth (between from n text))) (sym e)) ∙ sym (ap (λ (x : List ℕ). cells ++ cells_of_words (words_after w x)) d) ∙ r.rest ∙ sym (some_cells text h)
