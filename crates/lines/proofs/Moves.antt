-- What stands in a line before and after a cursor moves.
use Rattle.std.proofs.Common.{◌≡◌, ◌≢◌, ℕ, suc, ◌+◌, ◌-◌, ◌<◌, ◌≤◌, Bool, true, false, eqb, List, ◌∷◌, ◌++◌, length, slice_get, get_or, take, drop, Some, MatchBool, sym, ap, ◌∙◌, arith, length-drop, ne_eqb}
use Rattle.std.specs.List.{between}
use Rattle.std.proofs.lemmas.List.{drop_more, drop-drop, take-append-drop, take_at}
use Rattle.std.proofs.lemmas.Option.{slice_get_within, get_or_from_slice_get, slice_get-get_or}
use Rattle.cursor.specs.declared.cursor.Cursor.{Cursor}
use Rattle.cursor.specs.Rest.{rest}

part_then : (line : List ℕ) (i j : ℕ) → i ≤ j → drop i line ≡ between i j line ++ drop j line
part_then line i j h =
    let e : i + (j - i) ≡ j = omega arith in
    sym (take-append-drop (j - i) (drop i line)) ∙ ap (λ (r : List ℕ). between i j line ++ r) (drop-drop (j - i) i line ∙ ap (λ (n : ℕ). drop n line) e)

module _ (from to : Cursor) (same : to.text.now ≡ from.text.now) where
  -- past bytes that stand at the place
  pub past_word : (w : List ℕ) → to.at ≡ from.at + length w → between from.at to.at from.text.now ≡ w → rest from ≡ w ++ rest to
  past_word w e m = part_then from.text.now from.at to.at (omega arith) ∙ ap (λ (v : List ℕ). v ++ drop to.at from.text.now) m ∙ ap (λ (t : List ℕ). w ++ drop to.at t) (sym same)

  -- bytes that were gone past are what stands between
  pub word_past : (w : List ℕ) → to.at ≡ from.at + length w → rest from ≡ w ++ rest to → between from.at to.at to.text.now ≡ w
  word_past w e m =
      let n : length w ≡ to.at - from.at = omega arith in
      ap (λ (t : List ℕ). between from.at to.at t) same ∙ ap (take (to.at - from.at)) m ∙ take_at w (rest to) (to.at - from.at) n

  -- a byte was eaten if it stood at the place
  abbrev pub Eaten : ℕ → Bool → Type 0
  Eaten b r = MatchBool r ((slice_get from.text.now from.at ≡ Some b) × (to.at ≡ from.at + 1)) ((slice_get from.text.now from.at ≢ Some b) × (to.at ≡ from.at))

  pub eaten : (b : ℕ) → Eaten b true → rest from ≡ b ∷ rest to
  eaten b m =
      drop_more from.text.now from.at 0 (slice_get_within from.text.now from.at b m.0) ∙ ap (λ (x : ℕ). x ∷ drop (from.at + 1) from.text.now) (get_or_from_slice_get from.text.now from.at b 0 m.0)
      ∙ ap (λ (n : ℕ). b ∷ drop n from.text.now) (sym m.1) ∙ ap (λ (t : List ℕ). b ∷ drop to.at t) (sym same)

  pub kept : (b : ℕ) → Eaten b false → rest from ≡ rest to
  kept b m = ap (λ (t : List ℕ). drop from.at t) (sym same) ∙ ap (λ (n : ℕ). drop n to.text.now) (sym m.1)

  pub other : (b : ℕ) → Eaten b false → (c : ℕ) (r : List ℕ) → rest from ≡ c ∷ r → eqb c b ≡ false
  other b m c r q =
      let n : length (rest from) ≡ suc (length r) = ap length q in
      let d = length-drop from.at from.text.now in
      let h : from.at < length from.text.now = omega arith in
      let x : get_or from.text.now from.at 0 ≡ c = first (sym (drop_more from.text.now from.at 0 h) ∙ q) in
      ne_eqb c b (λ e. m.0 (slice_get-get_or from.text.now from.at 0 h ∙ ap (λ (y : ℕ). Some y) (x ∙ e)))
    where
      first : {a c : ℕ} {xs ys : List ℕ} → a ∷ xs ≡ c ∷ ys → a ≡ c
      first q = cc
