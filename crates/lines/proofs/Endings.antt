-- How a line ends: with a closing bracket, or with a text up to one.
use Rattle.std.proofs.Common.{◌≡◌, ◌≢◌, ℕ, suc, ◌+◌, ◌-◌, ◌≤◌, Bool, true, false, cond, eqb, List, [], ◌∷◌, ◌++◌, length, slice_get, take, drop, Some, None, Option, MatchOption, sym, refl, ap, ◌∙◌, arith, length-drop, ltb, ltb-true, ltb-false, eqb-true, nat_eq, Bor}
use Rattle.std.specs.Cmp.Lexicographic.{pointwise, same_text, other_text}
use Rattle.std.specs.Option.{ok_or}
use Rattle.std.proofs.lemmas.Option.{slice_get_within, slice_get-get_or, none-some}
use Rattle.std.proofs.lemmas.List.{drop_more, drop_all, append-nil, take-append-drop}
use Rattle.coverage.proofs.Bools.{by_test}
use Rattle.cursor.specs.declared.cursor.Cursor.{Cursor}
use Rattle.cursor.specs.Rest.{rest}
use Rattle.lines.specs.Pieces.{Piece, text, closed, onto, after, stop, Reads, Ends}
use Rattle.lines.proofs.Bytes.{goes, halts, at_end_lem}

-- ---- a closing bracket with which the line ends

module _ {w : List ℕ} {x : Piece} (from to : Cursor) (r : Reads (x ∷ []) w from to) where
  pub more_after : (b : ℕ) → slice_get to.text.now to.at ≡ Some b → stop from.at (x ∷ []) (rest from) ≡ Some to.at
  more_after b h = r.turns [] ∙ ap (stop to.at []) (drop_more to.text.now to.at 0 (slice_get_within to.text.now to.at b h)) ∙ halts to.at [] _ _ refl

  nothing : slice_get to.text.now to.at ≡ None → rest to ≡ []
  nothing h = by_test (ltb to.at (length to.text.now))
      (λ t. absurd (none-some _ (sym h ∙ slice_get-get_or to.text.now to.at 0 (ltb-true to.at (length to.text.now) t))))
      (λ t. drop_all to.at to.text.now (ltb-false to.at (length to.text.now) t))

  pub none_after : slice_get to.text.now to.at ≡ None → (stop from.at (x ∷ []) (rest from) ≡ None) × (rest from ≡ w)
  none_after h = (r.turns [] ∙ ap (stop to.at []) (nothing h) ∙ at_end_lem to.at [], r.bytes ∙ ap (λ (v : List ℕ). w ++ v) (nothing h) ∙ append-nil w)

-- ---- a text, and the closing bracket with which the line ends

-- whether bytes end with a closing bracket, c telling it of the byte before them
abbrev closing : Bool → List ℕ → Bool
closing c [] = c
closing c (b ∷ bs) = closing (eqb b 41) bs

abbrev item : Bool → Piece
item c = cond c closed text

item_onto : (c : Bool) (b : ℕ) → after (item c ∷ []) b ≡ onto (item (eqb b 41) ∷ [])
item_onto true b = by_test (eqb b 41) (λ e. rw e refl) (λ e. rw e refl)
item_onto false b = by_test (eqb b 41) (λ e. rw e refl) (λ e. rw e refl)

item_end : (c : Bool) (p : ℕ) → stop p (item c ∷ []) [] ≡ cond c None (Some (p + 0))
item_end true p = at_end_lem p (closed ∷ [])
item_end false p = at_end_lem p (text ∷ []) ∙ ap (λ (n : ℕ). Some n) (omega arith)

text_run : (c : Bool) (p : ℕ) (bs : List ℕ) → stop p (item c ∷ []) bs ≡ cond (closing c bs) None (Some (p + length bs))
text_run c p [] = item_end c p
text_run c p (b ∷ bs) =
    let e : (p + 1) + length bs ≡ p + suc (length bs) = omega arith in
    goes p (item c ∷ []) (item (eqb b 41) ∷ []) b bs (item_onto c b) ∙ text_run (eqb b 41) (p + 1) bs ∙ ap (λ (n : ℕ). cond (closing (eqb b 41) bs) None (Some n)) e

closing_after : (c : Bool) (bs : List ℕ) → closing c (bs ++ (41 ∷ [])) ≡ true
closing_after c [] = refl
closing_after c (b ∷ bs) = closing_after (eqb b 41) bs

closing_ends : (c : Bool) (b : ℕ) (bs : List ℕ) → closing c (b ∷ bs) ≡ true → drop (length bs) (b ∷ bs) ≡ 41 ∷ []
closing_ends c b [] h = ap (λ (x : ℕ). x ∷ []) (eqb-true b 41 h)
closing_ends c b (x ∷ bs) h = closing_ends (eqb b 41) x bs h

not_closing : (bs : List ℕ) → (drop (length bs - 1) bs ≢ 41 ∷ []) → closing false bs ≡ false
not_closing [] h = refl
not_closing (b ∷ bs) h = by_test (closing false (b ∷ bs)) (λ e. absurd (h (ap (λ (n : ℕ). drop n (b ∷ bs)) (omega arith) ∙ closing_ends false b bs e))) (λ e. e)

-- what stands from the place on, and what is left of it without a closing bracket
pub query_read : (from : Cursor) (bs : List ℕ) → bs ≡ rest from → from.at ≤ length from.text.now → (o : Option (Bor (List ℕ)))
    → MatchOption o (pointwise nat_eq (drop (length bs - 1) bs) (41 ∷ []) ≡ false) (λ x. (pointwise nat_eq (drop (length bs - 1) bs) (41 ∷ []) ≡ true) × (x.now ≡ take (length bs - 1) bs) × (length x.now + 1 ≡ length bs))
    → Ends (text ∷ []) (λ w q. w ≡ q.now ++ (41 ∷ [])) from (ok_or o (length from.text.now))
query_read from bs e h None m =
    let d = length-drop from.at from.text.now in
    ap (stop from.at (text ∷ [])) (sym e) ∙ text_run false from.at bs ∙ ap (λ (c : Bool). cond c None (Some (from.at + length bs))) (not_closing bs (other_text _ _ (sym m))) ∙ ap (λ (n : ℕ). Some n) (ap (λ (v : List ℕ). from.at + length v) e ∙ omega arith)
query_read from bs e h (Some q) m =
    let b : bs ≡ q.now ++ (41 ∷ []) = sym (take-append-drop (length bs - 1) bs) ∙ ap (λ (v : List ℕ). take (length bs - 1) bs ++ v) (same_text _ _ (sym m.0)) ∙ ap (λ (v : List ℕ). v ++ (41 ∷ [])) (sym m.1) in
    (ap (stop from.at (text ∷ [])) (sym e) ∙ text_run false from.at bs ∙ ap (λ (c : Bool). cond c None (Some (from.at + length bs))) (ap (closing false) b ∙ closing_after false q.now), sym e ∙ b)
