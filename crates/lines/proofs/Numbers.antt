-- Reading a number, and numbers with a blank between them.
use Rattle.std.proofs.Common.{◌≡◌, ℕ, ◌+◌, ◌≤◌, Bool, true, false, cond, ◌&&◌, List, [], ◌∷◌, ◌++◌, length, sym, refl, ap, ◌∙◌, append_assoc, arith, length-append}
use Rattle.std.specs.List.{between}
use Rattle.cursor.specs.declared.cursor.Cursor.{Cursor}
use Rattle.cursor.specs.Rest.{rest}
use Rattle.lines.specs.Numerals.{is_digit, is_count, is_number, words_of, all_numbers}
use Rattle.lines.specs.Pieces.{Piece, digits, more, number, others, stuck, onto, after, stop, Reads, Stops, IsPart}
use Rattle.lines.proofs.Bytes.{alike, goes}
use Rattle.lines.proofs.Moves.{Eaten, eaten, kept, other, word_past}
use Rattle.lines.proofs.Words.{count_number, number_word, words_append, numbers_append}

-- bytes that were read, of which f holds
abbrev pub Found : List Piece → (List ℕ → Bool) → Cursor → Cursor → Type 0
Found x f from to = (w : List ℕ) × Reads x w from to × (f w ≡ true)

-- they are what stands between
pub found : {x : List Piece} {f : List ℕ → Bool} (from to : Cursor) → Found x f from to → (w : List ℕ) × Reads x w from to × IsPart f w (between from.at to.at to.text.now)
found from to (w, r, h) = (w, r, (h, word_past from to r.text w r.place r.bytes))

-- ---- a number: digits, after a minus if it stands there

module _ (from to : Cursor) (same : to.text.now ≡ from.text.now) where
  signed : (b : Bool) → Eaten from to same 45 b → (s : List Piece) → stop from.at (number ∷ s) (rest from) ≡ stop to.at (digits ∷ s) (rest to)
  signed true m s = ap (stop from.at (number ∷ s)) (eaten from to same 45 m) ∙ goes from.at (number ∷ s) (digits ∷ s) 45 (rest to) refl ∙ ap (λ (n : ℕ). stop n (digits ∷ s) (rest to)) (sym m.1)
  signed false m s =
      alike from.at (number ∷ s) (digits ∷ s) (rest from) refl (λ c r q. ap (λ (t : Bool). cond t (onto (digits ∷ s)) (cond (is_digit c) (onto (more ∷ s)) stuck)) (other from to same 45 m c r q))
      ∙ ap (stop from.at (digits ∷ s)) (kept from to same 45 m) ∙ ap (λ (n : ℕ). stop n (digits ∷ s) (rest to)) (sym m.1)

  past : (b : Bool) → Eaten from to same 45 b → from.at ≤ to.at
  past true m = omega arith
  past false m = omega arith

  pub number_stops : {p : ℕ} (b : Bool) → Eaten from to same 45 b → Stops (digits ∷ []) to p → Stops (number ∷ []) from p
  number_stops b m h =
      let f = h.forward in
      let k = past b m in
      let e = ap length same in
      let l = h.within in
      record { forward = omega arith; within = omega arith; turns = λ s. signed b m s ∙ h.turns s }

  pub number_found : {w : List ℕ} (end : Cursor) (b : Bool) → Eaten from to same 45 b → Reads (digits ∷ []) w to end → is_count w ≡ true → Found (number ∷ []) is_number from end
  number_found {w} end true m r h =
      let e = r.place in
      (45 ∷ w, record { text = r.text ∙ same; place = omega arith; bytes = eaten from to same 45 m ∙ ap (λ (v : List ℕ). 45 ∷ v) r.bytes; turns = λ s. signed true m s ∙ r.turns s }, h)
  number_found {w} end false m r h =
      let e = r.place in
      (w, record { text = r.text ∙ same; place = omega arith; bytes = kept from to same 45 m ∙ r.bytes; turns = λ s. signed false m s ∙ r.turns s }, count_number w h)

-- ---- numbers

-- numbers were read, each after a blank but the first
pub record Listing (from to : Cursor) : Type 0 where
  pub bytes : List ℕ
  pub text : to.text.now ≡ from.text.now
  pub place : to.at ≡ from.at + length bytes
  pub so_far : rest from ≡ bytes ++ rest to
  pub turns : (s : List Piece) → stop from.at (number ∷ others ∷ s) (rest from) ≡ stop to.at (others ∷ s) (rest to)
  pub words : all_numbers (words_of bytes) ≡ true

one_number : (w : List ℕ) → is_number w ≡ true → all_numbers (words_of w) ≡ true
one_number w h = ap all_numbers (number_word w h) ∙ ap (λ (c : Bool). c && true) h

pub listing_one : {w : List ℕ} (from to : Cursor) → Reads (number ∷ []) w from to → is_number w ≡ true → Listing from to
listing_one {w} from to r h = record { bytes = w; text = r.text; place = r.place; so_far = r.bytes; turns = λ s. r.turns (others ∷ s); words = one_number w h }

module _ (here next : Cursor) (same : next.text.now ≡ here.text.now) where
  blank_onto : Eaten here next same 32 true → (s : List Piece) → stop here.at (others ∷ s) (rest here) ≡ stop next.at (number ∷ others ∷ s) (rest next)
  blank_onto m s = ap (stop here.at (others ∷ s)) (eaten here next same 32 m) ∙ goes here.at (others ∷ s) (number ∷ others ∷ s) 32 (rest next) refl ∙ ap (λ (n : ℕ). stop n (number ∷ others ∷ s) (rest next)) (sym m.1)

  pub listing_more : {w : List ℕ} (from to : Cursor) → Listing from here → Eaten here next same 32 true → Reads (number ∷ []) w next to → is_number w ≡ true → Listing from to
  listing_more {w} from to l m r h =
      let p = l.place in
      let q = r.place in
      let n = length-append l.bytes (32 ∷ w) in
      record {
        bytes = l.bytes ++ (32 ∷ w);
        text = r.text ∙ same ∙ l.text;
        place = omega arith;
        so_far = l.so_far ∙ ap (λ (v : List ℕ). l.bytes ++ v) (eaten here next same 32 m ∙ ap (λ (v : List ℕ). 32 ∷ v) r.bytes) ∙ sym (append_assoc l.bytes (32 ∷ w) (rest to));
        turns = λ s. l.turns s ∙ blank_onto m s ∙ r.turns (others ∷ s);
        words = ap all_numbers (words_append [] l.bytes w) ∙ numbers_append (words_of l.bytes) (words_of w) l.words (one_number w h);
      }

  pub listing_stops : {p : ℕ} (from : Cursor) → Listing from here → Eaten here next same 32 true → Stops (number ∷ []) next p → Stops (number ∷ others ∷ []) from p
  listing_stops from l m h =
      let f = h.forward in
      let p = l.place in
      let e = ap length (same ∙ l.text) in
      let k = h.within in
      record { forward = omega arith; within = omega arith; turns = λ s. l.turns s ∙ blank_onto m s ∙ h.turns (others ∷ s) }

  -- without a blank there are no further numbers
  pub listing_all : (from : Cursor) → Listing from here → Eaten here next same 32 false → Found (number ∷ others ∷ []) (λ w. all_numbers (words_of w)) from next
  listing_all from l m =
      let p = l.place in
      let e = kept here next same 32 m in (
        l.bytes,
        record {
          text = same ∙ l.text;
          place = omega arith;
          bytes = l.so_far ∙ ap (λ (v : List ℕ). l.bytes ++ v) e;
          turns = λ s. l.turns s ∙ alike here.at (others ∷ s) s (rest here) refl (λ c r q. ap (λ (t : Bool). cond t (onto (number ∷ others ∷ s)) (after s c)) (other here next same 32 m c r q)) ∙ ap (stop here.at s) e ∙ ap (λ (n : ℕ). stop n s (rest next)) (sym m.1);
        },
        l.words,
      )
