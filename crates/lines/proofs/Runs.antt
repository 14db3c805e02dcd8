-- Runs of digits and of the bytes of a name.
use Rattle.std.proofs.Common.{◌≡◌, ℕ, suc, ◌+◌, ◌-◌, ◌<◌, Bool, true, false, cond, ◌&&◌, List, [], ◌∷◌, ◌++◌, length, take, drop, Some, sym, refl, ap, ◌∙◌, subst, one-add, arith}
use Rattle.std.specs.List.{between, prefix_len}
use Rattle.std.proofs.lemmas.List.{drop-drop}
use Rattle.std.proofs.lemmas.List.Folds.{length-prefix_len}
use Rattle.coverage.proofs.Bools.{by_test, and_both}
use Rattle.cursor.specs.declared.cursor.Cursor.{Cursor}
use Rattle.cursor.specs.Rest.{rest}
use Rattle.lines.specs.Numerals.{is_digit, all_digits, is_count}
use Rattle.lines.specs.Pieces.{Piece, digits, more, name, is_name_byte, is_grid_name, stuck, onto, after, complete, stop, Reads, Stops}
use Rattle.lines.proofs.Bytes.{alike, goes, halts, at_end_lem}

-- the run of a byte that is of the sort, and of one that isn't
module _ (sort : ℕ → Bool) (b : ℕ) (bs : List ℕ) where
  run_yes : sort b ≡ true → prefix_len sort (b ∷ bs) ≡ suc (prefix_len sort bs)
  run_yes e = ap (λ (c : Bool). cond c (1 + prefix_len sort bs) 0) e ∙ one-add _

  run_no : sort b ≡ false → prefix_len sort (b ∷ bs) ≡ 0
  run_no e = ap (λ (c : Bool). cond c (1 + prefix_len sort bs) 0) e

-- the bytes of a run are all of the sort
module _ (sort : ℕ → Bool) (all : List ℕ → Bool) (none : all [] ≡ true) (one : (b : ℕ) (bs : List ℕ) → all (b ∷ bs) ≡ (sort b && all bs)) where
  all_one : (b : ℕ) (bs : List ℕ) → all (take (prefix_len sort bs) bs) ≡ true → all (take (prefix_len sort (b ∷ bs)) (b ∷ bs)) ≡ true
  all_one b bs i = by_test (sort b)
      (λ e. ap (λ (k : ℕ). all (take k (b ∷ bs))) (run_yes sort b bs e) ∙ one b _ ∙ and_both _ _ e i)
      (λ e. ap (λ (k : ℕ). all (take k (b ∷ bs))) (run_no sort b bs e) ∙ none)

  all_taken : (bs : List ℕ) → all (take (prefix_len sort bs) bs) ≡ true
  all_taken [] = none
  all_taken (b ∷ bs) = all_one b bs (all_taken bs)

-- a piece that takes bytes of one sort as long as they come, and then gives way
module _ (sort : ℕ → Bool) (x : Piece)
    (taken : (s : List Piece) (b : ℕ) → sort b ≡ true → after (x ∷ s) b ≡ onto (x ∷ s))
    (left : (s : List Piece) (b : ℕ) → sort b ≡ false → after (x ∷ s) b ≡ after s b)
    (ended : (s : List Piece) → complete (x ∷ s) ≡ complete s) where
  run_one : (p : ℕ) (s : List Piece) (b : ℕ) (bs : List ℕ) → ((q : ℕ) → stop q (x ∷ s) bs ≡ stop (q + prefix_len sort bs) s (drop (prefix_len sort bs) bs)) → stop p (x ∷ s) (b ∷ bs) ≡ stop (p + prefix_len sort (b ∷ bs)) s (drop (prefix_len sort (b ∷ bs)) (b ∷ bs))
  run_one p s b bs next = by_test (sort b)
      (λ e.
      let m : (p + 1) + prefix_len sort bs ≡ p + suc (prefix_len sort bs) = omega arith in
      goes p (x ∷ s) (x ∷ s) b bs (taken s b e) ∙ next (p + 1) ∙ ap (λ (k : ℕ). stop k s (drop (prefix_len sort bs) bs)) m ∙ ap (λ (k : ℕ). stop (p + k) s (drop k (b ∷ bs))) (sym (run_yes sort b bs e)))
      (λ e.
      let m : p ≡ p + 0 = omega arith in
      alike p (x ∷ s) s (b ∷ bs) (ended s) (λ c r q. left s c (subst (λ (y : ℕ). sort y ≡ false) (first q) e)) ∙ ap (λ (k : ℕ). stop k s (b ∷ bs)) m ∙ ap (λ (k : ℕ). stop (p + k) s (drop k (b ∷ bs))) (sym (run_no sort b bs e)))
    where
      first : {a c : ℕ} {xs ys : List ℕ} → a ∷ xs ≡ c ∷ ys → a ≡ c
      first q = cc

  run_all : (p : ℕ) (s : List Piece) (bs : List ℕ) → stop p (x ∷ s) bs ≡ stop (p + prefix_len sort bs) s (drop (prefix_len sort bs) bs)
  run_all p s [] = alike p (x ∷ s) s [] (ended s) (λ b r e. absurd (none e)) ∙ ap (λ (n : ℕ). stop n s []) (omega arith)
    where
      none : {b : ℕ} {r : List ℕ} → [] ≡ b ∷ r → ⊥
      none e = cc
  run_all p s (b ∷ bs) = run_one p s b bs (λ q. run_all q s bs)

-- what a cursor goes past where a test takes the bytes of a sort
pub record Run (sort : ℕ → Bool) (w : List ℕ) (from to : Cursor) : Type 0 where
  pub text : to.text.now ≡ from.text.now
  pub part : w ≡ between from.at to.at from.text.now
  pub bytes : rest from ≡ w ++ rest to
  pub end : to.at ≡ from.at + prefix_len sort (rest from)

module _ {sort : ℕ → Bool} {w : List ℕ} {from to : Cursor} (run : Run sort w from to) where
  run_bytes : w ≡ take (prefix_len sort (rest from)) (rest from)
  run_bytes = let e = run.end in let m : to.at - from.at ≡ prefix_len sort (rest from) = omega arith in run.part ∙ ap (λ (n : ℕ). take n (rest from)) m

  run_length : length w ≡ prefix_len sort (rest from)
  run_length = ap length run_bytes ∙ length-prefix_len sort (rest from)

  run_reads : (x : Piece) → ((p : ℕ) (s : List Piece) (bs : List ℕ) → stop p (x ∷ s) bs ≡ stop (p + prefix_len sort bs) s (drop (prefix_len sort bs) bs)) → Reads (x ∷ []) w from to
  run_reads x all =
      let n = run_length in
      let e = run.end in
      record {
        text = run.text;
        place = omega arith;
        bytes = run.bytes;
        turns = λ s. all from.at s (rest from) ∙ ap (stop (from.at + prefix_len sort (rest from)) s) (drop-drop _ from.at from.text.now) ∙ ap (λ (k : ℕ). stop k s (drop k from.text.now)) (sym e) ∙ ap (λ (t : List ℕ). stop to.at s (drop to.at t)) (sym run.text);
      }

-- ---- the bytes of a name

pub name_reads : {w : List ℕ} {from to : Cursor} → Run is_name_byte w from to → Reads (name ∷ []) w from to
name_reads run = run_reads run name (run_all is_name_byte name (λ s b e. ap (λ (c : Bool). cond c (onto (name ∷ s)) (after s b)) e) (λ s b e. ap (λ (c : Bool). cond c (onto (name ∷ s)) (after s b)) e) (λ s. refl))

pub name_bytes : {w : List ℕ} {from to : Cursor} → Run is_name_byte w from to → is_grid_name w ≡ true
name_bytes {from = from} run = ap is_grid_name (run_bytes run) ∙ all_taken is_name_byte is_grid_name refl (λ b bs. refl) (rest from)

-- ---- digits, one at least

digits_none : (p : ℕ) (s : List Piece) (bs : List ℕ) → prefix_len is_digit bs ≡ 0 → stop p (digits ∷ s) bs ≡ Some p
digits_none p s [] h = at_end_lem p (digits ∷ s)
digits_none p s (b ∷ bs) h = by_test (is_digit b)
    (λ e. absurd (let n = run_yes is_digit b bs e in omega arith))
    (λ e. halts p (digits ∷ s) b bs (ap (λ (c : Bool). cond c (onto (more ∷ s)) stuck) e))

digits_some : (p : ℕ) (s : List Piece) (bs : List ℕ) → 0 < prefix_len is_digit bs → stop p (digits ∷ s) bs ≡ stop p (more ∷ s) bs
digits_some p s [] h = absurd (omega arith)
digits_some p s (b ∷ bs) h = by_test (is_digit b)
    (λ e. goes p (digits ∷ s) (more ∷ s) b bs (ap (λ (c : Bool). cond c (onto (more ∷ s)) stuck) e) ∙ sym (goes p (more ∷ s) (more ∷ s) b bs (ap (λ (c : Bool). cond c (onto (more ∷ s)) (after s b)) e)))
    (λ e. absurd (let n = run_no is_digit b bs e in omega arith))

some_count : (w : List ℕ) → 0 < length w → all_digits w ≡ true → is_count w ≡ true
some_count [] h e = absurd (omega arith)
some_count (b ∷ w) h e = e

more_reads : {w : List ℕ} {from to : Cursor} → Run is_digit w from to → Reads (more ∷ []) w from to
more_reads run = run_reads run more (run_all is_digit more (λ s b e. ap (λ (c : Bool). cond c (onto (more ∷ s)) (after s b)) e) (λ s b e. ap (λ (c : Bool). cond c (onto (more ∷ s)) (after s b)) e) (λ s. refl))

pub no_digits : {w : List ℕ} {from to : Cursor} → Run is_digit w from to → length w ≡ 0 → Stops (digits ∷ []) from to.at
no_digits {from = from} run h =
    let n = run_length run in
    let e = run.end in
    let i = from.within in
    record { forward = omega arith; within = omega arith; turns = λ s. digits_none from.at s (rest from) (omega arith) ∙ ap (λ (k : ℕ). Some k) (omega arith) }

pub some_digits : {w : List ℕ} {from to : Cursor} → Run is_digit w from to → 0 < length w → Reads (digits ∷ []) w from to
some_digits {from = from} run h =
    let r = more_reads run in
    let n = run_length run in
    record { text = r.text; place = r.place; bytes = r.bytes; turns = λ s. digits_some from.at s (rest from) (omega arith) ∙ r.turns s }

pub digits_count : {w : List ℕ} {from to : Cursor} → Run is_digit w from to → 0 < length w → is_count w ≡ true
digits_count {w} {from} run h = some_count w h (ap all_digits (run_bytes run) ∙ all_taken is_digit all_digits refl (λ b bs. refl) (rest from))
