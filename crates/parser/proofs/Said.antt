-- The answer to a text, and the table, say what the text says.
use Rattle.std.proofs.Common.{◌≡◌, ℕ, ◌+◌, ◌-◌, ◌≤◌, Bool, true, false, cond, ◌||◌, ltb, List, [], ◌∷◌, length, drop, is_ok, Some, None, Ok, Err, Option, Result, sym, refl, ap, ◌∙◌, subst, ap₂, arith}
use Rattle.std.proofs.lemmas.Bool.{ltb-true, ltb-false, lt-ltb, le-ltb}
use Rattle.syntax.specs.Tree.{Binding, Query}
use Rattle.lexer.specs.Toks.{toks, first_bad}
use Rattle.parser.specs.declared.node.Node.{Node}
use Rattle.parser.specs.declared.fault.TextFault.{TextFault}
use Rattle.parser.specs.declared.fault.TextFault.TheVariants.{TooLong, NoQuery, TooLarge}
use Rattle.parser.specs.declared.text.Reading.{Reading}
use Rattle.parser.specs.Actions.{St, top, binding, bindings_of}
use Rattle.parser.specs.Yields.{Yield, last}
use Rattle.parser.specs.Tables.{bound_of, all_bound, constructs, StandsFor}
use Rattle.parser.specs.Machine.{Verdict, accepted, refused}
use Rattle.parser.specs.Texts.{judged, outcome, reading, TableAfter, answered}
use Rattle.parser.specs.Texts as table
use Rattle.parser.specs.Says.{text_says, read_as, Said}
use Rattle.parser.specs.Says as tree
use Rattle.parser.proofs.Due.{BindingWritten, BindingsWritten}
use Rattle.parser.proofs.Values.{Roomy, total, Operand, operand_of}
use Rattle.parser.proofs.Together.{Whole, Ended, text_together}

-- ---- bindings

binding_is : (bs : List ℕ) (b : Binding) → BindingWritten bs b → bound_of bs (binding b) ≡ b
binding_is bs b h =
    let place : b.word_place + 1 - 1 ≡ b.word_place = omega arith in
    λ j. record { word = h.0 j; word_place = place j; coverage = h.1 j; coverage_place = b.coverage_place }

bindings_are : (bs : List ℕ) (cs : List Binding) → BindingsWritten bs cs → all_bound bs (bindings_of cs) ≡ cs
bindings_are bs [] h = absurd (omega arith)
bindings_are bs (a ∷ []) h = λ j. binding_is bs a h.each.0 j ∷ []
bindings_are bs (a ∷ b ∷ []) h = λ j. binding_is bs a h.each.0 j ∷ binding_is bs b h.each.1.0 j ∷ []
bindings_are bs (a ∷ b ∷ c ∷ []) h = λ j. binding_is bs a h.each.0 j ∷ binding_is bs b h.each.1.0 j ∷ binding_is bs c h.each.1.1.0 j ∷ []
bindings_are bs (a ∷ b ∷ c ∷ d ∷ []) h = λ j. binding_is bs a h.each.0 j ∷ binding_is bs b h.each.1.0 j ∷ binding_is bs c h.each.1.1.0 j ∷ binding_is bs d h.each.1.1.1.0 j ∷ []
bindings_are bs (a ∷ b ∷ c ∷ d ∷ e ∷ cs) h = absurd (omega arith)

-- ---- the whole

none_under : (ys : List Yield) → length ys ≡ 1 → total (drop 1 ys) ≡ 0
none_under [] h = refl
none_under (y ∷ []) h = refl
none_under (y ∷ z ∷ ys) h = absurd (omega arith)

module _ {bs : List ℕ} {cs ds : List Binding} {st : St} {ys : List Yield} (w : Whole bs cs ds st ys) where
  value : Operand bs st.count st.table st.vals ys
  value = operand_of bs st.count st.table st.vals ys w.table.values (let e = w.one in omega arith)

  count_is : st.count ≡ constructs (last ys).tree
  count_is = let e = none_under ys w.one in omega (arith, w.table.counted, value.counted)

  depth_is : ltb 11 (top st).inner ≡ ltb 12 ((last ys).inner + 1)
  depth_is = go (ltb 12 ((last ys).inner + 1)) refl
    where
      go : (b : Bool) → ltb 12 ((last ys).inner + 1) ≡ b → ltb 11 (top st).inner ≡ b
      go true e = lt-ltb 11 (top st).inner (omega (arith, ltb-true 12 ((last ys).inner + 1) e, value.top.inner))
      go false e = le-ltb 11 (top st).inner (omega (arith, ltb-false 12 ((last ys).inner + 1) e, value.top.inner))

  -- the limits are passed alike
  size_is : table.too_large (reading cs st) ≡ tree.too_large (last ys)
  size_is = ap₂ (λ n b. ltb 64 n || b) count_is depth_is

  stands : st.count ≤ 64 → 64 ≤ length st.table → StandsFor bs st.table (reading cs st) (record { bindings = ds; body = (last ys).tree })
  stands few room =
      let r : Roomy st.count st.table = record { few = few; room = room } in
      record {
        bindings = bindings_are bs cs w.written ∙ w.same;
        body = value.top.tree r;
        root_there = value.top.there r;
        few = few;
        well_formed = w.table.formed r;
      }

-- ---- answers

-- as Said, where the text says a
abbrev SaidAs : Result Query TextFault → List ℕ → List Node → Result Reading TextFault → Type 0
SaidAs a bs tbl (Ok r) = (q : Query) × (a ≡ Ok q) × (64 ≤ length tbl → StandsFor bs tbl r q)
SaidAs a bs tbl (Err f) = a ≡ Err f

within : (a b : Bool) → (a || b) ≡ false → a ≡ false
within true b e = e
within false b e = refl

measured_said : (bs : List ℕ) (tbl : List Node) (u : Verdict St) (v : Verdict (List Yield)) → Ended bs u v → (is_ok (table.measured (outcome u)) ≡ true → TableAfter tbl u) → SaidAs (tree.measured v) bs tbl (table.measured (outcome u))
measured_said bs tbl (accepted cs st) (accepted ds ys) w h =
    subst (λ b. SaidAs (cond b (Err TooLarge) (Ok q)) bs tbl (table.measured (outcome (accepted cs st)))) (size_is w) (go (table.too_large (reading cs st)) refl h)
  where
    q : Query
    q = record { bindings = ds; body = (last ys).tree }

    go : (b : Bool) → table.too_large (reading cs st) ≡ b → (is_ok {E = TextFault} (cond b (Err TooLarge) (Ok (reading cs st))) ≡ true → tbl ≡ st.table) → SaidAs (cond b (Err TooLarge) (Ok q)) bs tbl (cond b (Err TooLarge) (Ok (reading cs st)))
    go true e k = refl
    go false e k = (
      q,
      refl,
      λ room. subst (λ t. StandsFor bs t (reading cs st) q) (sym (k refl)) (stands w (ltb-false 64 st.count (within _ _ e)) (subst (λ t. 64 ≤ length t) (k refl) room)),
    )
measured_said bs tbl (accepted cs st) (refused p) w h = absurd w
measured_said bs tbl (refused p) (accepted ds ys) w h = absurd w
measured_said bs tbl (refused p) (refused q) w h = ap (λ (n : ℕ). Err (NoQuery n)) (sym w)

scanned_said : (bs : List ℕ) (was tbl : List Node) (o : Option ℕ) → (is_ok (table.unless_bad o (table.measured (outcome (judged bs was)))) ≡ true → TableAfter tbl (judged bs was)) → SaidAs (tree.unless_bad o (tree.measured (read_as bs))) bs tbl (table.unless_bad o (table.measured (outcome (judged bs was))))
scanned_said bs was tbl (Some p) h = refl
scanned_said bs was tbl None h = measured_said bs tbl (judged bs was) (read_as bs) (text_together bs was) h

sized_said : (bs : List ℕ) (was tbl : List Node) (b : Bool) → (is_ok (cond b (Err TooLong) (table.unless_bad (first_bad (toks bs 0)) (table.measured (outcome (judged bs was))))) ≡ true → TableAfter tbl (judged bs was)) → SaidAs (cond b (Err TooLong) (tree.unless_bad (first_bad (toks bs 0)) (tree.measured (read_as bs)))) bs tbl (cond b (Err TooLong) (table.unless_bad (first_bad (toks bs 0)) (table.measured (outcome (judged bs was)))))
sized_said bs was tbl true h = refl
sized_said bs was tbl false h = scanned_said bs was tbl (first_bad (toks bs 0)) h

said_from : (bs : List ℕ) (tbl : List Node) (r : Result Reading TextFault) → SaidAs (text_says bs) bs tbl r → Said bs tbl r
said_from bs tbl (Ok r) h = h
said_from bs tbl (Err f) h = h

answered_as : (bs : List ℕ) (was tbl : List Node) → (is_ok (answered bs was) ≡ true → TableAfter tbl (judged bs was)) → SaidAs (text_says bs) bs tbl (answered bs was)
unfolding text_says
answered_as bs was tbl h = sized_said bs was tbl (ltb 4096 (length bs)) h

-- the answer says what the text says, and the table stands for it
pub answered_said : (bs : List ℕ) (was tbl : List Node) → (is_ok (answered bs was) ≡ true → TableAfter tbl (judged bs was)) → Said bs tbl (answered bs was)
answered_said bs was tbl h = said_from bs tbl (answered bs was) (answered_as bs was tbl h)
