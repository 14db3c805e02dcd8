-- The machine's verdict and the grammar.
use Rattle.std.proofs.Common.{◌≡◌, ℕ, ◌≤◌, Bool, true, false, cond, ltb, ◌⊎◌, List, [], ◌∷◌, ◌++◌, length, Some, None, Ok, Err, Option, Result, sym, refl, ap, ◌∙◌, subst, inl, inr, append_assoc, arith}
use Rattle.std.proofs.lemmas.Bool.{ltb-true, ltb-false}
use Rattle.std.proofs.lemmas.Option.{none-some}
use Rattle.lexer.specs.Toks.{Placed, toks, first_bad}
use Rattle.parser.specs.declared.node.Node.{Node}
use Rattle.parser.specs.declared.fault.TextFault.{TextFault}
use Rattle.parser.specs.declared.fault.TextFault.TheVariants.{TooLong, NoToken, NoQuery, TooLarge}
use Rattle.parser.specs.declared.text.Reading.{Reading}
use Rattle.parser.specs.Actions.{St, state, build}
use Rattle.parser.specs.Yields.{mean}
use Rattle.parser.specs.Machine.{Verdict, accepted, refused, verdict, query}
use Rattle.parser.specs.Grammar.{Admits, Begins}
use Rattle.parser.specs.Texts.{judged, outcome, reading, too_large, measured, unless_bad, answered}
use Rattle.parser.specs.Theorem.{FirstFault, EndsEarly, Refusable, Clean, Meant, grammatical}
use Rattle.parser.proofs.Back.{Ends, sound, admitted}
use Rattle.parser.proofs.Viable.{Halted, Short, Stops, stops}
use Rattle.parser.proofs.Colons.{first, rest}
use Rattle.parser.proofs.Whole.{reach_query}
use Rattle.parser.proofs.Control.{Agree, agree}

-- what is accepted with one state is accepted with the other
also : {S T : Type 0} (x : Verdict S) (y : Verdict T) → Agree x y → Ends y → Ends x
also (accepted bs st) (accepted cs st') a e = tt
also (accepted bs st) (refused q) a e = absurd a
also (refused p) (accepted cs st') a e = absurd a
also (refused p) (refused q) a e = e

-- what the grammar admits, the machine accepts
pub complete : (len : ℕ) (st : St) (ts : List Placed) → Admits ts → Ends (verdict build len query st ts)
complete len st ts g = also _ _ (agree build mean len query st [] ts) (subst Ends (sym (reach_query g.2 len).verdict) tt)

faulty : (len : ℕ) (st : St) (ts : List Placed) (p : ℕ) → Halted St build len query st ts p → FirstFault ts p
faulty len st ts p h = record {
  before = h.before;
  token = h.token;
  after = h.after;
  split = h.split;
  place = h.place;
  some = (h.rest, admitted _ h.comes);
  none = λ b. h.dead b.0 (complete len st _ b.1);
}

early : (len : ℕ) (st : St) (ts : List Placed) (p : ℕ) → verdict build len query st ts ≡ refused p → Short len query ts p → EndsEarly len ts p
early len st ts p r h = record { place = h.place; some = (h.rest, admitted _ h.comes); not_yet = λ g. subst Ends r (complete len st ts g) }

either : (len : ℕ) (st : St) (ts : List Placed) (p : ℕ) → verdict build len query st ts ≡ refused p → Stops build len query st ts p → FirstFault ts p ⊎ EndsEarly len ts p
either len st ts p r (inl h) = inl (faulty len st ts p h)
either len st ts p r (inr h) = inr (early len st ts p r h)

-- ---- faults are where they are

no_fault : (ts : List Placed) (p : ℕ) → Admits ts → FirstFault ts p → ⊥
no_fault ts p g f = f.none (f.after, subst Admits (f.split ∙ sym (append_assoc f.before (f.token ∷ []) f.after)) g)

-- the first token at which a property of fronts ends is one
uniq : (P : List Placed → Type 0) → ((a b : List Placed) → P (a ++ b) → P a) → (b : List Placed) (t : Placed) (a : List Placed) (d : List Placed) (u : Placed) (c : List Placed) → b ++ t ∷ a ≡ d ++ u ∷ c → P b → (P (b ++ t ∷ []) → ⊥) → P d → (P (d ++ u ∷ []) → ⊥) → t ≡ u
uniq P down [] t a [] u c e p n q m = first t u a c e
uniq P down [] t a (y ∷ d) u c e p n q m = absurd (n (subst (λ z. P (z ∷ [])) (sym (first t y a (d ++ u ∷ c) e)) (down (y ∷ []) d q)))
uniq P down (x ∷ b) t a [] u c e p n q m = absurd (m (subst (λ z. P (z ∷ [])) (first x u (b ++ t ∷ a) c e) (down (x ∷ []) b p)))
uniq P down (x ∷ b) t a (y ∷ d) u c e p n q m =
    let s = first x y (b ++ t ∷ a) (d ++ u ∷ c) e in
    uniq (λ l. P (x ∷ l)) (λ i j h. down (x ∷ i) j h) b t a d u c (rest x y (b ++ t ∷ a) (d ++ u ∷ c) e) p n (subst (λ z. P (z ∷ d)) (sym s) q) (λ h. m (subst (λ z. P (z ∷ (d ++ u ∷ []))) s h))

shorter : (a b : List Placed) → Begins (a ++ b) → Begins a
shorter a b g = (b ++ g.0, subst Admits (append_assoc a b g.0) g.1)

one_fault : (ts : List Placed) (p q : ℕ) → FirstFault ts p → FirstFault ts q → p ≡ q
one_fault ts p q f g =
    sym f.place ∙ ap (λ (z : Placed). z.1) (uniq Begins shorter f.before f.token f.after g.before g.token g.after (sym f.split ∙ g.split) f.some f.none g.some g.none) ∙ g.place

not_both : (len : ℕ) (ts : List Placed) (p q : ℕ) → FirstFault ts p → EndsEarly len ts q → ⊥
not_both len ts p q f g = f.none (shorter (f.before ++ f.token ∷ []) f.after (subst Begins (f.split ∙ sym (append_assoc f.before (f.token ∷ []) f.after)) g.some))

-- ---- answers

judge : (bs : List ℕ) (was : List Node) (v : Verdict St) → judged bs was ≡ v → Clean bs → Meant bs (measured (outcome v))
judge bs was (refused p) e c = (c, either (length bs) (state [] 0 was) (toks bs 0) p e (stops build (length bs) query (state [] 0 was) (toks bs 0) p e))
judge bs was (accepted js st) e c = limits (too_large (reading js st)) refl
  where
    g : Admits (toks bs 0)
    g = admitted _ (sound build (length bs) query (state [] 0 was) (toks bs 0) (subst Ends (sym e) tt))

    limits : (b : Bool) → too_large (reading js st) ≡ b → Meant bs (cond (too_large (reading js st)) (Err TooLarge) (Ok (reading js st)))
    limits true q = subst (λ b. Meant bs (cond b (Err TooLarge) (Ok (reading js st)))) (sym q) (c, g)
    limits false q = subst (λ b. Meant bs (cond b (Err TooLarge) (Ok (reading js st)))) (sym q) (c, g)

scanned : (bs : List ℕ) (was : List Node) (o : Option ℕ) → first_bad (toks bs 0) ≡ o → length bs ≤ 4096 → Meant bs (unless_bad o (measured (outcome (judged bs was))))
scanned bs was (Some p) e h = (h, e)
scanned bs was None e h = judge bs was (judged bs was) refl (record { short = h; tokens = e })

sized : (bs : List ℕ) (was : List Node) (b : Bool) → ltb 4096 (length bs) ≡ b → Meant bs (cond b (Err TooLong) (unless_bad (first_bad (toks bs 0)) (measured (outcome (judged bs was)))))
sized bs was true e = ltb-true 4096 (length bs) e
sized bs was false e = scanned bs was (first_bad (toks bs 0)) refl (ltb-false 4096 (length bs) e)

pub meant : (bs : List ℕ) (was : List Node) → Meant bs (answered bs was)
meant bs was = sized bs was (ltb 4096 (length bs)) refl

-- ---- the other way

admits_refused : (bs : List ℕ) (p : ℕ) → Admits (toks bs 0) → Refusable bs p → ⊥
admits_refused bs p g (inl f) = no_fault (toks bs 0) p g f
admits_refused bs p g (inr f) = f.not_yet g

-- what the grammar admits is refused for its size alone
only_of : (bs : List ℕ) (r : Result Reading TextFault) → Clean bs → Meant bs r → Admits (toks bs 0) → grammatical r ≡ true
only_of bs (Ok q) c h g = refl
only_of bs (Err TooLong) c h g = absurd (omega (arith, h, c.short))
only_of bs (Err (NoToken p)) c h g = absurd (none-some p (sym c.tokens ∙ h.1))
only_of bs (Err (NoQuery p)) c h g = absurd (admits_refused bs p g h.1)
only_of bs (Err TooLarge) c h g = refl

pub only : (bs : List ℕ) (was : List Node) → Clean bs → Admits (toks bs 0) → grammatical (answered bs was) ≡ true
only bs was c g = only_of bs (answered bs was) c (meant bs was) g

same_place : (bs : List ℕ) (p q : ℕ) → Refusable bs p → Refusable bs q → p ≡ q
same_place bs p q (inl f) (inl g) = one_fault (toks bs 0) p q f g
same_place bs p q (inl f) (inr g) = absurd (not_both (length bs) (toks bs 0) p q f g)
same_place bs p q (inr f) (inl g) = absurd (not_both (length bs) (toks bs 0) q p g f)
same_place bs p q (inr f) (inr g) = f.place ∙ sym g.place

just_of : (bs : List ℕ) (r : Result Reading TextFault) (p : ℕ) → Clean bs → Meant bs r → Refusable bs p → r ≡ Err (NoQuery p)
just_of bs (Ok q) p c h f = absurd (admits_refused bs p h.1 f)
just_of bs (Err TooLong) p c h f = absurd (omega (arith, h, c.short))
just_of bs (Err (NoToken q)) p c h f = absurd (none-some q (sym c.tokens ∙ h.1))
just_of bs (Err (NoQuery q)) p c h f = ap (λ k. Err (NoQuery k)) (same_place bs q p h.1 f)
just_of bs (Err TooLarge) p c h f = absurd (admits_refused bs p h.1 f)

-- the refusal is the one that the grammar gives
pub just : (bs : List ℕ) (was : List Node) (p : ℕ) → Clean bs → Refusable bs p → answered bs was ≡ Err (NoQuery p)
just bs was p c f = just_of bs (answered bs was) p c (meant bs was) f
