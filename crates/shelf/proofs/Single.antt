-- A shelf of one coverage, and what a refusal or an accepted strip leaves.
use Rattle.std.proofs.Common.{◌≡◌, ℕ, zero, suc, List, [], ◌∷◌, ℤ, Some, None, Ok, Err, sym, ap, subst, arith}
use Rattle.std.specs.List.{slice_get}
use Rattle.shelf.specs.declared.fault.ShelfFault.{ShelfFault}
use Rattle.shelf.specs.Meaning.{Coverage, after_of, answer_of, edited, put_strip, strip_after, strip_answer, strip_fault}
use Rattle.shelf.specs.Laws.{Lawful, LawfulCoverage}

one_nth : (k : Coverage) (c : ℕ) (m : Coverage) → slice_get (k ∷ []) c ≡ Some m → k ≡ m
one_nth k zero m e = cc
one_nth k (suc c) m e = cc

none_nth : (c : ℕ) (m : Coverage) → slice_get [] c ≡ Some m → ⊥
none_nth zero m e = cc
none_nth (suc c) m e = cc

pub one_lawful : (k : Coverage) → LawfulCoverage k → Lawful (k ∷ [])
one_lawful k l = record { at_most_eight = omega arith; each = λ c m e. subst LawfulCoverage (one_nth k c m e) l }

pub none_lawful : Lawful []
none_lawful = record { at_most_eight = omega arith; each = λ c m e. absurd (none_nth c m e) }

-- a refused strip: the answer, and the meaning as it was
pub refused_is : (m : List Coverage) (c n : ℕ) (row : List ℤ) (f : ShelfFault) → strip_fault m c n row ≡ Some f →
    (Err f ≡ strip_answer m c n row) × (m ≡ strip_after m c n row)
refused_is m c n row f e = (sym (ap answer_of e), sym (ap (λ o. after_of o m c n row) e))

-- an accepted one
pub accepted_is : (m : List Coverage) (c n : ℕ) (row : List ℤ) → strip_fault m c n row ≡ None →
    (Ok tt ≡ strip_answer m c n row) × (edited m c (λ k. put_strip k n row) ≡ strip_after m c n row)
accepted_is m c n row e = (sym (ap answer_of e), sym (ap (λ o. after_of o m c n row) e))
