-- What a coverage answers under one number it answers under another, the fault told so.
use Rattle.std.proofs.Common.{◌≡◌, ℕ, Bool, true, false, cond, ◌&&◌, eqb, ltb, List, length, ℤ, Some, None, Ok, Err, Option, Result, refl, ap}
use Rattle.std.specs.Result.{MatchResult, IsErrAnd}
use Rattle.coverage.specs.Axes.{Coordinates, inside_b}
use Rattle.coverage.specs.Strips.{row_width, strips}
use Rattle.shelf.specs.declared.fault.ShelfFault.{ShelfFault}
use Rattle.shelf.specs.declared.fault.ShelfFault.TheVariants.{Outside, Fixed, NoStrip, Unfit, AlreadyThere}
use Rattle.shelf.specs.Faults.{renumbered, told}
use Rattle.shelf.specs.Meaning.{Coverage, all_fit, answer_of, cell_at, described, domain_of, fault_at, first, looked, strip_there}

pub described_told : (o : Option Coverage) (c c' : ℕ) → described o c ≡ told (described o c') c 0
described_told None c c' = refl
described_told (Some k) c c' = refl

either_told : {V : Type 0} (t : Bool) (r : V) (f g : ShelfFault) (c n : ℕ) → g ≡ renumbered f c n → cond t (Ok r) (Err g) ≡ told (cond t (Ok r) (Err f)) c n
either_told true r f g c n e = refl
either_told {V} false r f g c n e = let err : ShelfFault → Result V ShelfFault = λ h. Err h in ap err e

pub looked_told : (o : Option Coverage) (c c' : ℕ) (p : Coordinates) → looked o c p ≡ told (looked o c' p) c 0
looked_told None c c' p = refl
looked_told (Some k) c c' p = either_told (inside_b (domain_of k) p) (cell_at k p) (Outside c') (Outside c) c 0 refl

-- a fault told under other numbers
abbrev pub told_fault : Option ShelfFault → ℕ → ℕ → Option ShelfFault
told_fault None c n = None
told_fault (Some f) c n = Some (renumbered f c n)

pub tests_told : (r w p t : Bool) (c c' n n' : ℕ) →
    first (cond r (cond w (cond p None (Some (Unfit c n))) (Some (NoStrip c n))) (Some (Fixed c n))) (cond t (Some (AlreadyThere c n)) None)
    ≡ told_fault (first (cond r (cond w (cond p None (Some (Unfit c' n'))) (Some (NoStrip c' n'))) (Some (Fixed c' n'))) (cond t (Some (AlreadyThere c' n')) None)) c n
tests_told true true true true c c' n n' = refl
tests_told true true true false c c' n n' = refl
tests_told true true false t c c' n n' = refl
tests_told true false p t c c' n n' = refl
tests_told false w p t c c' n n' = refl

pub fault_told : (o : Option Coverage) (c c' n : ℕ) (cs : List ℤ) → fault_at o c n cs ≡ told_fault (fault_at o c' n cs) c n
fault_told None c c' n cs = refl
fault_told (Some k) c c' n cs =
    tests_told k.about.receives (ltb n (strips (domain_of k))) (eqb (length cs) (row_width (domain_of k)) && all_fit k.about.kind cs) (strip_there k n) c c' n n

pub answer_told : (o : Option ShelfFault) (c n : ℕ) → answer_of (told_fault o c n) ≡ told (answer_of o) c n
answer_told None c n = refl
answer_told (Some f) c n = refl

-- an answer whose fault is renumbered
pub renumbered_told : {V : Type 0} (Post : ShelfFault → ShelfFault → Type 0) (r s : Result V ShelfFault) (c n : ℕ) → MatchResult r (λ x. s ≡ Ok x) (λ e. IsErrAnd s (Post e)) →
    ((e f : ShelfFault) → Post e f → f ≡ renumbered e c n) → s ≡ told r c n
renumbered_told Post (Ok x) s c n m h = m
renumbered_told {V} Post (Err e) (Ok x) c n m h = absurd m
renumbered_told {V} Post (Err e) (Err f) c n m h = let err : ShelfFault → Result V ShelfFault = λ g. Err g in ap err (h e f m)
