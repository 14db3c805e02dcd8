-- What an answer tells of the fault that it is made of.
use Rattle.std.proofs.Common.{◌≡◌, Bool, true, false, cond, Some, None, Ok, Err, Option, refl}
use Rattle.shelf.specs.Meaning.{answer_of}

pub none_from : {F : Type 0} (o : Option F) → answer_of o ≡ Ok tt → o ≡ None
none_from None e = refl
none_from (Some f) e = cc

pub some_from : {F : Type 0} (o : Option F) (f : F) → answer_of o ≡ Err f → o ≡ Some f
some_from None f e = cc
some_from (Some g) f e = cc

-- a test that finds no fault is passed, and so are the tests after it
pub cond_none : {F : Type 0} (b : Bool) (x : Option F) (f : F) → cond b x (Some f) ≡ None → (b ≡ true) × (x ≡ None)
cond_none true x f e = (refl, e)
cond_none false x f e = cc
