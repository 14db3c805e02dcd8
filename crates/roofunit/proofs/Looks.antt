-- A look is served.
use Rattle.std.proofs.Common.{◌≡◌, ℕ, List, ℤ, IfOk, Ok, Err, Option, Result, sym, refl, subst, inl}
use Rattle.std.specs.declared.alloc.AllocError.{AllocError}
use Rattle.coverage.specs.Axes.{Point, coordinates}
use Rattle.shelf.specs.Meaning.{Coverage, look_answer}
use Rattle.shelf.specs.declared.fault.ShelfFault.{ShelfFault}
use Rattle.lines.specs.declared.command.Command.{Command}
use Rattle.lines.specs.declared.command.Command.TheVariants.{Look}
use Rattle.roofunit.specs.declared.reply.Reply.{Reply}
use Rattle.roofunit.specs.Replies.{LookTold}
use Rattle.roofunit.specs.Answers.{Served}

pub look_served : (m : List Coverage) (k : Command) (c : ℕ) (at : Point) (r : Result (Option ℤ) ShelfFault) (p : Result Reply AllocError) → k ≡ Look c at → r ≡ look_answer m c (coordinates at) → IfOk p (LookTold r) → Served m k m p
look_served m k c at r (Ok p) e q h = subst (λ (x : Command). Served m x m (Ok p)) (sym e) (refl, subst (λ (x : Result (Option ℤ) ShelfFault). LookTold x p) q h)
look_served m k c at r (Err p) e q h = inl refl
