-- An answered line leads on.
use Rattle.std.proofs.Common.{ℕ, List, Ok, Err, Result, sym, subst, inl, inr}
use Rattle.std.specs.declared.alloc.AllocError.{AllocError}
use Rattle.shelf.specs.Meaning.{Coverage}
use Rattle.lines.specs.declared.command.Command.{Command}
use Rattle.roofunit.specs.declared.reply.Reply.{Reply}
use Rattle.roofunit.specs.Answers.{Served, Stopped, Answered, Led, then_by}

by_served : (f m k : List Coverage) (c : Command) (r : Result Reply AllocError) → Led f m → Served m c k r → Led f k
by_served f m k c (Ok p) l h = then_by l c h.0
by_served f m k c (Err e) l (inl h) = subst (Led f) (sym h) l
by_served f m k c (Err e) l (inr h) = then_by l c h

by_stopped : (f m k : List Coverage) (line : List ℕ) (r : Result Reply AllocError) → Led f m → Stopped m line k r → Led f k
by_stopped f m k line (Ok p) l h = subst (Led f) (sym h.2) l
by_stopped f m k line (Err e) l h = subst (Led f) (sym h) l

pub leads : (f m k : List Coverage) (line : List ℕ) (r : Result Reply AllocError) → Led f m → Answered m line k r → Led f k
leads f m k line r l (inl h) = by_served f m k h.0 r l h.2
leads f m k line r l (inr h) = by_stopped f m k line r l h
