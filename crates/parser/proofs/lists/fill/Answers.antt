use Rattle.std.proofs.Common.{◌≡◌, ◌+◌, false, [], ◌∷◌, ◌++◌, refl, sym, ◌∙◌, ap, subst, arith}
use Rattle.std.proofs.lemmas.List.{set-get_or, length_push}
use Rattle.std.proofs.lemmas.Result.{err_from_is_err_and}
use Rattle.lexer.specs.declared.symbol.Symbol.TheVariants.{Comma}
use Rattle.parser.specs.Reads.{Eaten}
use Rattle.parser.specs.Lists.{Gives, Chain}
use Rattle.parser.proofs.Slots.{filled_more, chain_more}
use Rattle.parser.proofs.lists.fill.Goals as goal
use Rattle.parser.proofs.lists.fill.Goals.{else-loop-slot-test, then-loop-slot-test+then-not-eat}

pub returns-in_err-one : goal.returns-in_err-one
returns-in_err-one g c =
    let x = err_from_is_err_and c.from_residual.result c.from_residual.ensures.1 in
    let i = c.loop-slot.invariant in
    rw (x.1, x.2)
    record {
      more = i.0;
      last = c.loop-slot.from;
      due = c.eat.new.from;
      chain = i.1;
      few = omega (arith, c.loop-slot-test.true, i.3);
      comma = c.if-not-eat.ensures.read;
      missed = record { shown = _; left = _; met = c.in_err-one.ensures; shows = refl; leaves = refl };
    }

pub loop-slot-preserved : goal.loop-slot-preserved
loop-slot-preserved g c =
    let i = c.loop-slot.invariant in (
      i.0 ++ (c.in_ok-one.field-0 ∷ []),
      chain_more (Gives g.F.Fn c.args.one) c.args.from.now c.loop-slot.from c.eat.new.from _ i.0 c.in_ok-one.field-0 i.1 c.if-not-eat.ensures.read (record { shown = _; left = _; met = c.in_ok-one.ensures; shows = refl; leaves = refl }),
      rw (i.2, i.3) (filled_more c.args.slots.now i.0 c.in_ok-one.field-0 (omega (arith, c.loop-slot-test.true, i.3))),
      ap (λ n. n + 1) i.3 ∙ sym (length_push i.0 c.in_ok-one.field-0),
    )

pub returns : goal.returns
returns g c =
    let i = c.loop-slot.invariant in
    let R = Gives g.F.Fn c.args.one in
    elim c.loop-slot-test.branch [
      | else-loop-slot-test w ↦ (record {
        more = i.0;
        chain = subst (λ d. Chain R c.args.from.now d i.0) (sym w.from-is) i.1;
        few = omega (arith, c.loop-slot.auto.slot-index-end, i.3);
        same = w.slots-is ∙ i.2;
        over = λ h. absurd {A = Eaten Comma c.loop-slot-test.from c.loop-slot-test.from false} (omega (arith, h, i.3, w.loop-slot-test.false));
      })
      | then-loop-slot-test+then-not-eat w ↦ (
          let n : c.loop-slot-test.from ≡ c.loop-slot.from = w.from-is ∙ w.if-not-eat.ensures.read.moved in
          record {
            more = i.0;
            chain = subst (λ d. Chain R c.args.from.now d i.0) (sym n) i.1;
            few = omega (arith, c.loop-slot.auto.slot-index-end, i.3);
            same = w.slots-is ∙ set-get_or c.loop-slot.slot-items c.loop-slot.slot-index _ ∙ i.2;
            over = λ h. subst (λ d. Eaten Comma d c.loop-slot-test.from false) (sym n) (subst (λ d. Eaten Comma c.loop-slot.from d false) (sym w.from-is) w.if-not-eat.ensures.read);
          })
    ]
