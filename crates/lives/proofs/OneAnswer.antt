-- A unit in any state answers every call, and in one way.
use Rattle.std.proofs.Common.{◌≡◌, List, ◌++◌, map, drop, Some, None, Ok, Err, Option, Result, sym, refl, ap, ◌∙◌, subst}
use Rattle.coverage.specs.declared.refusal.Refusal.{Refusal}
use Rattle.shelf.specs.Meaning.{Coverage}
use Rattle.language.specs.Queries.{answer}
use Rattle.parser.specs.Says.{text_says}
use Rattle.lives.specs.Shelves.{describes, looks}
use Rattle.lives.specs.Unit.{Standing, cells_of, standing}
use Rattle.lives.specs.Entries.{entry}
use Rattle.lives.specs.Calls.{Areas, Answered, AreasAfter, after_check, after_strip, check_says, look_says, run_says, strip_says}
use Rattle.lives.specs.OneAnswer.{EveryCallHasOneAnswer}

-- areas such as a run leaves
areas_after : (m : List Coverage) (o : Option Standing) (before : Areas) (r : Result Answered Refusal) → (after : Areas) × AreasAfter m o before r after
areas_after m None before r = (before, refl)
areas_after m (Some q) before (Err f) = (before, refl)
areas_after m (Some q) before (Ok n) =
    (record { work = before.work; answer = map entry (answer (describes m) (looks m) q.query) ++ drop (cells_of q) before.answer }, record { cells_then_rest = refl; work_as_long = refl })

same_areas : (m : List Coverage) (o : Option Standing) (before after other : Areas) (r : Result Answered Refusal) → AreasAfter m o before r after → AreasAfter m o before r other → after.answer ≡ other.answer
same_areas m None before after other r h k = ap (λ (a : Areas). a.answer) (h ∙ sym k)
same_areas m (Some q) before after other (Err f) h k = ap (λ (a : Areas). a.answer) (h ∙ sym k)
same_areas m (Some q) before after other (Ok n) h k = h.cells_then_rest ∙ sym k.cells_then_rest

pub every_call_has_one_answer_lem : EveryCallHasOneAnswer
every_call_has_one_answer_lem = record {
  strip_is_answered = λ s c n cs. (strip_says s.shelf c n cs, after_strip s c n cs, (refl, refl));
  look_is_answered = λ s c x. (look_says s.shelf c x, s, (refl, refl));
  check_is_answered = λ s p text. (check_says s.shelf p text, after_check s p (text_says text) (check_says s.shelf p text), (refl, refl));
  run_is_answered = λ s p before.
      let r = run_says s.shelf p (standing s p) before in
      let a = areas_after s.shelf (standing s p) before r in
      (r, a.0, s, (refl, a.1, refl));
  strip_in_one_way = λ s u v c n cs r q h k. (h.0 ∙ sym k.0, h.1 ∙ sym k.1);
  look_in_one_way = λ s u v c x r q h k. (h.0 ∙ sym k.0, h.1 ∙ sym k.1);
  check_in_one_way = λ s u v p text r q h k.
      let e = h.0 ∙ sym k.0 in
      (e, h.1 ∙ (ap (after_check s p (text_says text)) e ∙ sym k.1));
  run_in_one_way = λ s u v p before after other r q h k.
      let e = h.0 ∙ sym k.0 in (
        (e, h.2 ∙ sym k.2),
        same_areas s.shelf (standing s p) before after other r h.1 (subst (λ (x : Result Answered Refusal). AreasAfter s.shelf (standing s p) before x other) (sym e) k.1),
      );
}
