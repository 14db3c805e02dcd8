use Rattle.std.proofs.Common.{is_ok, sym, ap, ◌∙◌, subst}
use Rattle.parser.specs.Says.{Said}
use Rattle.parser.specs.Theorem.{Meant, grammatical}
use Rattle.parser.proofs.Derived.{texts_say_what_the_grammar_derives_lem}
use Rattle.parser.proofs.Meaning.{meant, only, just}
use Rattle.parser.proofs.Said.{answered_said}
use Rattle.parser.proofs.text.read.Goals as goal

pub returns : goal.returns
returns c =
    let e = c.answer.ensures.value in
    let bs = c.args.text.now in
    let was = c.args.nodes.now in
    let after = c.answer.new.nodes in
    record {
      value = e;
      table = c.answer.ensures.table;
      means = subst (Meant bs) (sym e) (meant bs was);
      only = λ k g. ap grammatical e ∙ only bs was k g;
      just = λ p k f. e ∙ just bs was p k f;
      says = subst (Said bs after) (sym e) (answered_said bs was after (λ k. c.answer.ensures.table (ap is_ok e ∙ k)));
      derived = texts_say_what_the_grammar_derives_lem.each_answer_is_meant bs;
      whole = texts_say_what_the_grammar_derives_lem.what_is_derived_is_said bs;
    }
