use Rattle.mm_script.specs.declared.command.Question.TheVariants.{Axioms}
use Rattle.mm_report.proofs.AskedLemmas.{axioms_there, only_two, when_lacks, when_ok, when_stops}
use Rattle.mm_report.proofs.answer.write_axioms.Goals as goal

pub returns : goal.returns
returns g c =
    let answers = c.write_found.ensures.answers Axioms c.args.label.now c.axioms.ensures.ok c.axioms.ensures.none.0 in
    record {
      answer = when_ok answers;
      there = axioms_there c.args.session.now c.args.label.now c.axioms.result c.write_found.result c.axioms.ensures.ok c.axioms.ensures.none.0 c.write_found.ensures.there;
      write = λ e. (when_stops answers e).1;
      write_failed = λ e. (when_stops answers e).0;
      memory = λ e. when_lacks answers e;
      known = λ none. c.write_found.ensures.told (c.axioms.ensures.none.1 none);
      told = only_two answers;
    }
