use Rattle.std.proofs.{Common.{arith, ◌∙◌, sym, refl}, lemmas.{Grind.{common_steps}, Option.{none-some}}}
use Rattle.mm_store.proofs.lemmas.files.ViewLemmas.{number_plain}
use Rattle.mm_store.proofs.files.Files.walk_from_top.Goals as goal

pub returns-in_err-from_top-in-Some-clause-no_top : goal.returns-in_err-from_top-in-Some-clause-no_top
returns-in_err-from_top-in-Some-clause-no_top c = grind (arith, common_steps, none-some) steps 200000

pub returns-in_ok-from_top-in-Some-clause-no_top : goal.returns-in_ok-from_top-in-Some-clause-no_top
returns-in_ok-from_top-in-Some-clause-no_top c = (λ e. (cc), λ e. absurd (none-some c.in-Some.number (sym e ∙ sym c.in-Some.ensures.number)))

pub returns-in_ok-from_top-in-Some-clause-ok : goal.returns-in_ok-from_top-in-Some-clause-ok
returns-in_ok-from_top-in-Some-clause-ok c = (c.in-Some.number, sym c.in-Some.ensures.number, c.in_ok-from_top-in-Some.ensures)

pub returns-in-None-clause-no_file : goal.returns-in-None-clause-no_file
returns-in-None-clause-no_file c = (λ e. sym (number_plain c.args.self.now c.args.top.now) ∙ sym c.in-None.ensures.number, λ e. refl)

pub returns-in_err-from_top-in-Some-clause-no_file : goal.returns-in_err-from_top-in-Some-clause-no_file
returns-in_err-from_top-in-Some-clause-no_file c = grind (arith, common_steps, none-some, number_plain) steps 200000

pub returns-in_ok-from_top-in-Some-clause-no_file : goal.returns-in_ok-from_top-in-Some-clause-no_file
returns-in_ok-from_top-in-Some-clause-no_file c = grind (arith, common_steps, number_plain c.args.self.now c.args.top.now, none-some) steps 200000
