use Rattle.std.proofs.Common.{◌∙◌, sym}
use Rattle.mm_script.proofs.{SplitLemmas.{not_inside}, LineLemmas.{cut_so, empty_by, parts_of_line, is_name_by, name_space, some_by}}
use Rattle.mm_script.proofs.line.name_and_rest.Goals as goal

pub returns-in_err-name-clause-none : goal.returns-in_err-name-clause-none
returns-in_err-name-clause-none c = λ none name tail good is. not_inside 32 c.args.bytes.now name tail (c.cut_at_space.ensures.none c.in_err-name.was) is

pub returns-then-is_empty-clause-none : goal.returns-then-is_empty-clause-none
returns-then-is_empty-clause-none c = λ none name tail good is.
    good.some (sym (cut_so c.args.bytes.now c.in_ok-name.name.now c.in_ok-name.rest.now name tail c.in_ok-name.ensures.some (name_space name good) is).0
    ∙ empty_by c.in_ok-name.name.now c.if-is_empty.ensures)

pub returns-clause-some : goal.returns-clause-some
returns-clause-some c =
    let cut = c.in_ok-name.ensures.some in
    record { good = is_name_by c.in_ok-name.name.now (some_by c.in_ok-name.name.now c.if-is_empty.ensures) cut.none (parts_of_line c.args.bytes.now _ _ c.requires cut.is).0; is = cut.is }
