use Rattle.std.proofs.Common.{sym, subst}
use Rattle.mm_frame.{specs.Language.Answering.{HasNumber}, proofs.lemmas.base.FromOlderLemmas.{list_here}}
use Rattle.mm_frame.proofs.older_assertions.shared_list.Goals as goal

pub returns-then-branch-list : goal.returns-then-branch-list
returns-then-branch-list c all lists base said by front number proof rows =
    let old = c.args.proof in
    let has = subst (HasNumber old.base.now.list_numbers old.number) (sym c.if-branch-list.true) c.in_ok-list.ensures.number in
    list_here all lists base said c.args.numbers.now c.guess-earlier.result old.number c.in_ok-k.k front number rows c.in_ok-k.ensures
    (c.in_ok-list_number.ensures.same base (all, by) old.number has)
