use Rattle.std.proofs.Common.{slice_get, sym, ◌∙◌, ap, subst, subst₂}
use Rattle.mm_frame.specs.Code.KeptSortedLists.{IsJoined}
use Rattle.mm_frame.proofs.sorted_lists.SortedLists.join_of.Goals as goal

pub returns-then-join-second : goal.returns-then-join-second
returns-then-join-second c =
    let join = c.in_ok-join.join.now in
    let kept = c.self.invariant c.guess.result join (ap (λ w. slice_get w c.guess.result) (sym c.deref.ensures.value) ∙ sym c.in_ok-join.ensures) in
    subst (λ lists. IsJoined lists c.args.first c.args.second join.list) c.self.view_is
    (subst₂ (λ first second. IsJoined c.self.inside.lists.items first second join.list) c.if-join-first.true c.if-join-second.true kept)
