use Rattle.std.proofs.{lemmas.{Grind.{common_steps}, Option.{get_or_from_slice_get, slice_get_within}}, Common.{sym, subst, arith}}
use Rattle.mm_frame.{specs.Code.KeptDisjointRows.{IsCommon}, proofs.lemmas.{lists.{Members.{in_contains, contains_in, in_get}, Rising.{among_in, rising_least}}, frames.Frames.{in_at}}}
use Rattle.mm_frame.proofs.disjoint_rows.first_in_both.Goals as goal

pub returns-then-is_active_now-clause-some : goal.returns-then-is_active_now-clause-some
returns-then-is_active_now-clause-some c rising = grind (arith, common_steps, among_in, in_at, in_contains) steps 200000

pub returns-then-is_active_now-clause-least : goal.returns-then-is_active_now-clause-least
returns-then-is_active_now-clause-least c rising others n common =
    let row = c.args.row.now in
    let at = in_get n row (contains_in n row common.0) in
    rising_least row c.loop-k.k at.0 n rising c.loop-k-test.true at.1 (λ l. c.loop-k.invariant others at.0 l (subst (IsCommon c.args.blocks.now row c.args.other.now) (sym (get_or_from_slice_get row at.0 n 0 at.1)) common))

pub returns-clause-none : goal.returns-clause-none
returns-clause-none c rising n common =
    let row = c.args.row.now in
    let at = in_get n row (contains_in n row common.0) in
    let within = slice_get_within row at.0 n at.1 in
    let there = get_or_from_slice_get row at.0 n 0 at.1 in
    c.loop-k.invariant rising at.0 (omega arith) (subst (IsCommon c.args.blocks.now row c.args.other.now) (sym there) common)
