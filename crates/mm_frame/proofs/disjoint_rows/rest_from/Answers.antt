use Rattle.std.proofs.{lemmas.{Grind.{common_steps}, List.{take_rest}}, Common.{arith}}
use Rattle.mm_frame.proofs.lemmas.lists.Rising.{rest_whole}
use Rattle.mm_frame.proofs.disjoint_rows.rest_from.Goals as goal

pub returns-then-row-at-clause-whole : goal.returns-then-row-at-clause-whole
returns-then-row-at-clause-whole c rising n l there =
    grind (arith, common_steps, take_rest c.args.row.now c.match-binary_search.at, rest_whole c.args.row.now c.match-binary_search.at c.args.number n rising c.if-at-gt0.true c.if-at-row.true c.if-row-at.true l there) steps 200000
