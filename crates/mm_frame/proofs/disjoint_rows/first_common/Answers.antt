use Rattle.mm_frame.proofs.lemmas.pairs.PairAnswerLemmas.{some_weaker, none_weaker}
use Rattle.mm_frame.proofs.disjoint_rows.first_common.Goals as goal

pub returns-then-row-other-clause-least : goal.returns-then-row-other-clause-least
returns-then-row-other-clause-least c rising others =
    let row = c.rest_from-row.ensures in
    let other = c.rest_from-other.ensures in
    some_weaker c.first_in_both.result (λ n least m l common. least m (row.whole rising m l common.0, other.whole others m l common.1, common.2)) (c.first_in_both.ensures.least (row.rising rising) (other.rising others))

pub returns-then-row-other-clause-none : goal.returns-then-row-other-clause-none
returns-then-row-other-clause-none c rising others =
    let other = c.rest_from-other.ensures in
    none_weaker c.first_in_both.result (λ none m l common. none m (c.rest_from-row.ensures.whole rising m l common.0, other.whole others m l common.1, common.2)) (c.first_in_both.ensures.none (other.rising others))

pub returns-else-row-other-clause-least : goal.returns-else-row-other-clause-least
returns-else-row-other-clause-least c rising others =
    let row = c.rest_from-row.ensures in
    let other = c.rest_from-other.ensures in
    some_weaker c.first_in_both-else-row-other.result (λ n least m l common. least m (other.whole others m l common.1, row.whole rising m l common.0, common.2)) (c.first_in_both-else-row-other.ensures.least (other.rising others) (row.rising rising))

pub returns-else-row-other-clause-none : goal.returns-else-row-other-clause-none
returns-else-row-other-clause-none c rising others =
    let row = c.rest_from-row.ensures in
    let other = c.rest_from-other.ensures in
    none_weaker c.first_in_both-else-row-other.result (λ none m l common. none m (other.whole others m l common.1, row.whole rising m l common.0, common.2)) (c.first_in_both-else-row-other.ensures.none (row.rising rising))
