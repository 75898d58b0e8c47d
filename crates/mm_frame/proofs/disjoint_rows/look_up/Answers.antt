use Rattle.std.proofs.Common.{ℕ, List, ◌<◌, ◌≤◌, subst, ◌∙◌, Contains}
use Rattle.mm_frame.proofs.lemmas.pairs.PairAnswerLemmas.{first_in_rows, first_told, later_common, active_told, next_answer}
use Rattle.mm_frame.proofs.disjoint_rows.look_up.Goals as goal

pub returns-then-is_active_number-clause-value : goal.returns-then-is_active_number-clause-value
returns-then-is_active_number-clause-value c all before x y table reads e f m a b apart =
    let known = c.known-known.result in
    let answer = c.known-known.ensures all before m x y a b in
    active_told all before table c.args.blocks.now c.args.first c.args.second x y known.below known.common reads a b apart answer c.if-is_active_number.ensures

pub returns : goal.returns
returns c = record {
  value = λ all before x y table reads e f m a b apart. let blocks = c.args.blocks.now in
      let known = c.known-known.result in
      let answer = c.known-known.ensures all before m x y a b in
      let common = c.first_common-common.ensures in
      let both = first_in_rows blocks c.args.row.now c.args.other.now _ _ known.below c.first_common-common.result e f (reads.knows c.args.first x a).rising (reads.knows c.args.second y b).rising
      (λ r s. record { some = common.some r s; least = common.least r s; none = common.none r s }) in
      c.is_some.ensures ∙ (first_told all before table blocks c.args.first c.args.second x y known.below c.first_common-common.result reads a b apart
      (later_common all before table blocks c.args.first c.args.second x y known.below known.common reads a b answer c.if-is_active_number.ensures) both);
  answers = λ table e f all before reads m. c.in_ok-keep.ensures all before m (λ x y a b. (
      let blocks = c.args.blocks.now in
      let known = c.known-known.result in
      let answer = c.known-known.ensures all before m x y a b in
      let common = c.first_common-common.ensures in
      let both = first_in_rows blocks c.args.row.now c.args.other.now _ _ known.below c.first_common-common.result e f (reads.knows c.args.first x a).rising (reads.knows c.args.second y b).rising
      (λ r s. record { some = common.some r s; least = common.least r s; none = common.none r s }) in
      let short = subst (λ (w : List ℕ). (count : ℕ) → ((n : ℕ) → Contains w n → n < count) → c.end_of-below.result ≤ count) e c.end_of-below.ensures in
      next_answer all before table blocks c.args.first c.args.second x y known.below c.end_of-below.result known.common c.first_common-common.result reads a b answer c.if-is_active_number.ensures both short));
}
