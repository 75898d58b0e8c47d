use Rattle.std.proofs.{Common.{ℕ, ◌∙◌, ap, sym, subst, filter, All}, lemmas.Result.{IfOk-weaker}}
use Rattle.mm_frame.proofs.lemmas.{frames.HypothesisNumbers.{active_numbers_rise}, pairs.ActivePairLemmas.{flat_same}}
use Rattle.mm_frame.proofs.lemmas.pairs.FramePairs.{read_each, typed_by_numbers, variables_at, variables_if, variables_numbered, active_in_order}
use Rattle.mm_frame.specs.{Code.{PairOrder.{float_variable, float_variables}, LastItems.{is_essential_item, IsRising}}, Language.Answering.{are_paired}}
use Rattle.mm_frame.specs.Language.{Framing.{expression, mandatory_numbers, pairs_of, active_pairs}, Scope.{active_numbers}}
use Rattle.mm_machine.specs.Language.NumberedSymbols.{symbols_of, IsNumbered, ArePairsRead}
use Rattle.mm_statement.specs.Language.Item.{is_kind, Floating, item_at}
use Rattle.mm_frame.proofs.mandatory.mandatory_pairs.Goals as goal

pub returns-clause-pairs : goal.returns-clause-pairs
returns-clause-pairs c = IfOk-weaker c.active_pairs_among.result _ _ (λ pairs found all before item known answers hypotheses.
    let earlier = c.args.earlier.now in
    let kept = c.deref-2.ensures.value ∙ c.in_ok-put_typed.ensures (subst IsRising (sym known.essentials) (active_numbers_rise is_essential_item before))
    ∙ ap (float_variables earlier.essentials.now earlier.expressions.now) c.deref.ensures.value in
    let numbered = subst (All (IsNumbered all)) (sym kept) (variables_numbered all earlier.essentials.now c.args.room.now.numbers.items earlier.expressions.now known.numbered) in
    let typed =
    (let read = λ (n : ℕ). variables_if (is_kind Floating (item_at before n).kind) (expression before (item_at before n)) in
    (λ i. symbols_of all (float_variables (known.essentials i) earlier.expressions.now (hypotheses i)))
    ∙ read_each all (float_variable (active_numbers is_essential_item before) earlier.expressions.now) (mandatory_numbers before item)
    ∙ flat_same (λ n. symbols_of all (float_variable (active_numbers is_essential_item before) earlier.expressions.now n)) read
    (mandatory_numbers before item) (λ n k. variables_at all before item earlier.expressions.now n known.sound known.expressions k)
    ∙ sym (typed_by_numbers before item)) in
    let whole = ap (λ w. filter (are_paired (active_pairs before)) (pairs_of w)) (ap (symbols_of all) kept ∙ typed) ∙ active_in_order before item known.sound in
    subst (λ w. ArePairsRead all w pairs.items) whole (found all before known answers numbered)) c.active_pairs_among.ensures.pairs
