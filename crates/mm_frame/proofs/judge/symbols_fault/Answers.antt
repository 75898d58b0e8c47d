use Rattle.std.proofs.Common.{◌≡◌, ◌<◌, ◌+◌, suc, length, get_or, refl, sym, ◌∙◌, ap, arith}
use Rattle.mm_frame.{specs.Code.FaultInOrder.{must_differ}, proofs.lemmas.{names.NumberLemmas.{number_at}, faults.FaultLemmas.{none_left, fault_there, passes_more, repeated_by_number, sees_next}}}
use Rattle.mm_frame.proofs.judge.symbols_fault.Goals as goal

pub returns-in-Some : goal.returns-in-Some
returns-in-Some c =
    let item = c.args.statement.now in
    let n = c.loop-n.n in
    let numbers = c.args.numbers.now in
    let differs = c.must_differ-differ.ensures ∙ ap must_differ c.kind-2.ensures.kind in
    let seen = c.in_ok-repeated.ensures c.loop-n.invariant.0 in
    let within : n < length item.symbols = omega (arith, c.loop-n-test.true, c.requires) in
    fault_there item numbers n c.symbol_place-word.result c.in-Some.number within c.symbol_place-word.ensures c.loop-n.invariant.1
    (λ before h k a.
    let number = number_at c.args.names.now numbers item.symbols n 0 a (omega (arith, within, c.requires)) in
    sym c.in-Some.is ∙ c.symbol_fault.ensures before h k a (λ d. seen.0 (differs ∙ d) ∙ repeated_by_number c.args.names.now numbers item.symbols n k.knows.distinct a number))

pub loop-n-preserved : goal.loop-n-preserved
loop-n-preserved c =
    let item = c.args.statement.now in
    let n = c.loop-n.n in
    let numbers = c.args.numbers.now in
    let differs = c.must_differ-differ.ensures ∙ ap must_differ c.kind-2.ensures.kind in
    let seen = c.in_ok-repeated.ensures c.loop-n.invariant.0 in
    let within : n < length item.symbols = omega (arith, c.loop-n-test.true, c.requires) in
    let next : n + 1 ≡ suc n = omega arith in (
      sees_next numbers (get_or numbers n 0) n (n + 1) c.is_repeated.new.seen next (omega (arith, within, c.requires)) refl seen.1,
      passes_more item numbers n (n + 1) next within c.loop-n.invariant.1
          (λ before h k a.
          let number = number_at c.args.names.now numbers item.symbols n 0 a (omega (arith, within, c.requires)) in
          sym c.in_default.is ∙ c.symbol_fault.ensures before h k a (λ d. seen.0 (differs ∙ d) ∙ repeated_by_number c.args.names.now numbers item.symbols n k.knows.distinct a number)),
    )

pub returns : goal.returns
returns c = none_left c.args.statement.now c.args.numbers.now c.loop-n.n (omega (arith, c.loop-n-test.false, c.requires)) c.loop-n.invariant.1

pub returns-then-has_expression : goal.returns-then-has_expression
returns-then-has_expression c before h k a = c.expression_symbols_fault.ensures c.args.names.now before h k a
