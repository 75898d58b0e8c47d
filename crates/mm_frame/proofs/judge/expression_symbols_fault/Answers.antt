use Rattle.std.proofs.{lemmas.{Bool.{false≢true}, Grind.{common_steps}}, Common.{◌<◌, ◌+◌, length, get_or, [], sym, ◌∙◌, arith}}
use Rattle.mm_frame.proofs.lemmas.{names.NumberLemmas.{number_at}, faults.FaultLemmas.{none_left, fault_there, passes_more, expression_is}}
use Rattle.mm_frame.proofs.judge.expression_symbols_fault.Goals as goal

pub returns-in-Some : goal.returns-in-Some
returns-in-Some c all =
    let item = c.args.statement.now in
    let n = c.loop-n.n in
    let numbers = c.args.numbers.now in
    let within : n < length numbers = omega (arith, c.loop-n-test.true) in
    fault_there item numbers n c.symbol_place-word.result c.in-Some.number (omega (arith, within, c.requires.count)) c.symbol_place-word.ensures (c.loop-n.invariant all)
    (λ before h k a. sym c.in-Some.is ∙ c.expression_fault.ensures all before _ h k (number_at all numbers item.symbols n 0 a within) ∙ expression_is item.kind c.requires.expression before item n (get_or item.symbols n []))

pub loop-n-preserved : goal.loop-n-preserved
loop-n-preserved c all =
    let item = c.args.statement.now in
    let n = c.loop-n.n in
    let numbers = c.args.numbers.now in
    let within : n < length numbers = omega (arith, c.loop-n-test.true) in
    passes_more item numbers n (n + 1) (omega arith) (omega (arith, within, c.requires.count)) (c.loop-n.invariant all)
    (λ before h k a. sym c.in_default.is ∙ c.expression_fault.ensures all before _ h k (number_at all numbers item.symbols n 0 a within) ∙ expression_is item.kind c.requires.expression before item n (get_or item.symbols n []))

pub loop-n-preserved-then-may_follow : goal.loop-n-preserved-then-may_follow
loop-n-preserved-then-may_follow c all =
    let item = c.args.statement.now in
    let n = c.loop-n.n in
    let numbers = c.args.numbers.now in
    let within : n < length numbers = omega (arith, c.loop-n-test.true) in
    passes_more item numbers n (n + 1) (omega arith) (omega (arith, within, c.requires.count)) (c.loop-n.invariant all)
    (λ before h k a. let follows = sym (c.may_follow.ensures all before (get_or item.symbols n []) h k (number_at all numbers item.symbols n 0 a within)) ∙ c.if-may_follow.true in
    (grind (arith, common_steps, false≢true) steps 200000) ∙ expression_is item.kind c.requires.expression before item n (get_or item.symbols n []))

pub returns : goal.returns
returns c all = none_left c.args.statement.now c.args.numbers.now c.loop-n.n (omega (arith, c.loop-n-test.false, c.requires.count)) (c.loop-n.invariant all)
