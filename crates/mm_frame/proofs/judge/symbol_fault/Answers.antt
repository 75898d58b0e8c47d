use Rattle.std.proofs.{Common.{arith, ◌∙◌, [], ap, get_or, sym}, lemmas.Grind.{common_steps}}
use Rattle.mm_frame.{specs.Code.FaultInOrder.{must_differ, symbol_fault_of}, proofs.lemmas.names.NumberLemmas.{number_at}}
use Rattle.mm_frame.proofs.judge.symbol_fault.Goals as goal

pub returns-in-Constants : goal.returns-in-Constants
returns-in-Constants c before h k a r =
    let item = c.args.statement.now in
    let name = get_or item.symbols c.args.n [] in
    let kind = c.in-Constants.ensures.kind in
    let number = number_at c.args.names.now c.args.numbers.now item.symbols c.args.n 0 a c.requires in
    let declared = c.is_declared-declared.ensures c.args.names.now before name h k number in
    c.declared_fault.ensures.constant before item c.args.n name h k number (r (ap must_differ (sym kind))) declared ∙ (λ i. symbol_fault_of (kind i) before item c.args.n name)

pub returns-in-Variables : goal.returns-in-Variables
returns-in-Variables c before h k a r =
    let item = c.args.statement.now in
    let name = get_or item.symbols c.args.n [] in
    let kind = c.in-Variables.ensures.kind in
    let number = number_at c.args.names.now c.args.numbers.now item.symbols c.args.n 0 a c.requires in
    let active = c.is_active_symbol-active.ensures c.args.names.now before name h k number in
    c.declared_fault-in-Variables.ensures.variable before item c.args.n name h k number (r (ap must_differ (sym kind))) active ∙ (λ i. symbol_fault_of (kind i) before item c.args.n name)

pub returns-in-Disjoint : goal.returns-in-Disjoint
returns-in-Disjoint c before h k a r =
    let item = c.args.statement.now in
    let name = get_or item.symbols c.args.n [] in
    let kind = c.in-Disjoint.ensures.kind in
    let number = number_at c.args.names.now c.args.numbers.now item.symbols c.args.n 0 a c.requires in
    c.disjoint_fault.ensures c.args.names.now before item c.args.n name h k number (r (ap must_differ (sym kind))) ∙ (λ i. symbol_fault_of (kind i) before item c.args.n name)

pub returns-in-Floating : goal.returns-in-Floating
returns-in-Floating c before h k a r =
    let item = c.args.statement.now in
    let name = get_or item.symbols c.args.n [] in
    let kind = c.in-Floating.ensures.kind in
    c.floating_fault.ensures c.args.names.now before item h k a ∙ (λ i. symbol_fault_of (kind i) before item c.args.n name)

pub returns-in-Essential : goal.returns-in-Essential
returns-in-Essential c before h k a r =
    let number = number_at c.args.names.now c.args.numbers.now c.args.statement.now.symbols c.args.n 0 a c.requires in
    grind (arith, common_steps, c.expression_fault.ensures c.args.names.now before _ h k number) steps 200000
