use Rattle.std.proofs.Common.{get_or, [], sym, ◌∙◌, arith}
use Rattle.mm_frame.{specs.Code.FaultInOrder.{floating_fault}, proofs.lemmas.names.NumberLemmas.{number_at}}
use Rattle.mm_frame.proofs.judge.floating_fault.Goals as goal

pub returns-in-1 : goal.returns-in-1
returns-in-1 c all before item h k a =
    let number = number_at all c.args.numbers.now item.symbols in
    c.typed_fault.ensures all before item (get_or item.symbols 1 []) h k (number 1 0 a (omega (arith, c.requires, c.in-1.is))) (number 0 0 a (omega (arith, c.requires, c.in-1.is)))
    ∙ (λ i. floating_fault before item (sym c.in-1.is i) (get_or item.symbols (sym c.in-1.is i) []))
