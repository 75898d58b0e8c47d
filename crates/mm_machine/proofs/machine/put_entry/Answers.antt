use Rattle.std.proofs.{Common.{◌++◌, ◌∷◌, [], ◌+◌, take, set, sym, ◌∙◌, ap, length-set, arith}, lemmas.List.{take_all, take_more_set, take-take, length-take-le}}
use Rattle.mm_machine.proofs.machine.put_entry.Goals as goal

pub returns-then-below-len : goal.returns-then-below-len
returns-then-below-len c =
    let es = c.args.stack.now.items in
    let k = c.args.below in
    let cut = take (k + 1) es in
    let long = length-take-le (k + 1) es (omega (arith, c.if-below-len.true, c.len.ensures, c.args.stack.now.ok)) in
    ap (λ w. set w k c.args.entry) c.truncate.ensures.items
    ∙ sym (take_all (k + 1) (set cut k c.args.entry) (omega (arith, length-set cut k c.args.entry, long)))
    ∙ take_more_set cut k c.args.entry (omega (arith, long)) ∙ ap (λ w. w ++ c.args.entry ∷ []) (take-take k (k + 1) es (omega arith))
