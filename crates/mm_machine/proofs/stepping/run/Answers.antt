use Rattle.std.proofs.{lemmas.{Grind.{common_steps}, Bool.{false≢true}, List.{length-map, get_or_default}}, Common.{◌≡◌, ◌<◌, ◌∷◌, [], map, length, get_or, refl, ◌∙◌, subst, arith}}
use Rattle.mm_machine.specs.{Language.{Reaches.{Reaches}, NamedSteps.{actions_mean}}, declared.pattern.Entry.{Entry}, Code.{Flat.{read, read_all}, MachineState.{state_of}}}
use Rattle.mm_machine.proofs.lemmas.machine.{StackLemmas.{top_of}, StepLemmas.{stopped_says}}
use Rattle.mm_machine.proofs.stepping.run.Goals as goal

pub returns-in-Some-clause-says : goal.returns-in-Some-clause-says
returns-in-Some-clause-says g c place names is pairs all =
    grind (arith, stopped_says place (actions_mean names c.args.steps.now) (map g.S.Listed.Symbol.means c.args.statement.now) c.in-Some.outcome ((rw c.in-Some.is at c.in_ok-outcome.ensures.says) place names is pairs all)) steps 200000

pub returns-then-len-ne1-clause-says : goal.returns-then-len-ne1-clause-says
returns-then-len-ne1-clause-says g c place names is pairs all =
    let m = g.S.Symbol.means in
    let machine = c.run_through.new.machine in
    let done = (rw c.in_default.is at c.in_ok-outcome.ensures.says) place names is pairs all in
    let stack = (state_of m machine).stack in
    (done.0, stack, done.1, λ e. c.if-len-ne1.true (c.len.ensures ∙ omega (arith, machine.stack.ok, e, length-map machine.stack.items (read (map m machine.symbols.items)))))

pub returns-then-is_top-clause-says : goal.returns-then-is_top-clause-says
returns-then-is_top-clause-says g c place names is pairs all =
    let done = (rw c.in_default.is at c.in_ok-outcome.ensures.says) place names is pairs all in
    (done.0, subst (λ w. Reaches place (actions_mean names c.args.steps.now) w) (c.if-is_top.ensures.0 refl) done.1)

pub returns-else-is_top-clause-says : goal.returns-else-is_top-clause-says
returns-else-is_top-clause-says g c place names is pairs all =
    let m = g.S.Symbol.means in
    let machine = c.run_through.new.machine in
    let symbols = map m machine.symbols.items in
    let steps = actions_mean names c.args.steps.now in
    let done = (rw c.in_default.is at c.in_ok-outcome.ensures.says) place names is pairs all in
    let l = machine.stack.ok in
    let d : Entry = record { start = 0; end = 0; floor = 0 } in
    let e = read symbols (get_or machine.stack.items 0 d) in
    let some : 0 < length machine.stack.items = omega (arith, l, c.if-len-ne1.false, c.len.ensures) in
    let top : read_all symbols machine.stack.items ≡ e ∷ [] = top_of (read symbols) machine.stack.items 0 (get_or machine.stack.items 0 d) some
    (omega (arith, l, c.if-len-ne1.false, c.len.ensures)) (get_or_default machine.stack.items 0 d (get_or machine.stack.items 0 d) some) in
    grind (arith, common_steps, c.if-is_top.ensures.1, false≢true) steps 200000
