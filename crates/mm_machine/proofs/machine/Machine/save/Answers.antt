use Rattle.std.proofs.Common.{◌-◌, arith, length, ◌+◌, ◌<◌, ◌≤◌}
use Rattle.mm_machine.proofs.lemmas.machine.StackLemmas.{top_saved}
use Rattle.mm_machine.proofs.machine.Machine.save.Goals as goal

pub returns-then-entry-self-clause-saves : goal.returns-then-entry-self-clause-saves
returns-then-entry-self-clause-saves g c =
    let es = c.args.self.now.stack.items in
    let k = c.args.self.now.stack.ok in
    let some : c.len-count.result - 1 < length es = omega (arith, c.len-count.ensures, k, c.if-count-eq0.false) in
    let last : length es ≤ c.len-count.result - 1 + 1 = omega (arith, c.len-count.ensures, k) in
    top_saved _ es _ _ (c.len-count.result - 1) c.index-entry.result.now some last c.index-entry.ensures c.in_ok-push.ensures.items

pub returns-else-entry-self-clause-saves : goal.returns-else-entry-self-clause-saves
returns-else-entry-self-clause-saves g c =
    let es = c.args.self.now.stack.items in
    let k = c.args.self.now.stack.ok in
    let some : c.len-count.result - 1 < length es = omega (arith, c.len-count.ensures, k, c.if-count-eq0.false) in
    let last : length es ≤ c.len-count.result - 1 + 1 = omega (arith, c.len-count.ensures, k) in
    top_saved _ es _ _ (c.len-count.result - 1) c.index-entry.result.now some last c.index-entry.ensures c.in_ok-push.ensures.items

pub returns-then-count-eq0-clause-whole : goal.returns-then-count-eq0-clause-whole
returns-then-count-eq0-clause-whole g c = c.requires
