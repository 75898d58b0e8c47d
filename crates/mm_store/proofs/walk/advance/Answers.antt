use Rattle.std.proofs.{Common.{rules, length-append}, lemmas.List.{get_or_at}}
use Rattle.mm_store.proofs.lemmas.expansion.StackLemmas.{set_last}
use Rattle.mm_store.proofs.walk.advance.Goals as goal

pub returns-clause-moved : goal.returns-clause-moved
returns-clause-moved c front level last = search (rules, get_or_at, length-append, set_last) steps 200000
