use Rattle.std.proofs.Common.{ℕ, List}
use Rattle.mm_store.{specs.Language.{FilesView.{files_in}, Walking.{IsWalk}}, proofs.lemmas.expansion.TurnLemmas.{turns}}
use Rattle.mm_store.proofs.expanding.push_rest.Given as goal

abbrev pub invariant-loop-spot : goal.invariant-loop-spot
invariant-loop-spot l = (top : List ℕ) → IsWalk (files_in l.files) top l.initial.items.items l.initial.walk → IsWalk (files_in l.files) top l.items.items l.walk

abbrev pub decreases-loop-spot : goal.decreases-loop-spot
decreases-loop-spot l = turns (files_in l.files) l.walk
