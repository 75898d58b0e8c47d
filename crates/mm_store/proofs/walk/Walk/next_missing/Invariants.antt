use Rattle.std.proofs.Common.{ℕ, List}
use Rattle.mm_store.{specs.{declared.item.Item.{Item}, Language.{FilesView.{files_in, plain}, Keyless.{bare}, Walking.{IsWalk, StopsOnWay}}}, proofs.lemmas.expansion.TurnLemmas.{turns}}
use Rattle.mm_store.proofs.walk.Walk.next_missing.Given as goal

abbrev pub invariant-loop-name : goal.invariant-loop-name
invariant-loop-name l = (top : List ℕ) (items : List Item) → IsWalk (bare (plain l.files)) top items l.initial.self → StopsOnWay (bare (plain l.files)) top items l.initial.self l.self

abbrev pub decreases-loop-name : goal.decreases-loop-name
decreases-loop-name l = turns (files_in l.files) l.self
