use Rattle.std.proofs.Common.{◌≡◌, map, take}
use Rattle.mm_keep.specs.mm_text.Language.Asked.{asked}
use Rattle.mm_script.specs.Language.Commands.{edit_in}
use Rattle.mm_report.proofs.answer.edits_of.Given as goal

abbrev pub invariant-loop-one : goal.invariant-loop-one
invariant-loop-one l = map asked l.edits.items ≡ map (edit_in l.bytes) (take l.one-index l.found)
