use Rattle.std.{proofs.Common.{◌≡◌, take}, specs.List.{list_all}}
use Rattle.mm_text.specs.Language.Reading.{is_allowed}
use Rattle.mm_text.proofs.whole_text.is_all_text.Given as goal

abbrev pub invariant-loop-at : goal.invariant-loop-at
invariant-loop-at l = l.all ≡ list_all is_allowed (take l.at l.text)
