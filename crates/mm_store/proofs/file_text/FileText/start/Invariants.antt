use Rattle.std.{proofs.Common.{map, take}, specs.List.{concat}}
use Rattle.mm_store.specs.{Language.Pieces.{text_under}, Code.Lines.{IsStart}}
use Rattle.mm_store.proofs.file_text.FileText.start.Given as goal

abbrev pub invariant-loop-before : goal.invariant-loop-before
invariant-loop-before l = IsStart (concat (take l.before (map (text_under l.pieces) l.fn.self.keys.items))) l.start
