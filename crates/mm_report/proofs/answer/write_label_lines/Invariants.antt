use Rattle.std.{proofs.Common.{List, take}, specs.Io.KnownBytes.{Appends}}
use Rattle.mm_keep.specs.{mm_statement.Language.Database.{Located, IsDatabase}, mm_frame.Language.Base.{base_of}}
use Rattle.mm_script.specs.Language.Stream.{written}
use Rattle.mm_report.proofs.LabelLemmas.{lines_of}
use Rattle.mm_report.proofs.answer.write_label_lines.Given as goal

abbrev pub invariant-loop-i : goal.invariant-loop-i
invariant-loop-i g l =
    (items : List Located) → IsDatabase l.session.files l.session.top items
    → Appends (written g.W.Write.contents l.initial.to) (written g.W.Write.contents l.to) (lines_of (base_of items) (take l.i-index l.items))
