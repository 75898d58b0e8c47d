use Rattle.std.specs.Io.Buffered.{writer_contents}
use Rattle.mm_report.specs.mm_script.Language.Stream.{unread, written}
use Rattle.mmkeep.proofs.PerformLemmas.{cut_after}
use Rattle.mmkeep.proofs.performing.perform.Goals as goal

pub returns-in-Ok-Err-clause-stopped : goal.returns-in-Ok-Err-clause-stopped
returns-in-Ok-Err-clause-stopped g c =
    let ended = c.answer-ended in
    cut_after c.args.command.now c.args.session.now ended.new.session (unread g.R.Read.remaining c.args.reading.now) (unread g.R.Read.remaining ended.new.reading)
    (written (writer_contents g.W.Write.contents) c.args.writing.now) g.W.Write.contents ended.new.writing c.flush_buffer.new.self ended.result c.in-Ok-Err.field-0-0
    c.in-Ok-Err.is-0 ended.ensures.done c.flush_buffer.ensures.written
