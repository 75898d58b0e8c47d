use Rattle.std.proofs.Common.{◌<◌, arith}
use Rattle.mm_script.{specs.{Code.{Growing.{line_bytes}, Stops.{IsBadLine}}, Language.{Commands.{pending}, Stream.{unread}}}, proofs.{BatchLemmas.{line_some}, GrowLemmas.{same_error}}}
use Rattle.mm_script.proofs.CommandLemmas.{bad_first, bad_edit, cut_edit, held_edit, batch_next, line_next}
use Rattle.mm_script.proofs.entry.read_command.Goals as goal

pub returns-in_default-clause-bad : goal.returns-in_default-clause-bad
returns-in_default-clause-bad g c = λ cut.
    let line = c.args.line in
    let some : line.start < line.end = omega (arith, c.requires.start, c.requires.some) in
    let bytes = pending c.args.input.now in
    let bad : IsBadLine (line_bytes bytes line) = record {
      some = line_some bytes _ line c.requires.line some;
      one_line = c.requires.line.one_line;
      no_command = rw c.pending.ensures at (c.command_asked.ensures.none c.in_default.is);
    } in
    bad_first bytes (unread g.R.Read.remaining c.args.reading.now) line c.requires.line c.requires.start bad

pub returns-in_err-read-in-Change-clause-bad : goal.returns-in_err-read-in-Change-clause-bad
returns-in_err-read-in-Change-clause-bad g c = λ bad.
    bad_edit (pending c.read_edit.new.input) (unread g.R.Read.remaining c.read_edit.new.reading) c.args.line.start c.requires.start
    (c.in_err-read-in-Change.ensures.bad (same_error c.from_residual.result c.in_err-read-in-Change.field-0.0 _ c.from_residual.ensures.1 bad))

pub returns-in_err-read-in-Change-clause-cut : goal.returns-in_err-read-in-Change-clause-cut
returns-in_err-read-in-Change-clause-cut g c = λ cut.
    let ended = c.in_err-read-in-Change.ensures.cut (same_error c.from_residual.result c.in_err-read-in-Change.field-0.0 _ c.from_residual.ensures.1 cut) in
    cut_edit (pending c.read_edit.new.input) (unread g.R.Read.remaining c.read_edit.new.reading) c.args.line.start c.requires.start ended.0 ended.1

pub returns-in_err-read-in-Change-clause-read : goal.returns-in_err-read-in-Change-clause-read
returns-in_err-read-in-Change-clause-read g c = λ stop.
    held_edit (pending c.read_edit.new.input) c.args.line.start c.requires.start (c.in_err-read-in-Change.ensures.read (same_error c.from_residual.result c.in_err-read-in-Change.field-0.0 _ c.from_residual.ensures.1 stop))

pub returns-in_ok-read-in-Batch-clause-found : goal.returns-in_ok-read-in-Batch-clause-found
returns-in_ok-read-in-Batch-clause-found g c =
    batch_next _ _ c.in-Batch.count _ c.in_ok-read-in-Batch.read.found.items c.in_ok-read-in-Batch.ensures.batch c.in_ok-read-in-Batch.ensures.all (λ command is. is)

pub returns-in-Alone-clause-found : goal.returns-in-Alone-clause-found
returns-in-Alone-clause-found g c =
    line_next (pending c.args.input.now) _ c.args.line c.in-Alone.command c.behind.result c.requires.line c.requires.start (rw (c.in-Alone.is, c.pending.ensures) at c.in-Some.ensures.some) c.behind.ensures.fed c.behind.ensures.unfed
