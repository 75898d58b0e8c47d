use Rattle.std.proofs.{Common.{◌≡◌, ◌<◌, arith, false, refl, rules}, lemmas.Bool.{false_from_ne_true, not-true}}
use Rattle.mm_script.specs.{declared.{command.{Complete.{Complete}, EditAt.{EditAt}}, script_lines.LineAt.{LineAt}, error.ScriptError.{ScriptError}}, Code.Growing.{line_bytes}}
use Rattle.mm_script.{specs.{Code.Stops.{IsBadEditLine}, Language.Commands.{pending, edit_in}}, proofs.GrowLemmas.{blanks_grown, grows_then, other_error, same_error}}
use Rattle.mm_script.proofs.BatchLemmas.{bad_listed, bad_text, begun_holds, edit_missing, line_some, none_left, short_holds, text_stops}
use Rattle.mm_script.specs.declared.error.ScriptError.TheVariants as errors
use Rattle.mm_script.proofs.edits.read_listed.Goals as goal

pub returns-in_err-line : goal.returns-in_err-line
returns-in_err-line g c =
    let fails = c.in_err-line.ensures in
    let same = λ (e : ScriptError). same_error {T = LineAt} c.from_residual.result c.in_err-line.field-0.0 e c.from_residual.ensures.1 in
    let other = λ (e : ScriptError). other_error c.from_residual.result _ c.in_err-line.field-0.0 errors.Read errors.Memory e c.from_residual.ensures.1 refl
    fails.told in
    record {
      grows = fails.grows;
      edit = search rules;
      last = search rules;
      fewer = search rules;
      bad = λ bad n front f count. absurd (other _ (λ e. cc) (λ e. cc) bad);
      cut = λ cut n front f count. absurd (other _ (λ e. cc) (λ e. cc) cut);
      read = λ read n front f count. let begun = fails.read (same _ read) in
          begun_holds c.args.input.now c.read_some_line.new.input _ _ n front c.args.from begun.start f fails.grows begun.blanks begun.one_line;
      failed = λ read. fails.failed (same _ read);
      told = λ write. other _ (λ e. cc) (λ e. cc) write;
    }

pub returns-then-line-clause-cut : goal.returns-then-line-clause-cut
returns-then-line-clause-cut g c = λ cut n front f count.
    let line = c.in_ok-line.line in
    let unfed : line.fed ≡ false = false_from_ne_true line.fed (λ fed. absurd (omega (arith, c.in_ok-line.ensures.some fed))) in
    let last = c.in_ok-line.ensures.line.unfed unfed in
    none_left c.args.input.now c.read_some_line.new.input _ _ n front c.args.from line.start f c.in_ok-line.ensures.grows c.in_ok-line.ensures.start (omega (arith, last.0)) last.1

pub returns-in_default-clause-bad : goal.returns-in_default-clause-bad
returns-in_default-clause-bad g c = λ cut n front f count.
    let line = c.in_ok-line.line in
    let is = c.in_ok-line.ensures.line in
    let some : line.start < line.end = omega (arith, is.ordered) in
    let bytes = pending c.read_some_line.new.input in
    let bad : IsBadEditLine (line_bytes bytes line) = record {
      some = line_some bytes _ line is some;
      one_line = is.one_line;
      no_edit = rw c.pending.ensures at (c.edit_asked.ensures.none c.in_default.is);
    } in
    bad_listed c.args.input.now c.read_some_line.new.input _ _ n front c.args.from line f c.in_ok-line.ensures.grows c.in_ok-line.ensures.start is bad

pub returns-in_err-read : goal.returns-in_err-read
returns-in_err-read g c =
    let line = c.in_ok-line.line in
    let fails = c.in_err-read.ensures in
    let blanks = blanks_grown c.read_some_line.new.input c.read_edit.new.input _ _ c.args.from line.start fails.grows c.in_ok-line.ensures.start in
    let grows = grows_then _ _ _ _ _ _ c.in_ok-line.ensures.grows fails.grows in
    let same = λ (e : ScriptError). same_error {T = Complete EditAt} c.from_residual-in_err-read.result c.in_err-read.field-0.0 e
    c.from_residual-in_err-read.ensures.1 in
    record {
      grows = grows;
      edit = search rules;
      last = search rules;
      fewer = search rules;
      bad = λ bad n front f count. bad_text c.args.input.now c.read_edit.new.input _ _ n front c.args.from line.start f grows blanks (fails.bad (same _ bad));
      cut = λ cut n front f count. let ended = fails.cut (same _ cut) in
          text_stops c.args.input.now c.read_edit.new.input _ _ n front c.args.from line.start f grows blanks ended.1 ended.0;
      read = λ read n front f count. short_holds c.args.input.now c.read_edit.new.input _ _ n front c.args.from line.start f grows blanks (fails.read (same _ read));
      failed = λ read. fails.failed (same _ read);
      told = λ write. fails.told (same _ write);
    }

pub returns-then-missing-gt1-clause-grows : goal.returns-then-missing-gt1-clause-grows
returns-then-missing-gt1-clause-grows g c = grows_then _ _ _ _ _ _ c.in_ok-line.ensures.grows c.in_ok-read.ensures.grows

pub returns-then-missing-gt1-clause-cut : goal.returns-then-missing-gt1-clause-cut
returns-then-missing-gt1-clause-cut g c = λ cut n front f count.
    let line = c.in_ok-line.line in
    let blanks = blanks_grown c.read_some_line.new.input c.read_edit.new.input _ _ c.args.from line.start c.in_ok-read.ensures.grows c.in_ok-line.ensures.start in
    let grows = grows_then _ _ _ _ _ _ c.in_ok-line.ensures.grows c.in_ok-read.ensures.grows in
    let edit = c.in_ok-read.ensures.edit in
    let last = edit.unfed (not-true _ c.if-not-read.true) in
    edit_missing c.args.input.now c.read_edit.new.input _ _ n front c.args.from line.start f grows blanks (edit_in (pending c.read_edit.new.input) c.in_ok-read.read.found) last.0 edit.good last.1
    (omega (arith, count)) last.2

pub returns-clause-grows : goal.returns-clause-grows
returns-clause-grows g c = grows_then _ _ _ _ _ _ c.in_ok-line.ensures.grows c.in_ok-read.ensures.grows
