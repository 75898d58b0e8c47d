use Rattle.std.proofs.{Common.{[], ◌≡◌, ◌<◌, ◌+◌, ◌++◌, ◌∷◌, ◌∙◌, ap, sym, subst, arith, length, length-append, false, rules, List}, lemmas.{Grind.{common_steps}, Bool.{not-false, not-true}}}
use Rattle.mm_script.specs.{declared.{command.{Complete.{Complete}, EditAt.{EditAt}}, error.ScriptError.{ScriptError}}, Code.Batches.{IsBatchRead}, Language.Commands.{pending}}
use Rattle.mm_script.proofs.{GrowLemmas.{grows_not, grows_then, same_error}, EditLemmas.{behind_within}}
use Rattle.mm_script.proofs.BatchReadLemmas.{batch_begun, batch_front, batch_line_last, batch_one_more, edits_counted, fed_by}
use Rattle.mm_script.proofs.edits.read_batch.Goals.{else-not-line-via-then-not-line+else-count-gt0, else-not-line-via-else-not-line}
use Rattle.mm_script.proofs.edits.read_batch.Goals as goal

pub returns-then-count-gt0-clause-cut : goal.returns-then-count-gt0-clause-cut
returns-then-count-gt0-clause-cut g c = λ cut.
    batch_line_last (pending c.args.input.now) _ c.args.line c.args.count c.requires.line c.requires.start c.requires.number c.requires.says (not-true _ c.if-not-line.true) (omega arith)

pub loop-input-init : goal.loop-input-init
loop-input-init g c =
    let none : c.args.line.fed ≡ false → 0 ≡ c.args.count = grind (arith, common_steps, else-not-line-via-then-not-line+else-count-gt0, else-not-line-via-else-not-line, not-false) steps 200000 in
    let long = behind_within (pending c.args.input.now) _ c.args.line c.behind-end.result c.requires.line c.behind-end.ensures.fed c.behind-end.ensures.unfed in
    let begun = batch_begun c.args.input.now _ c.args.line c.args.count c.behind-end.result c.requires.line c.requires.start c.requires.number c.requires.says c.behind-end.ensures.fed c.behind-end.ensures.unfed long.0 none in
    record {
      grows = grows_not _ _;
      read = subst (λ (found : List EditAt). IsBatchRead (pending c.args.input.now) (g.R.Read.remaining c.args.reading.now.inner) c.args.count found c.behind-end.result c.args.line.fed) (sym c.new-edits.ensures.items) begun;
      last = λ e. ap length c.new-edits.ensures.items ∙ none e;
      most = omega (arith, ap length c.new-edits.ensures.items);
      fewer = omega arith;
    }

pub returns-in_err-read : goal.returns-in_err-read
returns-in_err-read g c =
    let read = c.loop-input.invariant.read in
    let fewer : length c.loop-input.edits.items < c.args.count = omega arith in
    let fed = fed_by c.loop-input.fed (length c.loop-input.edits.items) c.args.count c.loop-input.invariant.last fewer in
    let front = batch_front (pending c.loop-input.input) _ c.args.count c.loop-input.end c.loop-input.edits.items c.loop-input.fed read fed fewer in
    let few = edits_counted (pending c.loop-input.input) c.loop-input.edits.items read.front read.edits in
    let same = λ (e : ScriptError). same_error {T = Complete EditAt} c.from_residual.result c.in_err-read.field-0.0 e c.from_residual.ensures.1 in
    let fails = c.in_err-read.ensures in
    record {
      grows = grows_then _ _ _ _ _ _ c.loop-input.invariant.grows fails.grows;
      batch = search rules;
      all = search rules;
      fewer = search rules;
      bad = λ bad. fails.bad (same _ bad) c.args.count read.front front (omega (arith, few, fewer));
      cut = λ cut. fails.cut (same _ cut) c.args.count read.front front (omega (arith, few, fewer));
      read = λ stop. fails.read (same _ stop) c.args.count read.front front (omega (arith, few, fewer));
      failed = λ stop. fails.failed (same _ stop);
      told = λ write. fails.told (same _ write);
    }

pub returns-in_err-push-clause-grows : goal.returns-in_err-push-clause-grows
returns-in_err-push-clause-grows g c = grows_then _ _ _ _ _ _ c.loop-input.invariant.grows c.in_ok-read.ensures.grows

pub loop-input-preserved : goal.loop-input-preserved
loop-input-preserved g c =
    let fewer : length c.loop-input.edits.items < c.args.count = omega arith in
    let fed = fed_by c.loop-input.fed (length c.loop-input.edits.items) c.args.count c.loop-input.invariant.last fewer in
    let items : c.push.new.self.items ≡ c.loop-input.edits.items ++ c.in_ok-read.read.found ∷ [] = c.in_ok-push.ensures.items in
    let count : length c.push.new.self.items ≡ length c.loop-input.edits.items + 1 = ap length items ∙ length-append c.loop-input.edits.items (c.in_ok-read.read.found ∷ []) in
    let last : c.in_ok-read.read.fed ≡ false → length c.loop-input.edits.items + 1 ≡ c.args.count = λ e. omega (arith, c.in_ok-read.ensures.last e, fewer) in
    let more = batch_one_more c.loop-input.input c.read_listed.new.input _ _ c.args.count c.loop-input.end c.loop-input.edits.items c.loop-input.fed c.in_ok-read.read
    c.loop-input.invariant.read fed fewer c.in_ok-read.ensures.grows c.in_ok-read.ensures.edit last in
    record {
      grows = grows_then _ _ _ _ _ _ c.loop-input.invariant.grows c.in_ok-read.ensures.grows;
      read = subst (λ (found : List EditAt). IsBatchRead (pending c.read_listed.new.input) (g.R.Read.remaining c.read_listed.new.reading.inner) c.args.count found c.in_ok-read.read.end c.in_ok-read.read.fed) (sym items) more;
      last = λ e. count ∙ last e;
      most = omega (arith, count, fewer);
      fewer = omega (arith, c.in_ok-read.ensures.fewer);
    }
