use Rattle.std.proofs.{lemmas.Grind.{common_steps}, Common.{◌≡◌, ◌<◌, ℕ, [], length, subst, arith, unwrap_or}}
use Rattle.mm_keep.specs.{mm_frame.Language.Base.{base_of, said_at}, Language.Findings.{counted, told}}
use Rattle.mm_report.{specs.Code.Written.{AreWritten}, proofs.{FileLemmas.{told_in}, WrittenLemmas.{as_many, label_is, within_is, one_written, line_fails}}}
use Rattle.mm_script.specs.Language.Stream.{written}
use Rattle.mm_report.proofs.report.write_lines.Goals as goal

pub returns-in_err-write_line-clause-err : goal.returns-in_err-write_line-clause-err
returns-in_err-write_line-clause-err g c =
    let session = c.args.session.now in
    let i = c.loop-i.i in
    let alone = c.files_have_one_database.ensures in
    let found = c.finding-finding.ensures.found in
    let base = base_of found.0 in
    let labelled = label_is session i _ alone c.label.ensures found.0 found.1 in
    let name : c.unwrap_or-label.result.now ≡ unwrap_or (said_at base i).label [] = grind (arith, labelled, c.unwrap_or-label.ensures) in
    let within = within_is session c.count-i-end.result i alone c.count-i-end.ensures.count c.loop-i-test.true found.0 found.1 in
    let stops = rw c.files.ensures.files at (c.in_err-write_line.ensures (said_at base i) name).err in
    let fails = line_fails g.W.Write.contents session c.args.to.now c.loop-i.to c.write_line.new.to i (counted c.loop-i.tally) (told c.finding-finding.result) alone c.items_have_findings.ensures found within
    stops c.loop-i.invariant in
    grind (arith, fails, c.from_residual.ensures)

pub loop-i-preserved : goal.loop-i-preserved
loop-i-preserved g c =
    let session = c.args.session.now in
    let i = c.loop-i.i in
    let alone = c.files_have_one_database.ensures in
    let found = c.finding-finding.ensures.found in
    one_written session (written g.W.Write.contents c.args.to.now) (written g.W.Write.contents c.loop-i.to) i (counted c.loop-i.tally) (told c.finding-finding.result) alone found
    (written g.W.Write.contents c.write_line.new.to) (counted c.with-tally.result)
    (λ items is. within_is session c.count-i-end.result i alone c.count-i-end.ensures.count c.loop-i-test.true items is)
    (λ items is.
    let base = base_of items in
    let labelled = label_is session i _ alone c.label.ensures items is in
    let name : c.unwrap_or-label.result.now ≡ unwrap_or (said_at base i).label [] = grind (arith, labelled, c.unwrap_or-label.ensures) in
    (rw c.files.ensures.files at (c.in_ok-write_line.ensures (said_at base i) name)).ok)
    (λ all so. c.with-tally.ensures all so)
    c.loop-i.invariant

pub write_line-requires : goal.write_line-requires
write_line-requires g c = grind (arith, common_steps, told_in) steps 200000

pub with-tally-requires : goal.with-tally-requires
with-tally-requires g c =
    let found = c.finding-finding.ensures.found in
    let so = c.loop-i.invariant found.0 found.1 in
    let few : length so.all < 4294967295 = omega (arith, so.are_told.count, c.count-i-end.ensures.few, c.loop-i-test.true) in
    (so.all, so.are_counted, few)

pub returns-clause-ok : goal.returns-clause-ok
returns-clause-ok g c =
    let (items, is, count) = c.count-i-end.ensures.count in
    let at : c.loop-i.i ≡ length items = omega (arith, count, as_many items) in
    let old = written g.W.Write.contents c.args.to.now in
    let new = written g.W.Write.contents c.loop-i.to in
    (items, is, subst (λ (n : ℕ). AreWritten c.args.session.now items n old new (counted c.loop-i.tally)) at (c.loop-i.invariant items is))
