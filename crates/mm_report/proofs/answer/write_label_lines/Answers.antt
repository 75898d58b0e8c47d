use Rattle.std.{proofs.{Common.{◌≡◌, ◌<◌, ℕ, List, [], get_or, length, subst, take, take_all, arith, unwrap_or}, KnownBytes.{Appends-trans}}, specs.Io.KnownBytes.{Appends}}
use Rattle.mm_script.specs.Language.Stream.{written}
use Rattle.mm_keep.specs.mm_frame.Language.Base.{base_of, said_at}
use Rattle.mm_report.proofs.{LabelLemmas.{lines_around, lines_more, lines_of}, StreamLemmas.{stops_behind, stops_front, writes_stop}, WrittenLemmas.{label_is}}
use Rattle.mm_report.proofs.answer.write_label_lines.Goals as goal

pub returns-in_err-write_part : goal.returns-in_err-write_part
returns-in_err-write_part g c items is =
    let numbers = c.args.items.now in
    let base = base_of items in
    let k = c.loop-i.i-index in
    let within : k < length numbers = omega arith in
    let labelled = label_is c.args.session.now (get_or numbers k 0) _ c.files_have_one_database.ensures c.label.ensures items is in
    let name : c.unwrap_or-label.result.now ≡ unwrap_or (said_at base (get_or numbers k 0)).label [] = grind (arith, labelled, c.unwrap_or-label.ensures) in
    let line = rw name at c.in_err-write_part.ensures.err in
    rw (lines_around base numbers k within)
    (writes_stop c.from_residual.ensures.0 (stops_behind g.W.Write.contents c.args.to.now c.loop-i.to c.write_part.new.to _ _ (c.loop-i.invariant items is) (stops_front _ line)))

pub loop-i-preserved : goal.loop-i-preserved
loop-i-preserved g c items is =
    let numbers = c.args.items.now in
    let base = base_of items in
    let k = c.loop-i.i-index in
    let within : k < length numbers = omega arith in
    let labelled = label_is c.args.session.now (get_or numbers k 0) _ c.files_have_one_database.ensures c.label.ensures items is in
    let name : c.unwrap_or-label.result.now ≡ unwrap_or (said_at base (get_or numbers k 0)).label [] = grind (arith, labelled, c.unwrap_or-label.ensures) in
    let line = (rw name at c.in_ok-write_part.ensures).ok in
    rw (lines_more base numbers k within) (Appends-trans _ _ _ _ _ (c.loop-i.invariant items is) line)

pub returns : goal.returns
returns g c items is =
    let numbers = c.args.items.now in
    let whole : take c.loop-i.i-index numbers ≡ numbers = take_all c.loop-i.i-index numbers (omega arith) in
    let ok = subst (λ (numbers : List ℕ). Appends (written g.W.Write.contents c.args.to.now) (written g.W.Write.contents c.loop-i.to) (lines_of (base_of items) numbers)) whole
    (c.loop-i.invariant items is) in
    record { ok = ok; err = tt }
