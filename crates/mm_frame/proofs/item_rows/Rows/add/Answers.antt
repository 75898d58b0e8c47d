use Rattle.std.{proofs.{Common.{◌∷◌, [], ◌++◌, sym, ap, ◌∙◌, arith}, lemmas.Grind.{common_steps}}, specs.Option.{option_map}}
use Rattle.mm_frame.{specs.{declared.item_rows.Rows.{Rows}, Code.KeptRows.{AreRowsKept}}, proofs.lemmas.base.RowLemmas.{kept_more, rows_more, some_lent, adds_row}}
use Rattle.mm_frame.proofs.item_rows.Rows.add.Goals as goal

pub returns : goal.returns
returns c =
    let old = c.args.self.now in
    let new : Rows = record { labels = c.add.new.self; labelled = c.push.new.self; faults = c.add_fault.new.faults } in
    let label = option_map (λ label. label.now) c.args.label in
    let flags = c.in_ok-push.ensures.items ∙ ap (λ b. old.labelled.items ++ b ∷ []) (c.is_some.ensures ∙ sym (some_lent (λ label. label.now) c.args.label)) in
    let fault = c.in_ok-add_fault.ensures in
    let labels = c.in_ok-add.ensures ∙ ap (λ w. old.labels ++ w ∷ []) (grind (arith, common_steps, c.unwrap_or.ensures) steps 200000) in
    let row = λ (kept : AreRowsKept old). adds_row old new label c.args.fault c.count.result c.count.ensures kept labels flags fault.same fault.here fault.within in
    record { kept = λ kept. kept_more old new label c.args.fault kept (row kept); more = λ kept. rows_more old new label c.args.fault kept (row kept) }
