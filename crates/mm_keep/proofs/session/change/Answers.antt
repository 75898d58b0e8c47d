use Rattle.std.proofs.{Common.{arith, map}, lemmas.Grind.{common_steps}}
use Rattle.mm_proof.specs.{mm_store.Language.FilesView.{plain}, mm_text.Language.Asked.{asked}}
use Rattle.mm_keep.proofs.{KeepLemmas.{batch_starts}, ChangeLemmas.{were_kept}}
use Rattle.mm_keep.proofs.session.change.Goals as goal

pub go_on-requires : goal.go_on-requires
go_on-requires c =
    let e = c.in-Ok.ensures in
    (c.args.files.now, were_kept c.edits_keep_files.ensures.numbers c.args.files.now c.edit_all.new.self c.in-Ok.undos c.args.top.now c.args.names.now c.args.base.now _ c.requires (map asked c.args.edits.now) e.ok e.reading e.spendable)

pub returns-in-Ok-go_on-clause-kept : goal.returns-in-Ok-go_on-clause-kept
returns-in-Ok-go_on-clause-kept c =
    let e = c.in-Ok.ensures in
    c.go_on.ensures.kept c.args.files.now (were_kept c.edits_keep_files.ensures.numbers c.args.files.now c.edit_all.new.self c.in-Ok.undos c.args.top.now
    c.args.names.now c.args.base.now _ c.requires (map asked c.args.edits.now) e.ok e.reading e.spendable)

pub returns-in-Ok-go_on-clause-runs : goal.returns-in-Ok-go_on-clause-runs
returns-in-Ok-go_on-clause-runs c =
    let e = c.in-Ok.ensures in
    c.in-Ok-go_on.ensures.runs c.args.files.now (were_kept c.edits_keep_files.ensures.numbers c.args.files.now c.edit_all.new.self c.in-Ok.undos
    c.args.top.now c.args.names.now c.args.base.now _ c.requires (map asked c.args.edits.now) e.ok e.reading e.spendable)

pub returns-in-Err-go_on-clause-kept : goal.returns-in-Err-go_on-clause-kept
returns-in-Err-go_on-clause-kept c =
    let e = c.in-Ok.ensures in
    c.go_on.ensures.kept c.args.files.now (were_kept c.edits_keep_files.ensures.numbers c.args.files.now c.edit_all.new.self c.in-Ok.undos c.args.top.now
    c.args.names.now c.args.base.now _ c.requires (map asked c.args.edits.now) e.ok e.reading e.spendable)

pub returns-in-Err-go_on-clause-refused : goal.returns-in-Err-go_on-clause-refused
returns-in-Err-go_on-clause-refused c = grind (arith, common_steps, batch_starts (map asked c.args.edits.now) (plain c.args.files.now) (plain c.edit_all.new.self) c.in-Ok.ensures.ok) steps 200000

pub returns-in-Err-go_on-clause-unchanged : goal.returns-in-Err-go_on-clause-unchanged
returns-in-Err-go_on-clause-unchanged c =
    let e = c.in-Ok.ensures in
    c.in-Err-go_on.ensures.undone c.args.files.now (were_kept c.edits_keep_files.ensures.numbers c.args.files.now c.edit_all.new.self c.in-Ok.undos
    c.args.top.now c.args.names.now c.args.base.now _ c.requires (map asked c.args.edits.now) e.ok e.reading e.spendable)
