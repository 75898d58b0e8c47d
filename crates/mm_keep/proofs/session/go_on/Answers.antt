use Rattle.mm_keep.proofs.ChangeLemmas.{can_take, old_in}
use Rattle.mm_keep.proofs.session.go_on.Goals as goal

pub next_of-requires-clause-top : goal.next_of-requires-clause-top
next_of-requires-clause-top c = c.requires.1.has_top

pub next_of-requires-clause-old : goal.next_of-requires-clause-old
next_of-requires-clause-old c =
    let were = c.requires.1 in
    (were.base, old_in c.requires.0 c.args.files.now c.args.undos c.args.top.now c.args.names.now c.args.base.now _ were)

pub take_next-requires : goal.take_next-requires
take_next-requires c = (c.requires.0, c.args.top.now, c.next_of.new.names, can_take c.requires.0 c.args.files.now c.args.undos c.args.top.now c.args.names.now c.next_of.new.names c.args.base.now _ c.in-Ok.next c.requires.1 c.in-Ok.ensures.next)

pub returns-in-Ok-clause-kept : goal.returns-in-Ok-clause-kept
returns-in-Ok-clause-kept c before were =
    c.take_next.ensures.kept before c.args.top.now c.next_of.new.names (can_take before c.args.files.now c.args.undos c.args.top.now c.args.names.now c.next_of.new.names c.args.base.now _ c.in-Ok.next were c.in-Ok.ensures.next)

pub returns-in-Ok-clause-runs : goal.returns-in-Ok-clause-runs
returns-in-Ok-clause-runs c before were =
    c.take_next.ensures.runs before c.args.top.now c.next_of.new.names (can_take before c.args.files.now c.args.undos c.args.top.now c.args.names.now c.next_of.new.names c.args.base.now _ c.in-Ok.next were c.in-Ok.ensures.next)

pub undo_all-requires : goal.undo_all-requires
undo_all-requires c = (c.requires.0, c.requires.1.spendable)

pub returns-in-Err-clause-undone : goal.returns-in-Err-clause-undone
returns-in-Err-clause-undone c before were = c.undo_all.ensures before were.spendable
