use Rattle.std.proofs.{Common.{arith, refl}, lemmas.Grind.{common_steps}}
use Rattle.mm_keep.proofs.ChangeLemmas.{can_carry, kept_settled, changed_settled}
use Rattle.mm_keep.proofs.session.take_next.Goals as goal

pub carry-requires : goal.carry-requires
carry-requires c = grind (arith, common_steps, can_carry c.requires.0 c.args.files.now c.args.undos c.requires.1 c.requires.2 c.args.checked.now c.args.next c.requires.3) steps 200000

pub returns-clause-kept : goal.returns-clause-kept
returns-clause-kept c before top names can =
    kept_settled c.items_stand.ensures.stand before c.args.files.now c.settle_all.new.self c.args.undos top names c.args.checked.now c.args.next can
    c.settle_all.ensures.keyed c.settle_all.ensures.standing (c.settle_all.ensures.parked before can.spendable)
    c.args.next.base c.carry.new.new refl
    (c.carry.ensures can.old can.base (can_carry before c.args.files.now c.args.undos top names c.args.checked.now c.args.next can))

pub returns-clause-runs : goal.returns-clause-runs
returns-clause-runs c before top names can =
    changed_settled c.items_stand.ensures.stand before c.args.files.now c.settle_all.new.self c.args.undos top names c.args.checked.now c.args.next can c.settle_all.ensures.keyed c.settle_all.ensures.standing _ refl
