use Rattle.std.proofs.{Common.{arith}, lemmas.Grind.{common_steps}}
use Rattle.mmtests.proofs.checks.is_checked.Goals as goal

pub check-checked-requires : goal.check-checked-requires
check-checked-requires c =
    let is = c.in-Some.ensures c.requires.0 (c.args.names.now, c.requires.1.base) in
    record {
      theorem = (c.requires.0, c.requires.1, is.0, is.1);
      room = grind (arith, common_steps, c.in_ok-work.ensures) steps 200000;
      steps = grind (arith, common_steps, c.in_ok-work.ensures) steps 200000;
    }

pub agrees-requires : goal.agrees-requires
agrees-requires c =
    let is = c.in-Some.ensures c.requires.0 (c.args.names.now, c.requires.1.base) in
    (c.requires.0, c.requires.1, is.0, is.1)
