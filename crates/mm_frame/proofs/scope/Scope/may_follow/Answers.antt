use Rattle.std.proofs.Common.{◌∙◌, ap, Some}
use Rattle.mm_frame.proofs.lemmas.faults.FaultLemmas.{follows_told}
use Rattle.mm_frame.proofs.scope.Scope.may_follow.Goals as goal

pub returns-in-Some-Constant : goal.returns-in-Some-Constant
returns-in-Some-Constant c all before name h k t = follows_told c.args.self.now c.args.number c.name.result _ all before name h k t c.name.ensures (c.in-Some-Constant.is ∙ ap Some c.in-Some-Constant.field-0-is)

pub returns-in-Some-Variable : goal.returns-in-Some-Variable
returns-in-Some-Variable c all before name h k t =
    c.is_active_number.ensures all before k ∙ follows_told c.args.self.now c.args.number c.name.result _ all before name h k t c.name.ensures (c.in-Some-Variable.is ∙ ap Some c.in-Some-Variable.field-0-is)

pub returns-in-None : goal.returns-in-None
returns-in-None c all before name h k t = follows_told c.args.self.now c.args.number c.name.result _ all before name h k t c.name.ensures c.in-None.is
