use Rattle.std.proofs.Common.{◌∙◌, ap, sym, Some}
use Rattle.mm_frame.proofs.lemmas.faults.FaultLemmas.{follows_told}
use Rattle.mm_frame.proofs.scope.Scope.may_follow_as.Goals as goal

pub returns-in-Some-Constant-clause-follows : goal.returns-in-Some-Constant-clause-follows
returns-in-Some-Constant-clause-follows c t all before name h k is =
    sym (follows_told c.args.self.now c.args.symbol.name c.name.result _ all before name h k is c.name.ensures (c.in-Some-Constant.is ∙ ap Some c.in-Some-Constant.field-0-is))

pub returns-then-symbol-clause-follows : goal.returns-then-symbol-clause-follows
returns-then-symbol-clause-follows c t all before name h k is =
    sym (c.is_active_number.ensures all before k ∙ follows_told c.args.self.now c.args.symbol.name c.name.result _ all before name h k is c.name.ensures (c.in-Some-Variable.is ∙ ap Some c.in-Some-Variable.field-0-is)) ∙ t
