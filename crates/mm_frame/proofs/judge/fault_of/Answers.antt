use Rattle.std.{proofs.{Common.{None, arith, ap, sym, ◌∙◌}, lemmas.Grind.{common_steps}}, specs.Option.{option_or, option_map}}
use Rattle.mm_frame.{proofs.lemmas.faults.{FaultReading.{fault_is}, FaultLemmas.{at_end}}, specs.{Code.FaultInOrder.{end_fault}, Language.Sound.{closing_word, fault_or}}}
use Rattle.mm_frame.specs.declared.judge.FrameFault.{FrameFault}
use Rattle.mm_frame.proofs.judge.fault_of.Goals as goal

pub returns-in-Some : goal.returns-in-Some
returns-in-Some c before h k a = grind (arith, common_steps, fault_is) steps 200000

pub returns-in-Some-2 : goal.returns-in-Some-2
returns-in-Some-2 c before h k a =
    (λ i. fault_or 0 ((sym c.in_default.is ∙ c.front_fault.ensures before h k) i)
    (option_or ((ap (option_map (λ (f : FrameFault). (f.word, f.number))) (sym c.in-Some-2.is) ∙ c.in_ok-fault.ensures before h k a) i)
    (fault_or (closing_word c.args.statement.now) (end_fault c.args.statement.now) None))) ∙ sym (fault_is before c.args.statement.now)

pub returns : goal.returns
returns c before h k a = grind (arith, common_steps, c.front_fault.ensures before h k, c.in_ok-fault.ensures before h k a, at_end) steps 200000
