use Rattle.std.proofs.Common.{All, take}
use Rattle.mm_machine.specs.Language.{Lasting.{lasting_of}, NumberedSymbols.{by_code}}
use Rattle.mm_verdict.specs.Code.NamedItems.{HasItems, IsThere, KeepsItems}
use Rattle.mm_verdict.proofs.known.load_all.Given as goal

abbrev pub invariant-loop-label : goal.invariant-loop-label
invariant-loop-label l = record {
  items : HasItems l.base l.machine;
  there : All (IsThere l.base (lasting_of by_code l.machine)) (take l.label-index l.labels);
  keeps : KeepsItems l.base l.initial.machine l.machine;
}
