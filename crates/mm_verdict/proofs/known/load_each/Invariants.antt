use Rattle.std.proofs.Common.{All, take}
use Rattle.mm_machine.specs.Language.{Lasting.{lasting_of}, NumberedSymbols.{by_code}}
use Rattle.mm_verdict.specs.{Language.Loaded.{IsLoaded}, Code.NamedItems.{HasItems, KeepsItems}}
use Rattle.mm_verdict.proofs.known.load_each.Given as goal

abbrev pub invariant-loop-k : goal.invariant-loop-k
invariant-loop-k l = record {
  items : HasItems l.base l.machine;
  loaded : All (IsLoaded l.base (lasting_of by_code l.machine)) (take l.k l.numbers);
  keeps : KeepsItems l.base l.initial.machine l.machine;
}
