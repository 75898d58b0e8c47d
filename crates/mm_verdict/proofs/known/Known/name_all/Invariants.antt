use Rattle.std.{proofs.Common.{All, take}, specs.List.{AllZip}}
use Rattle.mm_machine.specs.Language.{Lasting.{lasting_of}, NumberedSymbols.{by_code}}
use Rattle.mm_verdict.specs.Code.NamedItems.{AreCited, AreKnownOf, IsThere, IsUseIn}
use Rattle.mm_verdict.proofs.known.Known.name_all.Given as goal

abbrev pub invariant-loop-label : goal.invariant-loop-label
invariant-loop-label l = record {
  of_base : AreKnownOf l.base l.self;
  there : All (IsThere l.base (lasting_of by_code l.self.machine)) l.labels;
  cited : AreCited l.base l.self;
  stand : AllZip (IsUseIn l.base l.self) l.self.uses.items (take l.label-index l.labels);
}
