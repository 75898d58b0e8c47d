use Rattle.std.proofs.Common.{◌≡◌, List, length, take}
use Rattle.mm_machine.specs.Language.{RunLaws.{KnownUpTo}, Frame.{Setting, AreSamePairs}, Lasting.{KeepsLasting}, Typing.{HasFrames}, Expansion.{Step}, Machine.{State}, CodeLists.{meant_pairs}}
use Rattle.mm_machine.specs.{Language.NamedSteps.{AreUses, actions_mean, saves_in}, Code.{PairClause.{IsPairRoom}, MachineState.{AreRanges}, Tasks.{HasState}}}
use Rattle.mm_machine.proofs.lemmas.machine.Reaching.{Follows}
use Rattle.mm_machine.proofs.stepping.run_through.Given as goal

abbrev pub invariant-loop-place : goal.invariant-loop-place
invariant-loop-place g l = record {
  whole : AreRanges g.S.Symbol.means g.S.Kept.key_of l.machine;
  pairs : IsPairRoom g.S.Symbol.means g.S.Kept.key_of (meant_pairs g.S.Listed.Symbol.means l.active.pairs.now) l.machine.pairs;
  lasting : KeepsLasting g.S.Symbol.means l.initial.machine l.machine;
  count : length l.machine.saved.items ≡ saves_in (take l.place l.steps);
  follows : (place : Setting) (names : List Step) → HasFrames place → AreSamePairs (meant_pairs g.S.Listed.Symbol.means l.active.pairs.now) place.active
      → AreUses g.S.Symbol.means g.S.Listed.Symbol.means l.initial.machine l.cited l.uses place names
      → KnownUpTo (actions_mean names l.steps) l.place × (state : State) × HasState g.S.Symbol.means l.machine state × Follows place (take l.place (actions_mean names l.steps)) state;
}
