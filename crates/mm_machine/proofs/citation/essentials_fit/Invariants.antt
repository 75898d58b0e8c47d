use Rattle.std.proofs.Common.{List}
use Rattle.mm_machine.{specs.{Language.Frame.{Symbol}, Code.{Citation.{GivesEntries, OtherEssential}, Filling.{entries_of, frame_taking}}}, proofs.lemmas.machine.EntryFaults.{NoneUpTo}}
use Rattle.mm_machine.proofs.citation.essentials_fit.Given as goal

abbrev pub invariant-loop-place : goal.invariant-loop-place
invariant-loop-place g l = (gives : Symbol → List Symbol) → GivesEntries gives (frame_taking g.S.Symbol.means g.S.Listed.Symbol.means l.taken).hypotheses (entries_of g.S.Symbol.means l.taken) →
    NoneUpTo (OtherEssential gives) (frame_taking g.S.Symbol.means g.S.Listed.Symbol.means l.taken).hypotheses (entries_of g.S.Symbol.means l.taken) l.place
