use Rattle.std.proofs.Common.{◌≡◌, ◌<◌, ℕ, true, Some, length, slice_get}
use Rattle.mm_machine.{specs.{Language.Frame.{Mandatory}, Code.{Citation.{AreGiven, OtherTypecode}, Filling.{entries_of, frame_taking, variables_of}}}, proofs.lemmas.machine.EntryFaults.{NoneUpTo}}
use Rattle.mm_machine.proofs.citation.give.Given as goal

abbrev pub invariant-loop-place : goal.invariant-loop-place
invariant-loop-place g l = record {
  none : NoneUpTo OtherTypecode (frame_taking g.S.Symbol.means g.S.Listed.Symbol.means l.taken).hypotheses (entries_of g.S.Symbol.means l.taken) l.place;
  floating : (k : ℕ) (h : Mandatory) → k < l.place → k < l.first → slice_get (frame_taking g.S.Symbol.means g.S.Listed.Symbol.means l.taken).hypotheses k ≡ Some h → h.floating ≡ true;
  count : length l.given ≡ length l.initial.given;
  gives : AreGiven (variables_of g.S.Symbol.means l.taken) (frame_taking g.S.Symbol.means g.S.Listed.Symbol.means l.taken).hypotheses l.taken.entries.now l.given l.place;
}
