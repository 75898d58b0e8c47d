use Rattle.std.proofs.Common.{◌≡◌, ℕ, ◌<◌, ◌≤◌, ◌-◌, true, Some, length, slice_get}
use Rattle.mm_machine.specs.Language.{Frame.{Symbol}, NumberedSymbols.{comes_before}, CodeLists.{meant_pairs}, Keys.{pair_keys}}
use Rattle.mm_machine.proofs.active.Active.place_of.Given as goal

abbrev pub invariant-loop-low : goal.invariant-loop-low
invariant-loop-low g l = record {
  high : l.high ≤ length l.self.pairs.now;
  before : (k : ℕ) (p : Symbol × Symbol) → k < l.low → slice_get (meant_pairs g.S.Listed.Symbol.means l.self.pairs.now) k ≡ Some p
      → comes_before (pair_keys g.S.Kept.key_of p) l.wanted ≡ true;
}

abbrev pub decreases-loop-low : goal.decreases-loop-low
decreases-loop-low g l = l.high - l.low
