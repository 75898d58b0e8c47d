use Rattle.std.proofs.Common.{◌≡◌, ◌⊎◌, ◌≤◌, ◌-◌, ◌++◌, [], List, All, length}
use Rattle.mm_machine.specs.Language.{Frame.{Mandatory}, Lasting.{HoldsLasting, lasting_of}}
use Rattle.mm_machine.proofs.machine.Machine.make_places.Given as goal

abbrev pub invariant-loop-self : goal.invariant-loop-self
invariant-loop-self g l = record {
  count : (length (lasting_of g.S.Symbol.means l.self) ≡ length (lasting_of g.S.Symbol.means l.initial.self)) ⊎ (length (lasting_of g.S.Symbol.means l.self) ≤ l.count);
  holds : HoldsLasting g.S.Symbol.means g.S.Kept.key_of l.self;
  more : (more : List Mandatory) × (lasting_of g.S.Symbol.means l.self ≡ lasting_of g.S.Symbol.means l.initial.self ++ more) × All (λ h. h.expression ≡ []) more;
}

abbrev pub decreases-loop-self : goal.decreases-loop-self
decreases-loop-self g l = l.count - length l.self.lasting.patterns.items
