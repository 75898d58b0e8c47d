use Rattle.std.proofs.Common.{◌≡◌, map}
use Rattle.mm_machine.proofs.lemmas.machine.ApartLemmas.{EachUpTo}
use Rattle.mm_machine.proofs.variables.Variables.position.Given as goal

abbrev pub invariant-loop-n : goal.invariant-loop-n
invariant-loop-n g l = EachUpTo (λ v. v ≡ g.S.Symbol.means l.symbol → ⊥) (map g.S.Symbol.means l.self.all.items) l.n
