use Rattle.std.proofs.{Common.{None, length}, lemmas.Option.{none-some}}
use Rattle.mm_frame.proofs.lemmas.lists.SharedValues.{still_below}
use Rattle.mm_frame.proofs.shared.Shared.pass.Goals as goal

pub invariant_of-self : goal.invariant_of-self
invariant_of-self g c = still_below (length c.self.inside.values.items) c.self.inside.places c.add.new.self None c.add.result c.add.ensures.ok c.add.ensures.err c.self.invariant (λ n e. absurd (none-some n e))
