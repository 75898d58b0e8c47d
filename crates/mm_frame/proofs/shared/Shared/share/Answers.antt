use Rattle.std.proofs.Common.{length, ap, sym, ◌∙◌}
use Rattle.mm_frame.{proofs.lemmas.lists.SharedValues.{shared_once_more, still_below, value_there}, specs.Code.KeptShared.{shared_values}}
use Rattle.mm_frame.proofs.shared.Shared.share.Goals as goal

pub invariant_of-self : goal.invariant_of-self
invariant_of-self g c =
    let inside = c.self.inside in
    still_below (length inside.values.items) inside.places c.add.new.self c.at-place.result c.add.result c.add.ensures.ok c.add.ensures.err c.self.invariant
    (λ place e. c.self.invariant c.args.number place (value_there inside.places c.args.number place (sym c.at-place.ensures ∙ e)))

pub returns : goal.returns
returns g c =
    let inside = c.self.inside in
    shared_once_more inside.values.items inside.places c.add.new.self c.at-place.result c.args.number (shared_values c.args.self.now) c.add.result c.add.ensures.ok c.at-place.ensures (ap shared_values c.self.view_is)
