use Rattle.std.{proofs.Common.{◌∙◌, ap}, specs.Prelude.{is_some}}
use Rattle.mm_frame.{specs.Code.{KeptShared.{shared_values}, KeptSparse.{value_kept}}, proofs.lemmas.lists.SharedValues.{has_value}}
use Rattle.mm_frame.proofs.shared.Shared.place.Goals as goal

pub returns : goal.returns
returns g c =
    let inside = c.self.inside in record {
      place = c.at.ensures ∙ ap (λ w. value_kept w.places c.args.number) c.self.view_is;
      some = ap is_some c.at.ensures ∙ has_value inside.values.items inside.places c.args.number c.self.invariant ∙ ap (λ w. is_some (value_kept (shared_values w) c.args.number)) c.self.view_is;
    }
