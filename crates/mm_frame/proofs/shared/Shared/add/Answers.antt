use Rattle.std.proofs.{Common.{◌≡◌, ◌++◌, ◌∷◌, [], Some, OnOk, length, map, sym, ◌∙◌, ap, subst, arith, length-append}, lemmas.Option.{same_Some}}
use Rattle.mm_frame.{specs.Code.KeptShared.{shared_values, value_at}, proofs.lemmas.{lists.SharedValues.{AreBelow, still_below, shared_push}, scope.BlockLemmas.{get_last}}}
use Rattle.mm_frame.proofs.shared.Shared.add.Goals as goal

pub invariant_of-self : goal.invariant_of-self
invariant_of-self g c = subst (λ w. AreBelow (length w) c.self.inside.places) (sym c.in_err-push.ensures.items) c.self.invariant

pub invariant_of-self-2 : goal.invariant_of-self-2
invariant_of-self-2 g c =
    let values = c.self.inside.values.items in
    let count = ap length c.in_ok-push.ensures.items ∙ length-append values (c.args.value ∷ []) in
    still_below (length c.push.new.self.items) c.self.inside.places c.add.new.self (Some c.len-place.result) c.add.result c.add.ensures.ok c.add.ensures.err
    (λ n place e. omega (arith, count, c.self.invariant n place e))
    (λ n e. omega (arith, count, same_Some c.len-place.result n e, c.len-place.ensures, c.self.inside.values.ok.0))

pub returns : goal.returns
returns g c =
    let values = c.self.inside.values in
    let more = c.args.value ∷ [] in
    let whole : c.push.new.self.items ≡ values.items ++ more = c.in_ok-push.ensures.items in
    let place : c.len-place.result ≡ length values.items = omega (arith, c.len-place.ensures, values.ok.0) in
    subst (λ w. OnOk c.add.result (map (value_at w) c.add.new.self ≡ shared_values c.args.self.now ++ Some c.args.value ∷ [])) (sym whole)
    (subst (λ o. OnOk c.add.result (map (value_at (values.items ++ more)) c.add.new.self ≡ shared_values c.args.self.now ++ o ∷ [])) (get_last values.items c.args.value c.len-place.result place)
    (shared_push values.items more c.self.inside.places c.add.new.self (Some c.len-place.result) (shared_values c.args.self.now) c.add.result c.add.ensures.ok c.self.invariant (ap shared_values c.self.view_is)))
