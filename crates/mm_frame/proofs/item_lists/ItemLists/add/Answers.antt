use Rattle.std.proofs.Common.{◌++◌, ◌∷◌, [], map, ap, ◌∙◌, arith}
use Rattle.mm_frame.{specs.Code.KeptLists.{elements_of}, proofs.lemmas.lists.ItemLists.{list_added}}
use Rattle.mm_frame.proofs.item_lists.ItemLists.add.Goals as goal

pub returns : goal.returns
returns g c =
    let i = c.self.inside in
    let all = c.extend_from_slice.new.self in
    ap (map (elements_of all.items)) c.in_ok-push.ensures.items
    ∙ list_added i.elements.items c.args.list.now all.items i.parts.items (record { start = c.in_ok-start.start; end = c.in_ok-end.end }) c.self.invariant c.in_ok-extend_from_slice.ensures.items
    (omega (arith, c.in_ok-start.ensures.same, c.len.ensures, i.elements.ok.0)) (omega (arith, c.in_ok-end.ensures.same, c.len-2.ensures, all.ok.0))
    ∙ ap (λ w. w ++ c.args.list.now ∷ []) c.self.view_is
