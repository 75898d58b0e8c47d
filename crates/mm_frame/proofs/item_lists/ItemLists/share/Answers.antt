use Rattle.std.proofs.{Common.{◌++◌, ◌∷◌, [], length, get_or, map, ap, sym, ◌∙◌, subst, All}, lemmas.List.Elements.{All-push}}
use Rattle.mm_frame.{specs.Code.KeptLists.{IsPartOf, item_list, elements_of, no_part}, proofs.lemmas.lists.ItemLists.{older_list, part_within}}
use Rattle.mm_frame.proofs.item_lists.ItemLists.share.Goals as goal

pub invariant_of-self-2 : goal.invariant_of-self-2
invariant_of-self-2 g c =
    let i = c.self.inside in
    let is = c.part_at-part.ensures ∙ ap (λ w. get_or w c.args.number no_part) c.deref.ensures.value in
    let of = IsPartOf (length i.elements.items) in
    subst (All of) (sym c.in_ok-push.ensures.items)
    (All-push of i.parts.items c.part_at-part.result c.self.invariant (subst of (sym is) (part_within (length i.elements.items) i.parts.items c.args.number c.self.invariant)))

pub returns : goal.returns
returns g c =
    let i = c.self.inside in
    let is = c.part_at-part.ensures ∙ ap (λ w. get_or w c.args.number no_part) c.deref.ensures.value in
    ap (map (elements_of i.elements.items)) (c.in_ok-push.ensures.items ∙ ap (λ p. i.parts.items ++ p ∷ []) is) ∙ older_list i.elements.items i.parts.items c.args.number
    ∙ ap (λ w. w ++ item_list w c.args.number ∷ []) c.self.view_is
