use Rattle.std.proofs.Common.{length, get_or, ap, sym, ◌∙◌, subst, arith, slice_range}
use Rattle.mm_frame.{specs.Code.KeptLists.{IsPartOf, item_list, elements_of, no_part}, proofs.lemmas.lists.ItemLists.{part_within, list_of}}
use Rattle.mm_frame.proofs.item_lists.ItemLists.at.Goals as goal

pub elements_between-requires-clause-start : goal.elements_between-requires-clause-start
elements_between-requires-clause-start g c =
    let i = c.self.inside in
    let is = c.part_at-part.ensures ∙ ap (λ w. get_or w c.args.number no_part) c.deref.ensures.value in
    (subst (IsPartOf (length i.elements.items)) (sym is) (part_within (length i.elements.items) i.parts.items c.args.number c.self.invariant)).0

pub elements_between-requires-clause-end : goal.elements_between-requires-clause-end
elements_between-requires-clause-end g c =
    let i = c.self.inside in
    let is = c.part_at-part.ensures ∙ ap (λ w. get_or w c.args.number no_part) c.deref.ensures.value in
    omega (arith, ap length c.deref-2.ensures.value, (subst (IsPartOf (length i.elements.items)) (sym is) (part_within (length i.elements.items) i.parts.items c.args.number c.self.invariant)).1)

pub returns : goal.returns
returns g c =
    let i = c.self.inside in
    let is = c.part_at-part.ensures ∙ ap (λ w. get_or w c.args.number no_part) c.deref.ensures.value in
    c.elements_between.ensures ∙ ap (λ w. slice_range w c.part_at-part.result.start c.part_at-part.result.end) c.deref-2.ensures.value ∙ ap (elements_of i.elements.items) is
    ∙ sym (list_of i.elements.items i.parts.items c.args.number) ∙ ap (λ w. item_list w c.args.number) c.self.view_is
