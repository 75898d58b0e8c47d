use Rattle.std.proofs.Common.{◌∙◌, ap, ◌++◌, flat_map, sym, subst}
use Rattle.mm_frame.{specs.Code.{KeptSymbols.{float_numbers}, KeptVariables.{known_float}, LastItems.{IsRising, is_essential_item}}, proofs.lemmas.frames.HypothesisNumbers.{active_numbers_rise}}
use Rattle.mm_frame.proofs.lemmas.frames.MandatoryLemmas.{hypotheses_sorted}
use Rattle.mm_frame.proofs.mandatory.put_hypotheses.Goals as goal

pub returns : goal.returns
returns c all before item known framed =
    let earlier = c.args.earlier.now in
    let tables = earlier.tables.now in
    let essentials = earlier.essentials.now in
    let found = flat_map (known_float tables essentials) earlier.variables.now in
    let floats = c.in_ok-add_floats.ensures ∙ ap (λ w. w ++ float_numbers tables c.args.own.now) c.clear.ensures.items in
    let known_too = c.in_ok-add_known_floats.ensures (subst IsRising (sym known.essentials) (active_numbers_rise is_essential_item before)) ∙ ap (λ w. w ++ found) floats in
    hypotheses_sorted tables earlier.expressions.now essentials earlier.variables.now c.args.own.now
    c.extend_from_slice.new.self.items c.dedup.new.self.items c.sort_unstable.new.self.items c.dedup-2.new.self.items (c.in_ok-extend_from_slice.ensures.items ∙ ap (λ w. w ++ essentials) known_too) c.dedup.ensures.filtered
    c.sort_unstable.ensures.permutation c.sort_unstable.ensures.sorted c.dedup-2.ensures.filtered
    all before item (record { sound = known.sound; known = known.known; expressions = known.expressions; numbered = known.numbered; item_sound = framed.sound; assertion = framed.assertion; symbols = framed.symbols }) known.variables known.essentials
