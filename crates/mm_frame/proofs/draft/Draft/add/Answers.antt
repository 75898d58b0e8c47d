use Rattle.std.proofs.{Common.{ap, arith, is_none, ◌∙◌, sym, subst}, lemmas.{Grind.{common_steps}, Result.{on_ok_weaker}}}
use Rattle.mm_statement.specs.Language.Statement.{kind_of}
use Rattle.mm_frame.{specs.{Language.Sound.{sound_items}, Code.Numbers.{AreNameNumbers}}, proofs.lemmas.base.BaseLemmas.{sound_found_none, framed_parts}}
use Rattle.mm_frame.proofs.draft.Draft.add.Goals as goal

pub returns : goal.returns
returns c = on_ok_weaker c.add_item.result (λ follows all said d told numbers kept.
    let item = c.args.statement.now in
    let next = c.next-item.ensures in
    let none = sym next.sound in (
      follows all said d.0 told (λ t. subst (λ w. AreNameNumbers all w item.symbols) (sym c.deref.ensures.value) (numbers t)) kept,
      c.in_ok-keep.ensures all said item (c.earlier-earlier.ensures all said d.0) (c.disjoints-disjoints.ensures ∙ d.0.active.disjoints) next.kind
          (ap is_none (sym told) ∙ (grind (arith, common_steps) steps 200000) ∙ none)
          (λ t. let parts = framed_parts c.next-item.result.sound (kind_of c.next-item.result.kind) item.kind next.kind t in record {
            sound = sound_found_none (λ f. (f.word, f.number)) (sound_items said) item c.args.fault.now told (none ∙ parts.0);
            assertion = parts.1;
            symbols = record { symbols = kept.read (none ∙ parts.0) parts.2; numbered = kept.numbered };
          })
          d.1,
    )) c.add_item.ensures
