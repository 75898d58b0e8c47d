use Rattle.std.{proofs.{Common.{arith, ◌≡◌, Option, Some, is_some, true, Bor, sym, ap, ◌∙◌, subst}, lemmas.Grind.{common_steps}}, specs.Option.{option_copied}}
use Rattle.slab.specs.Slab.{get}
use Rattle.mm_text.specs.Language.Part.{HasUnits}
use Rattle.mm_store.proofs.lemmas.files.SlabLemmas.{some_slot, text_is}
use Rattle.mm_store.proofs.pieces.PieceStore.parts.Goals as goal

some_copied : {T : Type 0} (r : Option (Bor T)) → is_some (option_copied r) ≡ true → is_some r ≡ true
some_copied r e = grind (arith, common_steps) steps 200000

pub unwrap-piece-requires : goal.unwrap-piece-requires
unwrap-piece-requires c = grind (arith, common_steps, some_copied, some_slot) steps 200000

pub returns-clause-parts : goal.returns-clause-parts
returns-clause-parts c = λ units has.
    let there : get c.self.inside.slab c.args.key ≡ Some c.unwrap-piece.result.now = sym c.get.ensures ∙ ap option_copied c.unwrap-piece.ensures in
    let kept = c.self.invariant.kept c.args.key c.unwrap-piece.result.now there in
    let text = text_is c.self.inside.slab c.args.key c.args.self.now c.unwrap-piece.result.now c.self.view_is there in
    c.deref.ensures.value ∙ kept.divided units (subst (λ t. HasUnits t units) text has)

pub returns-clause-unit : goal.returns-clause-unit
returns-clause-unit c =
    let there : get c.self.inside.slab c.args.key ≡ Some c.unwrap-piece.result.now = sym c.get.ensures ∙ ap option_copied c.unwrap-piece.ensures in
    grind (arith, common_steps, c.self.invariant.kept c.args.key c.unwrap-piece.result.now there, text_is c.self.inside.slab c.args.key c.args.self.now c.unwrap-piece.result.now c.self.view_is there) steps 200000
