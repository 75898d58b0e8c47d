use Rattle.std.proofs.{Common.{◌≡◌, ℕ, All, map, List, [], ◌∷◌, ◌++◌, Option, Some, length, length-append, sym, ap, ◌∙◌, subst, arith}, lemmas.{List.{append-nil}, Grind.{common_steps}}}
use Rattle.std.specs.Option.{option_to_list}
use Rattle.mm_text.specs.{declared.{pieces.DividedPiece.{DividedPiece}, fault.TextError.{TextError}}, Language.{Cut.{IsCut, IsCutError, ended}, Part.{HasOwnParts}}}
use Rattle.mm_store.{specs.{Language.Answers.{edit_error_of}, Code.Units.{IsUnitError}}, proofs.lemmas.edits.EditLemmas.{if_err}}
use Rattle.mm_store.proofs.unit.read_unit.Goals as goal

-- what is reported of a text that has no cut
not_cut : (text : List ℕ) (error : TextError) → IsCutError text error → IsUnitError text (edit_error_of error)
not_cut text error is = grind (arith, common_steps) steps 200000

pub returns-in_err-pieces-clause-err : goal.returns-in_err-pieces-clause-err
returns-in_err-pieces-clause-err c = grind (arith, common_steps, not_cut c.args.text.now c.in_err-pieces.field-0.0 (rw c.in_ok-whole.ensures at c.in_err-pieces.ensures.fault), if_err) steps 200000

one_only : {X : Type 0} (all rest : List X) (last : Option X) (x : X) → length all ≡ 1 → all ≡ rest ++ option_to_list last → last ≡ Some x → all ≡ x ∷ []
one_only all rest last x one e is = grind (arith, common_steps, length-append) steps 200000

pub returns-clause-parts : goal.returns-clause-parts
returns-clause-parts c = λ units has.
    (let text = c.args.text.now in
    let unit : DividedPiece = c.unwrap-unit.result in
    let found = c.in_ok-pieces.field-0 in
    let one : found.pieces.items ≡ unit ∷ [] = one_only found.pieces.items c.pop.new.self.items c.pop.result unit (omega (arith, found.pieces.ok.0, c.len.ensures, c.if-len-ne1.false)) c.pop.ensures.items c.unwrap-unit.ensures in
    let cut : IsCut text (unit.text ∷ []) found.tail.items = subst (λ (ps : List DividedPiece). IsCut text (map (λ piece. piece.text) ps) found.tail.items) one (rw c.in_ok-whole.ensures at c.in_ok-pieces.ensures.cut) in
    let parts : All HasOwnParts (unit ∷ []) = subst (All HasOwnParts) one c.in_ok-pieces.ensures.parts in
    let all : c.in_ok-text.text ≡ ended text = c.in_ok-text.ensures ∙ ap (λ (bs : List ℕ). bs ++ c.deref.result.now) c.as_slice.ensures ∙ ap (λ (bs : List ℕ). unit.text ++ bs) c.deref.ensures.value
    ∙ ap (λ (bs : List ℕ). bs ++ found.tail.items) (sym (append-nil unit.text)) ∙ cut.joined in
    parts 0 unit (omega arith) units (c.one_unit_of_cut.ensures.same text unit.text found.tail.items units cut (rw all at has)))
