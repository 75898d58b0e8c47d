use Rattle.std.proofs.{Common.{arith, ◌≡◌, List, ◌∙◌, sym, ap, subst, get_or, All}, lemmas.{Grind.{common_steps}, Bool.{false≢true}, Option.{slice_get-get_or, get_or_from_slice_get}}}
use Rattle.mm_text.specs.{declared.{part.Part.{Part}, word.Word.{Word}}, Language.{Reading.{HasWords}, Part.{IsReadable, part_bytes}}}
use Rattle.mm_store.{specs.Language.FileFacts.{second_word}, proofs.lemmas.expansion.IncludeLemmas.{nothing_there, included_there, units, no_first, some_first}}
use Rattle.mm_store.proofs.included.included_name.Goals as goal

pub returns-then-is_empty-clause-none : goal.returns-then-is_empty-clause-none
returns-then-is_empty-clause-none c file number key =
    nothing_there c.args.text.now c.args.parts.now c.requires.unit c.requires.divided file number key
    (λ part there kind. no_first c.args.parts.now part there (sym c.is_empty.ensures ∙ c.if-is_empty.true))

pub returns-then-not-is_inclusion-clause-none : goal.returns-then-not-is_inclusion-clause-none
returns-then-not-is_inclusion-clause-none c file number key =
    nothing_there c.args.text.now c.args.parts.now c.requires.unit c.requires.divided file number key
    (λ part there kind. (let same = get_or_from_slice_get c.args.parts.now 0 part c.index-parts-0.result there in
    false≢true (sym c.if-not-is_inclusion.true ∙ c.is_inclusion.ensures.1 (ap (λ (part : Part). part.kind) (c.part-part.ensures ∙ c.index-parts-0.is ∙ same) ∙ kind))))

pub named-requires : goal.named-requires
named-requires c =
    let unit = c.requires.unit in
    let has = units c.args.text.now c.args.parts.now unit c.requires.divided 0 0 (record { at = 0 }) in
    grind (arith, common_steps, c.requires.divided unit.units has, c.parts_are_texts.ensures c.args.text.now unit.units has, some_first c.args.parts.now (sym c.is_empty.ensures ∙ c.if-is_empty.false)) steps 200000

pub returns-clause-some : goal.returns-clause-some
returns-clause-some c file number key =
    let parts = c.args.parts.now in
    let part : Part = get_or parts 0 c.index-parts-0.result in
    let some = some_first parts (sym c.is_empty.ensures ∙ c.if-is_empty.false) in
    let unit = c.requires.unit in
    let has = units c.args.text.now parts unit c.requires.divided 0 0 (record { at = 0 }) in
    let readable : IsReadable c.args.text.now part = subst (All (IsReadable c.args.text.now)) (sym (c.requires.divided unit.units has)) (c.parts_are_texts.ensures c.args.text.now unit.units has) 0 _ some in
    included_there c.args.text.now parts unit c.requires.divided file number key c.words_stand_alone.ensures.statement part c.named.result.now readable.words
    (slice_get-get_or parts 0 c.index-parts-0.result some) (ap (λ (part : Part). part.kind) (sym (c.part-part.ensures ∙ c.index-parts-0.is)) ∙ c.is_inclusion.ensures.0 c.if-not-is_inclusion.false) readable.has_words
    (subst (λ part. (words : List Word) → HasWords (part_bytes c.args.text.now part) words → c.named.result.now ≡ second_word
    (part_bytes c.args.text.now part) words) (c.part-part.ensures ∙ c.index-parts-0.is) c.named.ensures readable.words readable.has_words)
