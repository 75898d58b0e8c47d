use Rattle.std.proofs.Common.{ℕ, List, All, sym, subst, arith}
use Rattle.mm_text.specs.{declared.part.Part.{Part}, Language.{Unit.{Units}, Part.{HasUnits, HasParts, IsReadable, parts_of}}}
use Rattle.mm_store.specs.Code.Inside.{CanBeKept}
use Rattle.mm_store.proofs.piece_text.kept_piece.Goals as goal

-- each part is in the text
parts_lie : (text : List ℕ) (parts : List Part) → CanBeKept text → HasParts text parts → ((text : List ℕ) (units : Units) → HasUnits text units → All (IsReadable text) (parts_of units)) → All (IsReadable text) parts
parts_lie text parts can has law =
    let unit = can.unit in
    let units : HasUnits text unit.units = record { words = unit.words; has_words = unit.has_words; are_units = unit.are_units; spells = unit.spells } in
    subst (All (IsReadable text)) (sym (has unit.units units)) (law text unit.units units)

pub kept_parts-requires-clause-starts : goal.kept_parts-requires-clause-starts
kept_parts-requires-clause-starts c = rw c.deref.ensures.value (λ k d lt.
    (let lies = parts_lie c.args.piece.text c.args.piece.parts.items c.requires.text c.requires.parts c.parts_are_texts.ensures k d lt in omega (arith, lies.some, lies.within, c.requires.text.small)))

pub kept_parts-requires-clause-ends : goal.kept_parts-requires-clause-ends
kept_parts-requires-clause-ends c = rw c.deref.ensures.value (λ k d lt.
    (let lies = parts_lie c.args.piece.text c.args.piece.parts.items c.requires.text c.requires.parts c.parts_are_texts.ensures k d lt in omega (arith, lies.within, c.requires.text.small)))
