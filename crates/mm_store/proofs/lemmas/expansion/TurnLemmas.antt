-- A walk takes a number of turns at most: each step but the last makes what is left smaller.
use Rattle.std.proofs.{Common.{rules, ◌≡◌, ℕ, ◌+◌, ◌*◌, ◌-◌, ◌<◌, Bool, true, false, List, [], ◌∷◌, ◌++◌, Option, Some, None, length, ap, ◌∙◌, arith, inl, inr, slice_get}, lemmas.Grind.{common_steps}}
use Rattle.std.proofs.lemmas.Option.{none-some, slice_get_within}
use Rattle.mm_store.specs.{declared.walk.PlacedPiece.{PlacedPiece}, Language.{FilesView.{PieceView, FileView}, Walking.{LevelView, WalkView}}}
use Rattle.mm_store.{specs.Code.Steps.{behind, beginning, IsHere, ComesAgain, Enters, Passes, PassesTold, Tells, IsStep}, proofs.lemmas.files.GrowthLemmas.{name_of_number, there_number}}
use Rattle.mm_store.proofs.lemmas.expansion.BudgetLemmas.{weight, weight_less, weight_entered}
use Rattle.mm_store.specs.declared.walk.Step.TheVariants as steps

-- how many turns a file takes: one for each piece, one to leave it, and one more
abbrev pub file_turns : FileView → ℕ
file_turns file = length file.pieces + 2

abbrev pub turns_in : Option FileView → ℕ → ℕ
turns_in None piece = 1
turns_in (Some file) piece = (length file.pieces - piece) + 1

-- how many turns are left in entered files
abbrev pub level_turns : List FileView → List LevelView → ℕ
level_turns files [] = 0
level_turns files (level ∷ levels) = turns_in (slice_get files level.file) level.piece + level_turns files levels

abbrev pub untold : Bool → ℕ
untold true = 0
untold false = 1

-- twice the turns that are left at most, and one for reporting a missing name
abbrev pub turns : List FileView → WalkView → ℕ
turns files walk = 2 * (weight file_turns files walk.names + level_turns files walk.levels) + untold walk.told

level_turns_last : (files : List FileView) (front : List LevelView) (level : LevelView) → level_turns files (front ++ level ∷ []) ≡ level_turns files front + turns_in (slice_get files level.file) level.piece
level_turns_last files [] level = omega arith
level_turns_last files (first ∷ front) level = omega (arith, level_turns_last files front level)

-- the turns that are left after a piece
moved : (files : List FileView) (levels front : List LevelView) (level : LevelView) (piece : PieceView) → IsHere files levels front level piece → level_turns files (front ++ behind level ∷ []) + 1 ≡ level_turns files levels
moved files levels front level piece h = grind (arith, common_steps, level_turns_last, none-some, slice_get_within) steps 200000

module _ (files : List FileView) (old new : WalkView) where
  again_less : ComesAgain files old new → turns files new < turns files old
  again_less a = grind (arith, common_steps, moved files old.levels a.front a.level a.piece a.is_here) steps 200000

  passes_less : (spot : PlacedPiece) → Passes files old spot new → turns files new < turns files old
  passes_less spot p = grind (arith, common_steps, moved files old.levels p.front p.level p.piece p.is_here) steps 200000

  told_less : (spot : PlacedPiece) → PassesTold files old spot new → turns files new < turns files old
  told_less spot p = search (rules, moved files old.levels p.front p.level p.piece p.is_here, weight_less file_turns files old.names p.name) steps 200000

  pub tells_less : (name : List ℕ) → Tells files old name new → turns files new < turns files old
  tells_less name t = grind (arith, common_steps) steps 200000

  enters_less : Enters files old new → turns files new < turns files old
  enters_less e =
      let after = ap (turns files) e.after in
      let found = there_number files e.name e.number e.is_number in
      let begin : turns_in (slice_get files e.number) 0 ≡ length found.0.pieces + 1 = ap (λ file. turns_in file 0) found.1 ∙ omega arith in
      omega (
        arith,
        after,
        moved files old.levels e.front e.level e.piece e.is_here,
        begin,
        level_turns_last files (e.front ++ behind e.level ∷ []) (beginning e.number),
        weight_entered file_turns files old.names e.name e.number found.0 found.1 (name_of_number files e.name e.number found.0 e.is_number found.1) e.fresh,
      )

  pub nothing_less : IsStep files old steps.Nothing new → turns files new < turns files old
  nothing_less (inl l) = grind (arith, common_steps, level_turns_last) steps 200000
  nothing_less (inr (inl a)) = again_less a
  nothing_less (inr (inr e)) = enters_less e

  pub items_less : (spot : PlacedPiece) → IsStep files old (steps.Items spot) new → turns files new < turns files old
  items_less spot (inl p) = passes_less spot p
  items_less spot (inr p) = told_less spot p
