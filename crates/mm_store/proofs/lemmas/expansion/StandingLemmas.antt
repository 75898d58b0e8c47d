-- A walk that stands before a reference takes its name with the next step.
use Rattle.std.proofs.{Common.{arith, ◌≡◌, ℕ, List, [], ◌∷◌, ◌++◌, Option, Some, None, refl, sym, ap, ◌∙◌, subst, Contains, inl, inr, slice_get}, lemmas.{Grind.{common_steps}, List.{same_from_push}}}
use Rattle.std.proofs.lemmas.Option.{none-some, same_Some}
use Rattle.mm_store.specs.{declared.walk.PlacedPiece.{PlacedPiece}, Language.{FilesView.{PieceView, FileView}, Expansion.{Placed, ArePartsOf}}}
use Rattle.mm_store.specs.{Language.Walking.{IsNextPiece, LevelView, StandsBefore, WalkView}, Code.Steps.{piece_in, piece_at, Includes, IsHere, IsStep}}
use Rattle.mm_store.proofs.lemmas.{expansion.ExpansionLemmas.{OneReading, OneDivision, parts_one}, files.GrowthLemmas.{last_in}}
use Rattle.mm_store.specs.declared.walk.Step.TheVariants as steps

file_of : (found : Option FileView) (n : ℕ) (piece : PieceView) → piece_in found n ≡ Some piece → (file : FileView) × (found ≡ Some file) × (slice_get file.pieces n ≡ Some piece)
file_of None n piece is = absurd (none-some piece is)
file_of (Some file) n piece is = (file, refl, is)

pub next_here : (files : List FileView) (levels front : List LevelView) (level : LevelView) (piece : PieceView) (part : Placed) → IsHere files levels front level piece
    → ArePartsOf level.file level.piece piece (part ∷ []) → IsNextPiece files levels part
next_here files levels front level piece part here are =
    grind (arith, common_steps, file_of (slice_get files level.file) level.piece piece here.there) steps 200000

first_same : (a b : Placed) → a ∷ [] ≡ b ∷ [] → a ≡ b
first_same a b is = same_Some a b (ap (λ l. slice_get l 0) is)

module _ (one_reading : OneReading) (one_division : OneDivision) (files : List FileView) (old new : WalkView) (part : Placed) (stands : StandsBefore files old part) where
  there_at : (front : List LevelView) (level : LevelView) → old.levels ≡ front ++ level ∷ [] → stands.is_next.innermost ≡ level
  there_at front level last = (same_from_push stands.is_next.outer front stands.is_next.innermost level (sym stands.is_next.last ∙ last)).1

  next_at : (front : List LevelView) (level : LevelView) → old.levels ≡ front ++ level ∷ [] → piece_at files level ≡ Some stands.is_next.piece
  next_at front level last = grind (arith, common_steps, there_at front level last) steps 200000

  -- the parts of the piece that is next
  same_parts : (front : List LevelView) (level : LevelView) (piece : PieceView) (placed : List Placed) → IsHere files old.levels front level piece
      → ArePartsOf level.file level.piece piece placed → placed ≡ part ∷ []
  same_parts front level piece placed here are =
      let next = stands.is_next in
      let same : next.piece ≡ piece = same_Some next.piece piece (sym (next_at front level here.last) ∙ here.there) in
      let own = subst (λ piece. ArePartsOf level.file level.piece piece (part ∷ [])) same
      (subst (λ (level : LevelView). ArePartsOf level.file level.piece next.piece (part ∷ [])) (there_at front level here.last) next.are_parts) in
      parts_one one_reading one_division level.file level.piece piece placed (part ∷ []) are own

  same_name : (front : List LevelView) (level : LevelView) (piece : PieceView) (name : List ℕ) → IsHere files old.levels front level piece
      → Includes level.file level.piece piece name → name ≡ part.name
  same_name front level piece name here includes =
      sym includes.is_name ∙ ap (λ (part : Placed). part.name) (first_same includes.part part (same_parts front level piece (includes.part ∷ []) here includes.are_parts))

  pub one_stands : (other : Placed) → StandsBefore files old other → other ≡ part
  one_stands other stands_too =
      let next = stands_too.is_next in
      let there = ap (λ found. piece_in found next.innermost.piece) next.there ∙ next.is_piece in
      first_same other part (same_parts next.outer next.innermost next.piece (other ∷ []) (record { last = next.last; there = there }) next.are_parts)

  takes_name : (name : List ℕ) → name ≡ part.name → new.names ≡ old.names ++ name ∷ [] → Contains new.names part.name
  takes_name name is after = subst (λ names. Contains names part.name) (sym after) (subst (Contains (old.names ++ name ∷ [])) is (last_in old.names name))

  pub nothing_takes : IsStep files old steps.Nothing new → Contains new.names part.name
  nothing_takes (inl l) = absurd (none-some stands.is_next.piece (sym l.none ∙ next_at l.front l.level l.last))
  nothing_takes (inr (inl a)) = absurd (stands.new (subst (Contains old.names) (same_name a.front a.level a.piece a.name a.is_here a.includes) a.known))
  nothing_takes (inr (inr e)) = takes_name e.name (same_name e.front e.level e.piece e.name e.is_here e.includes) (ap (λ (walk : WalkView). walk.names) e.after)

  pub items_takes : (spot : PlacedPiece) → IsStep files old (steps.Items spot) new → Contains new.names part.name
  items_takes spot (inl p) = grind (arith, common_steps, same_parts p.front p.level p.piece p.nothing.placed p.is_here p.nothing.are_parts) steps 200000
  items_takes spot (inr p) = takes_name p.name (same_name p.front p.level p.piece p.name p.is_here p.includes) (ap (λ (walk : WalkView). walk.names) p.after)
