-- Frames as the code keeps them, where assertions share one.
use Rattle.std.specs.Prelude.{◌≡◌, ◌++◌, ◌∷◌, ℕ, Option, Some, List, []}
use Rattle.mm_frame.specs.declared.{frame.Frame.{Frame}, frames.Frames.{Frames}}
use Rattle.mm_frame.specs.Code.{KeptShared.{shared_values}, KeptSparse.{value_kept}}

-- the frame of each item, if it has one
abbrev pub frames_kept : Frames → List (Option Frame)
frames_kept frames = shared_values frames.kept

-- the item with this number has a frame with these hypotheses, made for this count of items up to the last active `$d`
pub record IsFrameAt (frames : Frames) (hypotheses : List ℕ) (reach number : ℕ) : Type 0 where
  pub frame : Frame
  pub there : value_kept (frames_kept frames) number ≡ Some frame
  pub hypotheses_are : frame.hypotheses.items ≡ hypotheses
  pub reach_there : value_kept frames.reaches number ≡ Some reach

-- the item with this number has a frame equal to this one
pub record IsEqualAt (frames : Frames) (frame : Frame) (number : ℕ) : Type 0 where
  pub kept : Frame
  pub there : value_kept (frames_kept frames) number ≡ Some kept
  pub hypotheses : kept.hypotheses.items ≡ frame.hypotheses.items
  pub pairs : kept.pairs.items ≡ frame.pairs.items

-- one more item has this frame, made for this count of items up to the last active `$d`, or has none
pub record AddsFrame (old new : Frames) (frame : Option Frame) (reach : Option ℕ) : Type 0 where
  pub kept : frames_kept new ≡ frames_kept old ++ frame ∷ []
  pub reaches : new.reaches ≡ old.reaches ++ reach ∷ []

-- one more item has the frame of an earlier one, which was made where the same `$d` are active
pub record AddsSame (old new : Frames) (hypotheses : List ℕ) (reach : ℕ) : Type 0 where
  pub number : ℕ
  pub same : IsFrameAt old hypotheses reach number
  pub added : AddsFrame old new (value_kept (frames_kept old) number) (Some reach)

-- one more item has a frame equal to this one
pub record KeepsEqual (old new : List (Option Frame)) (frame : Frame) : Type 0 where
  pub kept : Frame
  pub hypotheses : kept.hypotheses.items ≡ frame.hypotheses.items
  pub pairs : kept.pairs.items ≡ frame.pairs.items
  pub added : new ≡ old ++ Some kept ∷ []

-- and it was made for this count of items up to the last active `$d`
pub record AddsEqual (old new : Frames) (frame : Frame) (reach : ℕ) : Type 0 where
  pub equal : KeepsEqual (frames_kept old) (frames_kept new) frame
  pub reaches : new.reaches ≡ old.reaches ++ Some reach ∷ []
