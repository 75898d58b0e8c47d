-- What the code keeps of the assertions: their frames, and the lists of the pairs that are active at theorems.
use Rattle.std.specs.Prelude.{◌≡◌, ℕ, Bool, ◌&&◌, Some, IfSome, is_some, is_none, List, Option}
use Rattle.std.specs.Option.{option_map}
use Rattle.mm_frame.specs.declared.assertions.Assertions.{Assertions}
use Rattle.mm_frame.specs.declared.frame.Frame.{Frame}
use Rattle.mm_frame.specs.declared.frames.Frames.{Frames}
use Rattle.mm_frame.specs.declared.pair_lists.PairLists.{PairLists}
use Rattle.mm_statement.specs.Language.Item.{Said, is_assertion}
use Rattle.mm_frame.specs.Language.Sound.{sound_items}
use Rattle.mm_frame.specs.Language.Framing.{frame, active_pairs}
use Rattle.mm_frame.specs.Language.Base.{told_fault}
use Rattle.mm_machine.specs.Language.NumberedSymbols.{ArePairsRead}
use Rattle.mm_frame.specs.Language.Answering.{AreRows, told_numbers, is_told_proof, pairs_in_order}
use Rattle.mm_frame.specs.Code.{KeptAnswers.{KnowsAnswers}, KeptFrames.{frames_kept}}
use Rattle.mm_frame.specs.Code.KeptPairLists.{AreFrontNumbers, IsList, AreListsFor}
use Rattle.mm_frame.specs.Code.LastItems.{is_disjoint_item}
use Rattle.mm_frame.specs.Language.Scope.{active_numbers}

-- the item is a sound `$a` or `$p` after the sound items before it
abbrev pub is_told_framed : List Said → Said → Bool
is_told_framed before item = is_none (told_fault before item) && is_assertion item.kind

-- a frame is kept exactly for a sound `$a` or `$p`, and has the numbers and pairs of its frame after the sound items before it
pub record TellsFrame (all : List (List ℕ)) (before : List Said) (item : Said) (kept_frame : Option Frame) : Type 0 where
  pub hypotheses : option_map (λ frame. frame.hypotheses.items) kept_frame ≡ told_numbers before item
  pub pairs : IfSome kept_frame (λ kept. ArePairsRead all (pairs_in_order (frame before item)) kept.pairs.items)

-- a count of items is kept that says which `$d` are active after the items before
abbrev pub TellsReach : List Said → Said → Option ℕ → Type 0
TellsReach before item reach = IfSome reach (AreFrontNumbers before (active_numbers is_disjoint_item before))

-- the frames are those of items that say this
pub record AreFrames (all : List (List ℕ)) (said : List Said) (frames : Frames) : Type 0 where
  pub kept : AreRows (TellsFrame all) said (frames_kept frames)
  pub reaches : AreRows TellsReach said frames.reaches

-- there is a number of a list exactly for a sound `$p`, and the list is of the pairs that are active there
pub record TellsPairs (all : List (List ℕ)) (lists : PairLists) (before : List Said) (item : Said) (number : Option ℕ) : Type 0 where
  pub some : is_some number ≡ is_told_proof before item
  pub list : (k : ℕ) → number ≡ Some k → IsList all lists k (active_pairs before)

-- the assertions are those of items that say this, by the numbers of names in the list of all
pub record AreAssertions (all : List (List ℕ)) (said : List Said) (assertions : Assertions) : Type 0 where
  pub frames : AreFrames all said assertions.frames
  pub by_count : AreListsFor all (sound_items said) assertions.pair_lists
  pub pair_numbers : AreRows (TellsPairs all assertions.pair_lists) said assertions.pair_numbers
  pub room : KnowsAnswers all (sound_items said) assertions.room.answers
