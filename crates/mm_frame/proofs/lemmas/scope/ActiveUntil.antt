-- Up to where an item is active.
use Rattle.std.proofs.lemmas.{Grind.{common_steps}, Bool.{le-leb, lt-leb, false≢true}, List.{drop-take, length-drop, length-append}, Option.{slice_get-get_or}}
use Rattle.std.proofs.Common.{◌≡◌, ℕ, suc, ◌+◌, ◌-◌, ◌<◌, leb, ◌++◌, ◌∷◌, Bool, true, Option, Some, None, List, [], length, take, drop, get_or, sym, ◌∙◌, ap, subst, arith, ◌↔◌, slice_range}
use native.Mathlib.Decide.{dec_lt}
use Rattle.mm_frame.specs.{Language.{Resolving.{IsUpTo}, Marks.{Mark, Closes}}, Code.{BlockMarks.{stays_by}, BlockEnds.{end_of_block}, KeptBlocks.{marks_from, StandsEnded, Stands, AreBlockEndsKept}}}
use Rattle.mm_frame.proofs.lemmas.scope.BlockLemmas.{length_marks, is_active_open, is_active_ended}

-- what is between an item and a later place, with or without an item there
behind_range : (marks : List Mark) (from at : ℕ) → from < at → slice_range marks (from + 1) at ≡ drop (suc from) (take at marks)
behind_range marks from at l = grind (arith, common_steps, drop-take (from + 1) (at - (from + 1)) marks) steps 200000

-- an item whose block stays open, and one whose block ends
pub until_open :
    (blocks : List ℕ) (ends : List (Option ℕ)) (outer : List ℕ) (current begun ended from at block : ℕ) → AreBlockEndsKept blocks ends outer current begun ended →
    from < at → from < length blocks → block ≡ get_or blocks from block → end_of_block ends block ≡ None →
    (stays_by (drop (suc from) (take at (marks_from ends 0 0 blocks))) ≡ true) ↔ IsUpTo at None
until_open blocks ends outer current begun ended from at block k l w there e =
    (λ t. tt, λ u. ap stays_by (sym (behind_range (marks_from ends 0 0 blocks) from at l)) ∙ (is_active_open blocks ends outer current begun ended from at block k w there e))

up_to : (b : Bool) (at end : ℕ) → b ≡ leb at end → (b ≡ true) ↔ (at < end + 1)
up_to b at end e = grind (arith, common_steps, dec_lt, false≢true, le-leb, lt-leb) steps 200000

pub until_ended :
    (blocks : List ℕ) (ends : List (Option ℕ)) (outer : List ℕ) (current begun ended from at block end : ℕ) → AreBlockEndsKept blocks ends outer current begun ended →
    from < at → from < length blocks → block ≡ get_or blocks from block → end_of_block ends block ≡ Some end →
    (stays_by (drop (suc from) (take at (marks_from ends 0 0 blocks))) ≡ true) ↔ IsUpTo at (Some (end + 1))
until_ended blocks ends outer current begun ended from at block end k l w there e =
    let marks = marks_from ends 0 0 blocks in
    up_to (stays_by (drop (suc from) (take at marks))) at end (ap stays_by (sym (behind_range marks from at l)) ∙ is_active_ended blocks ends outer current begun ended from at block end k l w there e)

-- the item that ended a block is one of the items
pub end_there :
    (blocks : List ℕ) (ends : List (Option ℕ)) (outer : List ℕ) (current begun ended from block end : ℕ) → AreBlockEndsKept blocks ends outer current begun ended →
    from < length blocks → block ≡ get_or blocks from block → end_of_block ends block ≡ Some end → end < length blocks
end_there blocks ends outer current begun ended from block end k w there e =
    let s : StandsEnded (drop (suc from) (marks_from ends 0 0 blocks)) from end =
    subst (λ o. Stands (outer ++ current ∷ []) (drop (suc from) (marks_from ends 0 0 blocks)) block from o) e (k.are_blocks.stand from block (slice_get-get_or blocks from block w ∙ ap Some (sym there))) in
    let behind : length (drop (suc from) (marks_from ends 0 0 blocks)) ≡ length s.front + length (Closes ∷ s.rest) = ap length s.parts ∙ length-append s.front (Closes ∷ s.rest) in
    grind (arith, common_steps, length-drop (suc from) (marks_from ends 0 0 blocks), length_marks ends 0 0 blocks) steps 200000
