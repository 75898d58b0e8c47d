-- The steps of a compressed proof, and the labels that they stand for with each saved part written out (Metamath book, Appendix B).
use Rattle.std.specs.Prelude.{◌≡◌, ℕ, ◌≤◌, Option, Some, None, List, [], ◌∷◌, ◌++◌, length, if◌then◌else◌, slice_get, ℤ, pos, ◌+ℤ◌, ◌-ℤ◌}
use Rattle.std.specs.Option.{option_or, option_map}
use Rattle.std.specs.Ordering.{int_eq}
use Rattle.mm_machine.specs.Language.Frame.{LabelMeaning, Assertion, Setting}

-- how many expressions a label with this meaning takes: an assertion one for each mandatory hypothesis
abbrev pub taken_by : LabelMeaning → ℕ
taken_by (Assertion frame) = length frame.hypotheses
taken_by _ = 0

-- how many expressions labels leave, less those that they take: each label leaves one, and takes as many as its meaning says
abbrev pub weight : Setting → List (List ℕ) → ℤ
weight place [] = pos 0
weight place (label ∷ labels) = (pos 1 -ℤ pos (taken_by (place.resolve label))) +ℤ weight place labels

-- the labels that derive the last expression: the shortest list at the end whose weight is one
-- In words: `last_part_is_shortest`: No list at the end that weighs one is shorter. If none weighs one, there is no last part.
abbrev pub last_part : Setting → List (List ℕ) → Option (List (List ℕ))
last_part place [] = None
last_part place (label ∷ labels) = option_or (last_part place labels) (if int_eq (weight place (label ∷ labels)) (pos 1) then Some (label ∷ labels) else None)

-- the part is the shortest suffix whose weights add up to one
pub record IsLastPart (place : Setting) (labels part : List (List ℕ)) : Type 0 where
  pub front : List (List ℕ)
  pub whole : labels ≡ front ++ part
  pub weighs_one : weight place part ≡ pos 1
  pub shortest : (ahead back : List (List ℕ)) → labels ≡ ahead ++ back → weight place back ≡ pos 1 → length part ≤ length back

-- A step of a proof: a label; what was saved as number n, once more; a save of what was derived last; or a step that is not known.
pub data Step : Type 0 where
  Named : List ℕ → Step
  Saved : ℕ → Step
  Save : Step
  NotKnown : Step

-- What steps stand for so far: the labels, and the lists of labels that were saved.
pub record Expanded : Type 0 where
  pub labels : List (List ℕ)
  pub saved : List (List (List ℕ))

-- what one more step does: a label is added; a saved list is added, if there is one of that number; the labels of the last expression are saved,
-- if there are any; an unknown step has no expansion
abbrev pub expand_one : Setting → Expanded → Step → Option Expanded
expand_one place so_far (Named label) = Some (record so_far { labels = so_far.labels ++ label ∷ [] })
expand_one place so_far (Saved n) = option_map (λ part. record so_far { labels = so_far.labels ++ part }) (slice_get so_far.saved n)
expand_one place so_far Save = option_map (λ part. record so_far { saved = so_far.saved ++ part ∷ [] }) (last_part place so_far.labels)
expand_one place so_far NotKnown = None

-- what steps make of the expansion so far, one after another; nothing, as soon as one of them has no expansion
-- In words: `save_keeps_last_entry`: If the labels so far end with a list that derives an expression, a save keeps that list.
abbrev pub expand_from : Setting → Option Expanded → List Step → Option Expanded
expand_from place so_far [] = so_far
expand_from place None (step ∷ steps) = None
expand_from place (Some so_far) (step ∷ steps) = expand_from place (expand_one place so_far step) steps

-- the labels that the steps of a proof stand for, every saved part written out, if there are any
abbrev pub expansion : Setting → List Step → Option Expanded
expansion place steps = expand_from place (Some (record { labels = []; saved = [] })) steps
