-- Marks for the labels that steps name, and the labels that are marked.
use Rattle.std.proofs.Common.{rules, ◌≡◌, ℕ, zero, suc, ◌+◌, ◌<◌, Bool, true, false, ◌||◌, if◌then◌else◌, Some, List, [], ◌∷◌, ◌++◌, length, take, get_or, refl, ◌∙◌, ap, inl, inr, slice_get, eq-eqb}
use Rattle.std.proofs.{Common.{arith}, lemmas.{Grind.{common_steps}, Bool.{cases_Bool, false≢true}, List.{take_more, Folds.{list_any-append}}, Map.Keys.{any_passes_from_place}}}
use Rattle.std.{proofs.{lemmas.Option.{same_Some, slice_get_cases, slice_get_past, slice_get_within}, Math.Bool.{or-false}}, specs.{Cmp.{both_ways}, List.{list_any}}}
use Rattle.mm_frame.specs.declared.base.Resolved.{Resolved}
use Rattle.mm_verdict.specs.Code.{Cited.{cited_item, is_item, is_listed, item_named, marked_at, masked, names_item}, UsedLabels.{AreUseMarks, label_named, names_label}}
use Rattle.mm_machine.specs.declared.step.{Action.{Action}, ProofStep.{ProofStep}}
use Rattle.mm_frame.specs.declared.base.Resolved.TheVariants as answers
use Rattle.mm_machine.specs.declared.step.Action.TheVariants as actions

-- one step more names what it names
pub names_more : (k : ℕ) (steps : List ProofStep) (step : ProofStep) → list_any (names_label k) (steps ++ step ∷ []) ≡ (list_any (names_label k) steps || is_item (label_named step.action) k)
names_more k steps step = list_any-append (names_label k) steps (step ∷ []) ∙ ap (λ b. list_any (names_label k) steps || b) (or-false (is_item (label_named step.action) k))

-- a number without a mark more changes no mark
no_mark_more : (marks : List Bool) (k : ℕ) → marked_at (marks ++ false ∷ []) k ≡ marked_at marks k
no_mark_more [] zero = refl
no_mark_more [] (suc k) = refl
no_mark_more (mark ∷ marks) zero = refl
no_mark_more (mark ∷ marks) (suc k) = no_mark_more marks k

-- where one label more can be marked, and is where one step more names it
pub marks_next :
    (old wider new : List Bool) (steps more : List ProofStep) (step : ProofStep) → ((k : ℕ) → marked_at old k ≡ list_any (names_label k) steps) → wider ≡ old ++ false ∷ [] →
    ((k : ℕ) → marked_at new k ≡ (marked_at wider k || is_item (label_named step.action) k)) → more ≡ steps ++ step ∷ [] → (k : ℕ) → marked_at new k ≡ list_any (names_label k) more
marks_next old wider new steps more step are wide each is k = grind (arith, no_mark_more old k, names_more k steps step) steps 200000

-- an element that passes, with its place
found : {X : Type 0} (p : X → Bool) (xs : List X) → list_any p xs ≡ true → (n : ℕ) × (x : X) × (slice_get xs n ≡ Some x) × (p x ≡ true)
found p [] e = absurd (false≢true e)
found p (x ∷ xs) e = elim (cases_Bool (p x)) [
  | inl t ↦ (zero, x, refl, t)
  | inr f ↦ let more = found p xs (rw f at e) in (suc more.0, more.1, more.2, more.3)
]

-- the entry of a label that an action names
named_at : (labels : List Resolved) (k : ℕ) (action : Action) → is_item (label_named action) k ≡ true → item_named labels action ≡ cited_item (slice_get labels k)
named_at labels k action e = grind (arith, common_steps) steps 200000

-- an action that names an assertion names its label
names_it : (action : Action) (k : ℕ) → action ≡ actions.Label k → is_item (label_named action) k ≡ true
names_it action k e = ap (λ a. is_item (label_named a) k) e ∙ eq-eqb k k refl

-- an action that names an assertion, where the label that it names is kept
listed_by : (labels used : List Resolved) (j : ℕ) (action : Action) → ((k : ℕ) → action ≡ actions.Label k → slice_get used k ≡ slice_get labels k) → is_item (item_named labels action) j ≡ true → is_listed used j ≡ true
listed_by labels used j action keeps e = grind (arith, common_steps, false≢true, any_passes_from_place) steps 200000

-- ---- labels with marks

pub masked_count : (labels : List Resolved) (marks : List Bool) → length (masked labels marks) ≡ length labels
masked_count [] marks = refl
masked_count (l ∷ labels) [] = ap suc (masked_count labels [])
masked_count (l ∷ labels) (m ∷ marks) = ap suc (masked_count labels marks)

pub masked_marked : (labels : List Resolved) (marks : List Bool) (n : ℕ) → marked_at marks n ≡ true → slice_get (masked labels marks) n ≡ slice_get labels n
masked_marked [] marks n t = refl
masked_marked (l ∷ labels) [] n t = absurd (false≢true t)
masked_marked (l ∷ labels) (m ∷ marks) zero t = rw t refl
masked_marked (l ∷ labels) (m ∷ marks) (suc n) t = masked_marked labels marks n t

pub masked_out : (labels : List Resolved) (marks : List Bool) (n : ℕ) → n < length labels → marked_at marks n ≡ false → slice_get (masked labels marks) n ≡ Some answers.Unknown
masked_out [] marks n l f = absurd (omega (arith, l))
masked_out (l ∷ labels) [] zero k f = refl
masked_out (l ∷ labels) [] (suc n) k f = masked_out labels [] n (omega (arith, k)) refl
masked_out (l ∷ labels) (m ∷ marks) zero k f = rw f refl
masked_out (l ∷ labels) (m ∷ marks) (suc n) k f = masked_out labels marks n (omega (arith, k)) f

masked_at : (labels : List Resolved) (marks : List Bool) (k : ℕ) (d : Resolved) (b : Bool) → k < length labels → length marks ≡ length labels →
    get_or (masked labels marks) k d ≡ (if get_or marks k b then get_or labels k d else answers.Unknown)
masked_at [] marks k d b l e = absurd (omega (arith, l))
masked_at (label ∷ labels) [] k d b l e = absurd (omega (arith, e))
masked_at (label ∷ labels) (mark ∷ marks) zero d b l e = refl
masked_at (label ∷ labels) (mark ∷ marks) (suc k) d b l e = masked_at labels marks k d b (omega (arith, l)) (omega (arith, e))

-- one more of them
pub masked_next : (labels : List Resolved) (marks : List Bool) (k : ℕ) (d : Resolved) (b : Bool) → k < length labels → length marks ≡ length labels →
    take (k + 1) (masked labels marks) ≡ take k (masked labels marks) ++ (if get_or marks k b then get_or labels k d else answers.Unknown) ∷ []
masked_next labels marks k d b l e =
    search (rules, masked_at labels marks k d b l e, masked_count labels marks, take_more (masked labels marks) k d (omega (arith, l, masked_count labels marks)))

-- the marked labels list the assertions that the steps name
module _ (labels : List Resolved) (marks : List Bool) (steps : List ProofStep) (are : AreUseMarks (length labels) marks steps) where
  abbrev used : List Resolved
  used = masked labels marks

  kept : (n : ℕ) (step : ProofStep) → slice_get steps n ≡ Some step → (k : ℕ) → step.action ≡ actions.Label k → slice_get used k ≡ slice_get labels k
  kept n step at k names = search (rules, any_passes_from_place, masked_count, masked_marked, names_it, slice_get_cases, slice_get_past)

  listed : (j : ℕ) → list_any (names_item labels j) steps ≡ true → is_listed used j ≡ true
  listed j e = grind (arith, common_steps, found, kept, listed_by) steps 200000

  named_by : (j k : ℕ) (u : Resolved) → slice_get used k ≡ Some u → is_item (cited_item (Some u)) j ≡ true → list_any (names_item labels j) steps ≡ true
  named_by j k u at e =
      search (rules, any_passes_from_place, cases_Bool, false≢true, found, masked_count, masked_marked, masked_out, named_at, same_Some, slice_get_within)

  named : (j : ℕ) → is_listed used j ≡ true → list_any (names_item labels j) steps ≡ true
  named j e = let entry = found (λ label. is_item (cited_item (Some label)) j) used e in named_by j entry.0 entry.1 entry.2 entry.3

  pub masked_used : (j : ℕ) → is_listed (masked labels marks) j ≡ list_any (names_item labels j) steps
  masked_used j = both_ways (is_listed used j) (list_any (names_item labels j) steps) (named j) (listed j)
