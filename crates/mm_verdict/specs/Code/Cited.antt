-- Which words cite, by the numbers of assertions: it is between the code and the definition.
use Rattle.std.specs.Prelude.{ℕ, ◌+◌, Bool, false, not, slice_index_or, ◌&&◌, if◌then◌else◌, nat_eq, Option, Some, None, List, [], ◌∷◌, slice_get}
use Rattle.std.specs.List.{list_any}
use Rattle.mm_frame.specs.declared.base.Resolved.{Resolved}
use Rattle.mm_frame.specs.declared.base.Resolved.TheVariants as answers
use Rattle.mm_machine.specs.declared.step.Action.{Action}
use Rattle.mm_machine.specs.declared.step.Action.TheVariants as actions
use Rattle.mm_machine.specs.declared.step.ProofStep.{ProofStep}

-- the assertion of an entry, if it is one
abbrev pub cited_item : Option Resolved → Option ℕ
cited_item (Some (answers.Assertion j)) = Some j
cited_item (Some (answers.Hypothesis j)) = None
cited_item (Some answers.Inactive) = None
cited_item (Some answers.Unknown) = None
cited_item None = None

-- the assertion that an action names
abbrev pub item_named : List Resolved → Action → Option ℕ
item_named labels (actions.Label k) = cited_item (slice_get labels k)
item_named labels (actions.Saved n) = None
item_named labels actions.Save = None
item_named labels actions.Unknown = None

abbrev pub is_item : Option ℕ → ℕ → Bool
is_item (Some i) j = nat_eq i j
is_item None j = false

abbrev pub names_item : List Resolved → ℕ → ProofStep → Bool
names_item labels j step = is_item (item_named labels step.action) j

-- an entry is that of this assertion
abbrev pub is_listed : List Resolved → ℕ → Bool
is_listed labels j = list_any (λ label. is_item (cited_item (Some label)) j) labels

-- whether a number is marked
abbrev pub marked_at : List Bool → ℕ → Bool
marked_at marks j = slice_index_or marks j false

-- the assertions that are left once this one is reported
abbrev pub without : (ℕ → Bool) → ℕ → ℕ → Bool
without left j i = left i && not (nat_eq j i)

-- the words of the entries from word n on: of each assertion that is left the first
abbrev pub item_cites : (ℕ → Bool) → ℕ → List Resolved → List ℕ
item_cites left n [] = []
item_cites left n (answers.Assertion j ∷ labels) = if left j then n ∷ item_cites (without left j) (n + 1) labels else item_cites left (n + 1) labels
item_cites left n (answers.Hypothesis j ∷ labels) = item_cites left (n + 1) labels
item_cites left n (answers.Inactive ∷ labels) = item_cites left (n + 1) labels
item_cites left n (answers.Unknown ∷ labels) = item_cites left (n + 1) labels

-- the labels that are marked, each in its place, and that of a `?` in the place of each other
abbrev pub masked : List Resolved → List Bool → List Resolved
masked [] marks = []
masked (label ∷ labels) [] = answers.Unknown ∷ masked labels []
masked (label ∷ labels) (mark ∷ marks) = (if mark then label else answers.Unknown) ∷ masked labels marks
