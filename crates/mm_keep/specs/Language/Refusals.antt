-- Why a change of a session is refused.
use Rattle.std.specs.Prelude.{◌≡◌, ◌⊎◌, ℕ, List, []}
use Rattle.mm_proof.specs.mm_store.declared.edit.EditError.{EditError}
use Rattle.mm_proof.specs.mm_store.declared.edit.EditError.TheVariants.{Memory}
use Rattle.mm_proof.specs.mm_store.declared.batch.BatchError.{BatchError}
use Rattle.mm_proof.specs.mm_store.declared.batch.BatchError.TheVariants as batch
use Rattle.mm_proof.specs.mm_store.Language.FilesView.{File}
use Rattle.mm_proof.specs.mm_store.Language.Answers.{IsEditError}
use Rattle.mm_proof.specs.mm_store.Language.Batches.{IsRefusedAt, StartsPlaced}
use Rattle.mm_proof.specs.mm_text.Language.Asked.{Asked}
use Rattle.mm_proof.specs.mm_store.Language.Edits.{IsPlaced}

-- an edit is refused for the reason for which files refuse it; or because memory has run out, once its file and its members are known
abbrev pub IsRefusal : Asked → List File → EditError → Type 0
IsRefusal edit files Memory = (number : ℕ) × (file : File) × IsPlaced files edit number file
IsRefusal edit files error = IsEditError edit files error

-- several edits are refused for the reason for which files refuse the first of them that they refuse; or because memory has run out, once the
-- file and the members of the first edit are known, or if there are no edits
abbrev pub IsBatchRefusal : List Asked → List File → BatchError → Type 0
IsBatchRefusal edits files (batch.Edit n error) = IsRefusedAt edits files n error
IsBatchRefusal edits files batch.Memory = StartsPlaced edits files ⊎ (edits ≡ [])
