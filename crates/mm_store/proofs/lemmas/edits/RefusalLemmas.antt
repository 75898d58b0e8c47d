-- An edit that is accepted is not refused.
use Rattle.std.proofs.{lemmas.{Grind.{common_steps}, Option.{none-some, same_Some}}, Common.{◌≡◌, ℕ, List, Option, arith}}
use Rattle.mm_text.specs.{declared.fault.TextFault.{TextFault}, Language.{Cut.{IsCut, IsFirstFault}, Asked.{Asked}}}
use Rattle.mm_store.specs.{declared.edit.EditError.{EditError}, Language.{FilesView.{File}, Edits.{BringsOneUnit, BringsFault, BringsNotOne, IsEditOf}, Answers.{IsEditError}}}
use Rattle.mm_store.proofs.lemmas.files.NamedLemmas.{OneCut}
use Rattle.mm_store.specs.declared.edit.EditError.TheVariants as edits

abbrev pub NotBoth : Type 0
NotBoth = (text : List ℕ) (pieces : List (List ℕ)) (tail : List ℕ) (fault : TextFault) → IsCut text pieces tail → ¬ IsFirstFault text fault

pub brings_no_fault : NotBoth → (brought : Option (List ℕ)) (fault : TextFault) → BringsOneUnit brought → ¬ BringsFault brought fault
brings_no_fault not_both brought fault one = grind (arith, common_steps) steps 200000

pub brings_one : OneCut → (brought : Option (List ℕ)) (count : ℕ) → BringsOneUnit brought → ¬ BringsNotOne brought count
brings_one one_cut brought count one = grind (arith, common_steps) steps 200000

module _ (not_both : NotBoth) (one_cut : OneCut) (edit : Asked) (files after : List File) (is : IsEditOf edit files after) where
  pub not_refused : (error : EditError) → IsEditError edit files error → error ≡ edits.Memory
  not_refused error why = grind (arith, common_steps, none-some, brings_no_fault, brings_one, same_Some) steps 200000
