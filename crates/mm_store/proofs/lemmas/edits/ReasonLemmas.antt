-- An edit that is refused is refused for one reason, unless memory runs out.
use Rattle.std.proofs.{lemmas.{Grind.{common_steps}, Option.{none-some, same_Some}}, Common.{arith, ◌≡◌, ◌≢◌, ℕ, List, Option, None, length, sym, ap, ◌∙◌, subst, slice_get}}
use Rattle.mm_text.specs.{declared.fault.TextFault.{TextFault}, Language.{Cut.{IsFirstFault}, Asked.{Asked, edited_name, IsAmong}}}
use Rattle.mm_store.specs.{declared.edit.EditError.{EditError}, Language.{FilesView.{File, file_number}, Edits.{IsEditedFile, IsPlaced, BringsNotOne, NamesNoMember}, Answers.{IsEditError}}}
use Rattle.mm_store.proofs.lemmas.{files.NamedLemmas.{OneCut}, edits.RefusalLemmas.{NotBoth, brings_no_fault, brings_one}}
use Rattle.mm_store.specs.declared.edit.EditError.TheVariants as edits

abbrev pub OneFault : Type 0
OneFault = (text : List ℕ) (a b : TextFault) → IsFirstFault text a → IsFirstFault text b → a ≡ b

same_count : OneCut → (brought : Option (List ℕ)) (a b : ℕ) → BringsNotOne brought a → BringsNotOne brought b → a ≡ b
same_count one_cut brought a b is other = grind (arith, common_steps) steps 200000

module _ (not_both : NotBoth) (one_cut : OneCut) (one_fault : OneFault) (edit : Asked) (files : List File) where
  file_is : (n m : ℕ) (a b : File) → IsEditedFile files edit n a → IsEditedFile files edit m b → a ≡ b
  file_is n m a b is other = same_Some a b (sym is.there ∙ ap (slice_get files) (same_Some n m (sym is.named ∙ other.named)) ∙ other.there)

  no_file : (n : ℕ) (file : File) → file_number files (edited_name edit) ≡ None → ¬ IsEditedFile files edit n file
  no_file n file none is = none-some n (sym none ∙ is.named)

  no_member : (count n : ℕ) (file : File) → NamesNoMember edit files count → ¬ IsPlaced files edit n file
  no_member count n file none is = none.4 (subst (IsAmong edit) (ap (λ (file : File). length file.pieces) (file_is n none.0 file none.1 is.file_there none.2) ∙ sym none.3) is.among)

  pub one_reason : (a b : EditError) → a ≢ edits.Memory → b ≢ edits.Memory → IsEditError edit files a → IsEditError edit files b → a ≡ b
  one_reason a b some other why reason = grind (arith, common_steps, no_file, file_is, no_member, brings_no_fault, same_count, brings_one) steps 200000
