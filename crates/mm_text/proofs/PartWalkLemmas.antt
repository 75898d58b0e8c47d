-- The parts of units are texts with words: a walk over all words of a text, from part to part.
use Rattle.std.proofs.{Common.{ℕ, zero, suc, ◌+◌, ◌<◌, ◌≤◌, List, [], Option, None, All, length, subst, inl, inr, arith}, lemmas.Bool.{cases_Bool}}
use Rattle.mm_text.specs.{declared.part.{Part.{Part}, PartKind.{PartKind}}, Language.{Unit.{Units}, Part.{HasUnits, parts_of, IsReadable}}, Code.PartReading.{ends_part}}
use Rattle.mm_text.proofs.{ReaderLemmas.{pass_none}, CutWalkLemmas.{Given, word_from}, PartLemmas.{Divides, divides_start, divides_end, divides_fault, divides_part, divides_more}}
use Rattle.mm_text.specs.declared.part.PartKind.TheVariants as parts

module _ (text : List ℕ) (units : Units) (has : HasUnits text units) where
  abbrev AllRead : Type 0
  AllRead = All (IsReadable text) (parts_of units)

  abbrev GoesOn : ℕ → Type 0
  GoesOn at = (found : List Part) (first : Option ℕ) (kind : PartKind) (to : ℕ) → at < to → to ≤ length text → Divides text found first kind to → AllRead

  walk_step : (found : List Part) (first : Option ℕ) (kind : PartKind) (at : ℕ) → Divides text found first kind at → GoesOn at → AllRead
  walk_step found first kind at h go = by_given (word_from (length text) text at at (omega arith) (omega arith) (pass_none text at)) where
    by_given : Given text at → AllRead
    by_given (inl (word, to, taken, within)) =
        elim (cases_Bool (ends_part word.kind)) [
          | inl ends ↦ go _ _ _ to (omega (arith, taken.begins, taken.some, taken.next)) within (divides_part text found first kind at h word to taken within ends)
          | inr on ↦ go _ _ _ to (omega (arith, taken.begins, taken.some, taken.next)) within (divides_more text found first kind at h word to taken within on)
        ]
    by_given (inr (inl none)) = subst (All (IsReadable text)) (divides_end text found first kind at h none units has) h.readable
    by_given (inr (inr (number, place, fails))) = absurd (divides_fault text found first kind at h number place fails units has)

  walk : (fuel : ℕ) (found : List Part) (first : Option ℕ) (kind : PartKind) (at : ℕ) → length text ≤ at + fuel → Divides text found first kind at → AllRead
  walk zero found first kind at enough h = walk_step found first kind at h (λ f o k to more within g. absurd (omega arith))
  walk (suc fuel) found first kind at enough h = walk_step found first kind at h (λ f o k to more within g. walk fuel f o k to (omega arith) g)

  pub parts_read : All (IsReadable text) (parts_of units)
  parts_read = walk (length text) [] None parts.Constants 0 (omega arith) (divides_start text parts.Constants has.has_words.allowed)
