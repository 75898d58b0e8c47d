use Rattle.std.proofs.{Common.{arith, ◌≡◌, ℕ, List, ◌⊎◌, inl, inr, Ok, Err, refl}, lemmas.Grind.{common_steps}}
use Rattle.mm_text.specs.{declared.{word.Word.{Word}, fault.TextFault.{TextFault}}, Language.Reading.{HasWords, IsWordsFault}, Code.LeftToRight.{Read, read_text}}
use Rattle.mm_text.proofs.ReadingLemmas.{text_words, text_fault, words_of_text, fault_of_text}
use Rattle.mm_text.proofs.laws.one_meaning.Goals as goal

read_as : (text : List ℕ) (r : Read) → read_text text ≡ r → ((words : List Word) × HasWords text words) ⊎ ((fault : TextFault) × IsWordsFault text fault)
read_as text (Ok words) is = inl (words, words_of_text text words is)
read_as text (Err fault) is = inr (fault, fault_of_text text fault is)

pub returns : goal.returns
returns c = record {
  some = λ text. read_as text (read_text text) refl;
  words = λ text a b f g.
      let x : read_text text ≡ Ok a = text_words text a f in
      let y : read_text text ≡ Ok b = text_words text b g in
      cc;
  fault = grind (arith, common_steps, text_fault) steps 200000;
  not_both = λ text words fault f g.
      let x : read_text text ≡ Ok words = text_words text words f in
      let y : read_text text ≡ Err fault = text_fault text fault.number fault.at g in
      cc;
}
