-- The words that cite rise.
use Rattle.std.proofs.{lemmas.{Grind.{common_steps}, Bool.{cases_Bool}}, Common.{ℕ, ◌+◌, ◌<◌, Bool, not, Result, List, [], ◌∷◌, map, arith, filter, bytes_eq}}
use Rattle.std.specs.List.{AllByRecursion, enumerate_from}
use Rattle.mm_verdict.{specs.Language.{Citing.{first_of_each, cites}, DecodingLaws.{Rise}}, proofs.lemmas.{lists.Every.{kept_all, mapped}, views.SameCites.{firsts_all}}}
use Rattle.mm_machine.specs.{Language.{Frame.{Setting}, Verdict.{Decoded}}, declared.step.ProofFault.{ProofFault}}

-- words with numbers that rise
abbrev Rising : List (ℕ × List ℕ) → Type 0
Rising [] = Unit {0}
Rising (word ∷ words) = AllByRecursion (λ (other : ℕ × List ℕ). word.0 < other.0) words × Rising words

higher : (k n : ℕ) (words : List (List ℕ)) → k < n → AllByRecursion (λ (w : ℕ × List ℕ). k < w.0) (enumerate_from n words)
higher k n [] less = tt
higher k n (word ∷ words) less = (less, higher k (n + 1) words (omega arith))

numbered : (n : ℕ) (words : List (List ℕ)) → Rising (enumerate_from n words)
numbered n [] = tt
numbered n (word ∷ words) = (higher n (n + 1) words (omega arith), numbered (n + 1) words)

kept : (f : ℕ × List ℕ → Bool) (words : List (ℕ × List ℕ)) → Rising words → Rising (filter f words)
kept f [] r = tt
kept f (word ∷ words) r = grind (arith, common_steps, cases_Bool (f word), kept f words r.1, kept_all) steps 200000

firsts_rise : (words : List (ℕ × List ℕ)) → Rising words → Rising (first_of_each words)
firsts_rise [] r = tt
firsts_rise (word ∷ words) r =
    let rest = kept (λ other. not (bytes_eq word.1 other.1)) (first_of_each words) (firsts_rise words r.1) in
    grind (arith, common_steps, firsts_all (λ (w : ℕ × List ℕ). word.0 < w.0) words r.0, rest, kept_all) steps 200000

only_numbers : (words : List (ℕ × List ℕ)) → Rising words → Rise (map (λ (w : ℕ × List ℕ). w.0) words)
only_numbers [] r = tt
only_numbers (word ∷ words) r = (mapped (λ m. word.0 < m) (λ (w : ℕ × List ℕ). w.0) words r.0, only_numbers words r.1)

pub rises : (place : Setting) (words : List (List ℕ)) (decoding : Result Decoded ProofFault) → Rise (cites place words decoding)
rises place words decoding = grind (arith, common_steps, firsts_rise, kept, only_numbers, cases_Bool, numbered) steps 200000
