-- Which words of a proof cite an assertion: for each assertion that a decoded step names, the first word that is its label.
use Rattle.std.specs.Prelude.{ℕ, Bool, true, false, not, ◌&&◌, if◌then◌else◌, Result, Ok, Err, List, [], ◌∷◌, map, filter, drop, bytes_eq, codes}
use Rattle.std.specs.List.{list_any, enumerate_from, before_first}
use Rattle.mm_machine.specs.Language.Frame.{LabelMeaning, Assertion, Setting}
use Rattle.mm_machine.specs.Language.Expansion.{Step, Named}
use Rattle.mm_verdict.specs.Language.Decoding.{is_compressed, is_close}
use Rattle.mm_machine.specs.Language.Verdict.{Decoded}
use Rattle.mm_machine.specs.declared.step.ProofFault.{ProofFault}

-- the words of a proof that are labels, with their numbers from 0: those of a normal proof except `?`, or those of the list of a compressed
-- one
abbrev pub label_words : List (List ℕ) → List (ℕ × List ℕ)
label_words words =
    if is_compressed words then enumerate_from 1 (before_first is_close (drop 1 words))
    else filter (λ word. not (bytes_eq word.1 (codes "?"))) (enumerate_from 0 words)

-- of words that are spelled alike, the first one alone
abbrev pub first_of_each : List (ℕ × List ℕ) → List (ℕ × List ℕ)
first_of_each [] = []
first_of_each (word ∷ words) = word ∷ filter (λ other. not (bytes_eq word.1 other.1)) (first_of_each words)

-- the label is that of an assertion
abbrev pub means_assertion : LabelMeaning → Bool
means_assertion (Assertion frame) = true
means_assertion _ = false

-- the step names the label
abbrev pub names_assertion : List ℕ → Step → Bool
names_assertion label (Named other) = bytes_eq label other
names_assertion label _ = false

-- the label is cited: it is that of an assertion, and a step names it
abbrev pub is_cited : Setting → List Step → List ℕ → Bool
is_cited place steps label = means_assertion (place.resolve label) && list_any (names_assertion label) steps

-- the numbers of the words that cite: of each label that is cited, the first word
-- In words: `cites_tell`: The words that cite are labels of exactly the assertions that decoded steps name.
-- In words: `cites_rise`: Their numbers rise.
abbrev pub cited_words : Setting → List (List ℕ) → List Step → List ℕ
cited_words place words steps = map (λ word. word.0) (filter (λ word. is_cited place steps word.1) (first_of_each (label_words words)))

-- the numbers of the words of a proof that cite; none if decoding finds a fault
abbrev pub cites : Setting → List (List ℕ) → Result Decoded ProofFault → List ℕ
cites place words (Ok d) = cited_words place words d.steps
cites place words (Err fault) = []
