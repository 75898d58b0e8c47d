-- Labels as the words of a normal proof: each is one step, and they stand for themselves.
use Rattle.std.proofs.{Common.{arith, ◌≡◌, ℕ, ◌+◌, false, Some, Result, Ok, List, [], ◌∷◌, ◌++◌, length, map, refl, sym, ap, ◌∙◌, subst, bytes_eq, codes, append_assoc}, lemmas.Grind.{common_steps}}
use Rattle.std.{proofs.lemmas.{Bool.{false≢true, false_from_ne_true}, List.{append-nil}, Slice.Eq.{bytes_eq-Decides}}, specs.List.{AllByRecursion, enumerate_from, list_all}}
use Rattle.mm_verdict.{proofs.lemmas.{decoding.OrderLemmas.{decoded}, lists.Every.{joined}}, specs.Language.ItemLaws.{CouldLabel, LabelsAreAProof}}
use Rattle.mm_verdict.specs.Language.Decoding.{Steps, read_first, in_order, readings_of_words, read_word, read_label, usable, word_spot, decoding, steps_in, is_compressed}
use Rattle.mm_frame.specs.mm_text.Language.Unit.{is_label_byte}
use Rattle.mm_machine.specs.Language.{Frame.{Setting, Symbol}, Expansion.{Step, Named, expand_from, expansion}, Verdict.{Decoded, IsVerdict}}
use Rattle.mm_machine.specs.{Language.Derivation.{Derives, by_hypothesis, by_assertion, DeriveInOrder, nothing, first_then}, declared.{Spot.{Spot}, ProofFault.{ProofFault}}}
use Rattle.mm_machine.specs.declared.Verdict.TheVariants as verdicts

-- the label is read as the step that names it
abbrev IsUsable : Setting → List ℕ → Type 0
IsUsable place label = read_label place label ≡ Ok (Named label)

mutual
  usable_labels : (place : Setting) (labels : List (List ℕ)) (e : List Symbol) → Derives place labels e → AllByRecursion (IsUsable place) labels
  usable_labels place _ e (by_hypothesis {label = label} means) = (ap (usable label) means, tt)
  usable_labels place _ e (by_assertion {labels = labels} {label = label} {entries = entries} inner means takes) =
      joined (IsUsable place) labels (label ∷ []) (usable_in_order place labels entries inner) (ap (usable label) means, tt)

  usable_in_order : (place : Setting) (labels : List (List ℕ)) (es : List (List Symbol)) → DeriveInOrder place labels es → AllByRecursion (IsUsable place) labels
  usable_in_order place _ _ nothing = tt
  usable_in_order place _ _ (first_then {first = first} {rest = rest} {e = e} {es = es} d later) =
      joined (IsUsable place) first rest (usable_labels place first e d) (usable_in_order place rest es later)

-- the steps that words with numbers name, each at its word
abbrev numbered : ℕ → List (List ℕ) → List (Step × Spot)
numbered n words = map (λ (word : ℕ × List ℕ). (Named word.1, word_spot word.0)) (enumerate_from n words)

-- a word that could be a label is none of the signs of a proof
no_sign : (sign word : List ℕ) → list_all is_label_byte sign ≡ false → CouldLabel word → bytes_eq word sign ≡ false
no_sign sign word other could = grind (arith, common_steps, bytes_eq-Decides, false_from_ne_true, false≢true) steps 200000

one_word : (place : Setting) (word : List ℕ) → CouldLabel word → IsUsable place word → read_word place word ≡ Ok (Named word)
unfolding is_label_byte
one_word place word could named = rw (no_sign (codes "?") word refl could) named

is_normal : (labels : List (List ℕ)) → AllByRecursion CouldLabel labels → is_compressed labels ≡ false
unfolding is_label_byte
is_normal [] could = refl
is_normal (label ∷ labels) could = no_sign (codes "(") label refl could.0

words_read : (place : Setting) (n : ℕ) (words : List (List ℕ)) → AllByRecursion CouldLabel words → AllByRecursion (IsUsable place) words
    → in_order (readings_of_words (read_word place) n words) ≡ Ok (numbered n words)
words_read place n [] could named = refl
words_read place n (word ∷ words) could named =
    rw (one_word place word could.0 named.0) (ap (λ (rest : Steps). read_first (word_spot n) (Ok (Named word)) rest) (words_read place (n + 1) words could.1 named.1))

steps_named : (n : ℕ) (words : List (List ℕ)) → map (λ (step : Step × Spot). step.0) (numbered n words) ≡ map Named words
steps_named n [] = refl
steps_named n (word ∷ words) = ap (λ steps. Named word ∷ steps) (steps_named (n + 1) words)

stand_for : (place : Setting) (front labels : List (List ℕ)) → expand_from place (Some (record { labels = front; saved = [] })) (map Named labels) ≡ Some (record { labels = front ++ labels; saved = [] })
stand_for place front [] = ap (λ (all : List (List ℕ)). Some (record { labels = all; saved = [] })) (sym (append-nil front))
stand_for place front (label ∷ labels) = stand_for place (front ++ label ∷ []) labels ∙ ap (λ (all : List (List ℕ)). Some (record { labels = all; saved = [] })) (append_assoc front (label ∷ []) labels)

alone : (place : Setting) (labels : List (List ℕ)) (e : List Symbol) → Derives place labels e → DeriveInOrder place labels (e ∷ [])
alone place labels e d = subst (λ (all : List (List ℕ)). DeriveInOrder place all (e ∷ [])) (append-nil labels) (first_then d nothing)

is_proved : (place : Setting) (labels : List (List ℕ)) (statement : List Symbol) (d : Decoded) → d.steps ≡ map Named labels → Derives place labels statement → IsVerdict place statement (Ok d) verdicts.Proved
is_proved place labels statement d same derives =
    record { expanded = record { labels = labels; saved = [] }; expands = ap (expansion place) same ∙ stand_for place [] labels; in_order = alone place labels statement derives }

pub labels_are_a_proof : LabelsAreAProof
labels_are_a_proof place mandatory labels statement could derives =
    let close = word_spot (length labels) in
    let read : steps_in place mandatory labels close ≡ Ok (numbered 0 labels) = rw (is_normal labels could) (words_read place 0 labels could (usable_labels place labels statement derives)) in
    let all : decoding place mandatory labels ≡ decoded close (Ok (numbered 0 labels)) = ap (decoded close) read in
    subst (λ (what : Result Decoded ProofFault). IsVerdict place statement what verdicts.Proved) (sym all) (is_proved place labels statement
    (record { steps = map (λ (step : Step × Spot). step.0) (numbered 0 labels); spots = map (λ (step : Step × Spot). step.1) (numbered 0 labels); close = close })
    (steps_named 0 labels) derives)
