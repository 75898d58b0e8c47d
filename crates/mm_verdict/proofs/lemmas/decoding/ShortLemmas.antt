-- There are at most as many steps as bytes.
use Rattle.std.proofs.Common.{◌==◌, false, rules, ◌≡◌, ℕ, suc, ◌+◌, ◌<◌, ◌≤◌, cond, Result, Ok, List, [], ◌∷◌, ◌++◌, length, map, drop, refl, sym, ap, ◌∙◌, arith, inl, inr, flat_map}
use Rattle.std.{proofs.lemmas.{Grind.{common_steps}, Bool.{cases_Bool}, List.{length-map, length-append}}, specs.{Option.{option_map_or}, List.{AllByRecursion, list_any, before_first, after_first}}}
use Rattle.mm_verdict.specs.Language.Decoding.{ProofReading, in_order, readings_of_words, read_label, readings_of_groups, is_close, compressed_steps, letter_steps, steps_in, decoding, word_spot}
use Rattle.mm_verdict.{specs.Language.{Letters.{Letter, Group, cut_group, groups_behind, groups, letters_from}, Numbers.{is_digit}}, proofs.lemmas.decoding.OrderLemmas.{read_ok}}
use Rattle.mm_verdict.proofs.lemmas.decoding.{ReadOnLemmas.{bytes_from}, SureLemmas.{read_behind, decoded_ok}}
use Rattle.mm_machine.specs.{Language.{Expansion.{Step, Named}, Frame.{Setting}, Verdict.{Decoded}}, declared.{Spot.{Spot}, ProofNumber.{ProofNumber}}}

abbrev bytes_of : List (List ℕ) → ℕ
bytes_of words = length (flat_map (λ word. word) words)

-- a step for each reading
order_length : (readings : List ProofReading) (steps : List (Step × Spot)) → in_order readings ≡ Ok steps → length steps ≡ length readings
order_length [] steps e = let k : steps ≡ [] = cc in ap length k
order_length (reading ∷ readings) steps e =
    grind (arith, common_steps, order_length readings (read_ok reading.spot reading.step (in_order readings) steps e).1 (read_ok reading.spot reading.step (in_order readings) steps e).3, read_ok) steps 200000

words_length : (read : List ℕ → Result Step ProofNumber) (n : ℕ) (words : List (List ℕ)) → length (readings_of_words read n words) ≡ length words
words_length read n [] = refl
words_length read n (word ∷ words) = ap suc (words_length read (n + 1) words)

groups_length : (labels : List Step) (close : Spot) (saves : ℕ) (gs : List Group) → length (readings_of_groups labels close saves gs) ≡ length gs
groups_length labels close saves [] = refl
groups_length labels close saves (g ∷ gs) = ap suc (groups_length labels close (cond (option_map_or (λ (letter : Letter). letter.byte == 90) g.last false) (saves + 1) saves) gs)

cut_short : (ds : List Letter) → length (cut_group ds) ≤ length ds
cut_short ds = grind (arith, common_steps) steps 200000

-- each group has a letter
groups_short : (ds ls : List Letter) → length (groups_behind ds ls) ≤ length ds + length ls
groups_short ds [] = let s = cut_short ds in omega arith
groups_short ds (l ∷ ls) = grind (arith, common_steps, cases_Bool (is_digit l.byte), groups_short (ds ++ l ∷ []) ls, length-append ds (l ∷ []), groups_short [] ls) steps 200000

behind_short : (n : ℕ) (words : List (List ℕ)) → bytes_of (drop n words) ≤ bytes_of words
behind_short (suc n) (word ∷ words) = let s = behind_short n words in omega (arith, length-append word (flat_map (λ word. word) words))
behind_short _ _ = omega arith

words_short : (words : List (List ℕ)) → AllByRecursion (λ word. 0 < length word) words → length words ≤ bytes_of words
words_short [] all = omega arith
words_short (word ∷ words) all = let s = words_short words all.1 in omega (arith, length-append word (flat_map (λ word. word) words))

letters_short : (mandatory listed : List (List ℕ)) (n : ℕ) (words : List (List ℕ)) (close : Spot) (steps : List (Step × Spot)) → letter_steps mandatory listed n words close ≡ Ok steps → length steps ≤ bytes_of words
letters_short mandatory listed n words close steps e =
    let a = order_length (readings_of_groups (map Named (mandatory ++ listed)) close 0 (groups (letters_from n words))) steps e in
    let b = groups_length (map Named (mandatory ++ listed)) close 0 (groups (letters_from n words)) in
    let c = groups_short [] (letters_from n words) in
    let d = (sym (length-map (letters_from n words) (λ (l : Letter). l.byte)) ∙ ap length (bytes_from n words)) in
    omega arith

compressed_short : (place : Setting) (mandatory words : List (List ℕ)) (close : Spot) (steps : List (Step × Spot)) → compressed_steps place mandatory words close ≡ Ok steps → length steps ≤ bytes_of words
compressed_short place mandatory words close steps e =
    let r = read_behind (in_order (readings_of_words (read_label place) 1 (before_first is_close words))) _ steps e in
    elim (cases_Bool (list_any is_close words)) [
      | inl has ↦
          let s = letters_short mandatory (before_first is_close words) (length (before_first is_close words) + 2) (after_first is_close words) close steps (rw has at r.1) in
          let t : bytes_of (after_first is_close words) ≤ bytes_of words = behind_short _ words in
          omega arith
      | inr none ↦ let bad = rw none at r.1 in cc
    ]

steps_short : (place : Setting) (mandatory words : List (List ℕ)) (close : Spot) (steps : List (Step × Spot)) → AllByRecursion (λ word. 0 < length word) words → steps_in place mandatory words close ≡ Ok steps → length steps ≤ bytes_of words
steps_short place mandatory words close steps all e = search (rules, behind_short, compressed_short, order_length, words_length, words_short) steps 200000

pub decodes_short : (place : Setting) (mandatory words : List (List ℕ)) (d : Decoded) → AllByRecursion (λ word. 0 < length word) words → decoding place mandatory words ≡ Ok d → length d.steps ≤ length (flat_map (λ word. word) words)
decodes_short place mandatory words d all e =
    let close = word_spot (length words) in
    let s = decoded_ok close (steps_in place mandatory words close) d e in
    let short = steps_short place mandatory words close s.0 all s.1 in
    omega (arith, short, ap (λ (x : Decoded). length x.steps) s.2, length-map s.0 (λ (step : Step × Spot). step.0))
