-- The spots that decoding gives are in the words of the proof, and so is that of the verdict.
use Rattle.std.proofs.Common.{◌==◌, false, ◌≡◌, ℕ, true, zero, suc, ◌+◌, ◌<◌, ◌≤◌, cond, Result, Ok, Err, List, [], ◌∷◌, ◌++◌, length, map, drop, sym, ap, ◌∙◌, subst, arith, inl, inr, slice_index_or}
use Rattle.std.{proofs.{Common.{not, length-take, length-drop, drop-drop}, lemmas.{Grind.{common_steps}, Bool.{cases_Bool}, List.Folds.{length-prefix_len}}}, specs.Option.{option_map_or}}
use Rattle.std.specs.{Result.{result_and}, List.{AllByRecursion, list_any, prefix_len, enumerate_from, before_first, after_first}}
use Rattle.mm_verdict.proofs.lemmas.{decoding.OrderLemmas.{decoded}, lists.Every.{all_at, joined, mapped}}
use Rattle.mm_verdict.specs.Language.Decoding.{ProofReading, Steps, read_first, in_order, readings_of_words, read_label, readings_of_groups, is_close, is_compressed, compressed_steps, steps_in}
use Rattle.mm_verdict.specs.Language.{Decoding.{word_spot}, ItemLaws.{IsSpotIn, TellsSpotIn}, Letters.{Letter, letter_at, letters_in, letters_from, Group, cut_group, groups_behind}}
use Rattle.mm_verdict.specs.Language.{Numbers.{is_digit}, VerdictAt.{IsVerdictAt, decoding_at, mandatory_labels, statement_at}, BaseLabels.{setting_at}}
use Rattle.mm_frame.specs.Language.Base.{BaseView, said_at}
use Rattle.mm_machine.specs.{Language.{Frame.{Symbol, Setting}, Expansion.{Step, Named}, Run.{run_part}, Verdict.{Decoded, IsVerdict, IsWrongBy}}, declared.ProofNumber.{ProofNumber}}
use Rattle.mm_machine.specs.declared.{ProofNumber.TheVariants.{P14, P15}, Spot.{Spot}, Verdict.{Verdict, TheVariants.{Proved, Incomplete, Wrong}}, step.ProofFault.{ProofFault}}

-- what is left from a word on begins with it
begins : (words : List (List ℕ)) (n : ℕ) (word : List ℕ) (rest : List (List ℕ)) → drop n words ≡ word ∷ rest → (slice_index_or words n [] ≡ word) × (drop (suc n) words ≡ rest) × (n < length words)
begins [] zero word rest e = cc
begins [] (suc n) word rest e = cc
begins (w ∷ ws) zero word rest e = (cc, cc, omega arith)
begins (w ∷ ws) (suc n) word rest e = let b = begins ws n word rest e in (b.0, b.1, omega (arith, b.2))

some_words : (words : List (List ℕ)) → is_compressed words ≡ true → 0 < length words
some_words words e = grind (arith, common_steps) steps 200000

-- the words after the first n + 2 are those after n + 1 of the words past the first
further : (n : ℕ) (words : List (List ℕ)) → drop (n + 2) words ≡ drop (n + 1) (drop 1 words)
further n words = let count : n + 2 ≡ 1 + (n + 1) = omega arith in ap (λ k. drop k words) count ∙ sym (drop-drop (n + 1) 1 words)

module _ (words : List (List ℕ)) where
  -- the beginning of a word, or the end
  word_in : (n : ℕ) → n ≤ length words → IsSpotIn words (word_spot n)
  word_in n less = record { word = less; letter = omega arith }

  end_in : IsSpotIn words (word_spot (length words))
  end_in = word_in (length words) (omega arith)

  abbrev AreIn : List ProofReading → Type 0
  AreIn readings = AllByRecursion (λ reading. IsSpotIn words reading.spot) readings

  each_in : (read : List ℕ → Result Step ProofNumber) (n : ℕ) (some : List (List ℕ)) → n + length some ≤ length words → AreIn (readings_of_words read n some)
  each_in read n [] less = tt
  each_in read n (word ∷ some) less = (word_in n (omega (arith, less)), each_in read (n + 1) some (omega (arith, less)))

  -- ---- letters

  abbrev LettersIn : List Letter → Type 0
  LettersIn letters = AllByRecursion (λ letter. IsSpotIn words letter.spot) letters

  word_letters : (n k : ℕ) (bytes : List ℕ) → n < length words → k + length bytes ≤ length (slice_index_or words n []) → LettersIn (map (letter_at n) (enumerate_from k bytes))
  word_letters n k [] there less = tt
  word_letters n k (byte ∷ bytes) there less = (record { word = omega (arith, there); letter = omega (arith, less) }, word_letters n (k + 1) bytes there (omega (arith, less)))

  all_letters : (n : ℕ) (rest : List (List ℕ)) → drop n words ≡ rest → LettersIn (letters_from n rest)
  all_letters n [] e = tt
  all_letters n (word ∷ rest) e =
      let b = begins words n word rest e in
      let next : suc n ≡ n + 1 = omega arith in
      let whole : 0 + length word ≤ length (slice_index_or words n []) = omega (arith, ap length b.0) in
      joined (λ (letter : Letter). IsSpotIn words letter.spot) (letters_in (n, word)) (letters_from (n + 1) rest)
      (word_letters n 0 word b.2 whole)
      (all_letters (n + 1) rest (ap (λ m. drop m words) (sym next) ∙ b.1))

  abbrev GroupsIn : Spot → List Group → Type 0
  GroupsIn close gs = AllByRecursion (λ group. IsSpotIn words (option_map_or (λ (letter : Letter). letter.spot) group.last close)) gs

  cut_in : (close : Spot) → IsSpotIn words close → (ds : List Letter) → GroupsIn close (cut_group ds)
  cut_in close is [] = tt
  cut_in close is (d ∷ ds) = (is, tt)

  groups_in : (close : Spot) → IsSpotIn words close → (ds ls : List Letter) → LettersIn ls → GroupsIn close (groups_behind ds ls)
  groups_in close is ds [] all = cut_in close is ds
  groups_in close is ds (l ∷ ls) all = elim (cases_Bool (is_digit l.byte)) [
    | inl e ↦ rw e (groups_in close is (ds ++ l ∷ []) ls all.1)
    | inr e ↦ rw e (all.0, groups_in close is [] ls all.1)
  ]

  read_in : (labels : List Step) (close : Spot) (saves : ℕ) (gs : List Group) → GroupsIn close gs → AreIn (readings_of_groups labels close saves gs)
  read_in labels close saves [] all = tt
  read_in labels close saves (g ∷ gs) all = (all.0, read_in labels close (cond (option_map_or (λ (letter : Letter). letter.byte == 90) g.last false) (saves + 1) saves) gs all.1)

  -- ---- what is read in order

  abbrev StepsIn : Steps → Type 0
  StepsIn (Ok steps) = AllByRecursion (λ step. IsSpotIn words step.1) steps
  StepsIn (Err fault) = IsSpotIn words fault.spot

  then_in : (spot : Spot) (step : Result Step ProofNumber) (rest : Steps) → IsSpotIn words spot → StepsIn rest → StepsIn (read_first spot step rest)
  then_in spot (Ok step) (Ok steps) is more = (is, more)
  then_in spot (Ok step) (Err fault) is more = more
  then_in spot (Err number) rest is more = is

  order_in : (readings : List ProofReading) → AreIn readings → StepsIn (in_order readings)
  order_in [] all = tt
  order_in (reading ∷ readings) all = then_in reading.spot reading.step (in_order readings) all.0 (order_in readings all.1)

  behind_in : (list rest : Steps) → StepsIn list → StepsIn rest → StepsIn (result_and list rest)
  behind_in (Ok steps) rest a b = b
  behind_in (Err fault) rest a b = a

  abbrev close : Spot
  close = word_spot (length words)

  compressed_in : (place : Setting) (mandatory : List (List ℕ)) → 0 < length words → StepsIn (compressed_steps place mandatory (drop 1 words) close)
  compressed_in place mandatory some =
      let behind = drop 1 words in
      let listed = before_first is_close behind in
      let count : length listed ≡ prefix_len (λ word. not (is_close word)) behind = length-prefix_len (λ word. not (is_close word)) behind in
      let short : 1 + length listed ≤ length words = omega (arith, some, length-take (prefix_len (λ word. not (is_close word)) behind) behind, length-drop 1 words) in
      let from : drop (length listed + 2) words ≡ after_first is_close behind = ap (λ n. drop (n + 2) words) count ∙ further (prefix_len (λ word. not (is_close word)) behind) words in
      behind_in (in_order (readings_of_words (read_label place) 1 listed)) _ (order_in (readings_of_words (read_label place) 1 listed) (each_in (read_label place) 1 listed short))
      (elim (cases_Bool (list_any is_close behind)) [
        | inl has ↦ rw has (order_in _ (read_in (map Named (mandatory ++ listed)) close 0 _ (groups_in close end_in []
            (letters_from (length listed + 2) (after_first is_close behind)) (all_letters (length listed + 2) (after_first is_close behind) from))))
        | inr none ↦ rw none end_in
      ])

  steps_are_in : (place : Setting) (mandatory : List (List ℕ)) → StepsIn (steps_in place mandatory words close)
  steps_are_in place mandatory = grind (arith, common_steps, compressed_in, each_in, order_in, some_words) steps 200000

  -- ---- what decoding gives, and the verdict on it

  abbrev AreSpotsIn : List Spot → Type 0
  AreSpotsIn spots = AllByRecursion (λ spot. IsSpotIn words spot) spots

  abbrev IsDecodedIn : Result Decoded ProofFault → Type 0
  IsDecodedIn (Ok d) = AreSpotsIn d.spots × IsSpotIn words d.close
  IsDecodedIn (Err fault) = IsSpotIn words fault.spot

  decoded_in : (steps : Steps) → StepsIn steps → IsDecodedIn (decoded close steps)
  decoded_in (Ok steps) all = (mapped (λ spot. IsSpotIn words spot) (λ step. step.1) steps all, end_in)
  decoded_in (Err fault) is = is

  wrong_in : (place : Setting) (statement : List Symbol) (d : Decoded) (number : ProofNumber) (spot : Spot) → IsDecodedIn (Ok d) → IsWrongBy place statement d number spot → IsSpotIn words spot
  wrong_in place statement d P14 spot all w = subst (IsSpotIn words) (sym w.3) all.1
  wrong_in place statement d P15 spot all w = subst (IsSpotIn words) (sym w.3) all.1
  wrong_in place statement d number spot all w = all_at (IsSpotIn words) d.spots w.0 spot all.0 w.2

  judged_in : (place : Setting) (statement : List Symbol) (found : Result Decoded ProofFault) (v : Verdict) → IsDecodedIn found → IsVerdict place statement found v → TellsSpotIn words v
  judged_in place statement (Err fault) v is e = subst (TellsSpotIn words) (sym e) is
  judged_in place statement (Ok d) Proved all v = tt
  judged_in place statement (Ok d) (Incomplete spot) all v = all_at (IsSpotIn words) d.spots (length (run_part d.steps)) spot all.0 v.1
  judged_in place statement (Ok d) (Wrong number spot) all v = wrong_in place statement d number spot all v

pub spots_at : (view : BaseView) (i : ℕ) (v : Verdict) → IsVerdictAt view i v → TellsSpotIn (said_at view i).proof v
spots_at view i v is =
    let words = (said_at view i).proof in
    let steps = steps_in (setting_at view i) (mandatory_labels view i) words (word_spot (length words)) in
    judged_in words (setting_at view i) (statement_at view i) (decoding_at view i) v (decoded_in words steps (steps_are_in words (setting_at view i) (mandatory_labels view i))) is
