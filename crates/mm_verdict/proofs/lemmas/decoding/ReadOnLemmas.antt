-- Letters read on over the ends of words.
use Rattle.std.proofs.Common.{rules, ◌≡◌, ℕ, suc, ◌+◌, Bool, false, not, cond, Some, Result, Ok, Err, List, [], ◌∷◌, ◌++◌, length, map, drop, refl, sym, ap, ◌∙◌, arith, inl, inr, add-one, flat_map}
use Rattle.std.{proofs.{Common.{codes}, lemmas.{Grind.{common_steps}, Bool.{cases_Bool, or_parts}, List.{map-append}}, Math.Seq.{take-append_seam}}, specs.Result.{result_and}}
use Rattle.std.specs.List.{before_first, list_any, prefix_len, enumerate_from, after_first}
use Rattle.mm_machine.specs.{Language.{Frame.{Setting}, Expansion.{Step, Named, Save, NotKnown}}, declared.{Spot.{Spot}, ProofNumber.{ProofNumber, TheVariants.{P03}}}}
use Rattle.mm_verdict.specs.Language.{Numbers.{is_digit}, Letters.{Letter, Group, letters_in, letters_from, cut_group, groups_behind, groups}}
use Rattle.mm_verdict.specs.Language.Decoding.{Steps, in_order, without_digits, read_letter, readings_of_groups, is_close, compressed_steps, letter_steps, readings_of_words, read_label, decoding}
use Rattle.mm_verdict.specs.Language.{Decoding.{word_spot}, DecodingLaws.{without_spots, compressed_words}}

abbrev pub bytes : List Letter → List ℕ
bytes ls = map (λ l. l.byte) ls

-- the bytes of a word's letters are the word
bytes_in : (n k : ℕ) (word : List ℕ) → bytes (map (λ (at : ℕ × ℕ). record { byte = at.1; spot = record { word = n; letter = at.0 } }) (enumerate_from k word)) ≡ word
bytes_in n k [] = refl
bytes_in n k (b ∷ word) = ap (λ (w : List ℕ). b ∷ w) (bytes_in n (k + 1) word)

pub bytes_from : (n : ℕ) (words : List (List ℕ)) → bytes (letters_from n words) ≡ flat_map (λ word. word) words
bytes_from n [] = refl
bytes_from n (word ∷ words) = map-append (λ (l : Letter). l.byte) (letters_in (n, word)) (letters_from (n + 1) words) ∙ rw (bytes_in n 0 word, bytes_from (n + 1) words) refl

-- without its spots
abbrev told : Steps → Result (List Step) ProofNumber
told (Ok steps) = Ok (map (λ step. step.0) steps)
told (Err fault) = Err fault.number

alone_same : (ds es : List Letter) (step : Step) → bytes ds ≡ bytes es → without_digits ds step ≡ without_digits es step
alone_same ds es step e = grind (arith, common_steps) steps 200000

letter_same : (names : List Step) (ds es : List Letter) (byte : ℕ) → bytes ds ≡ bytes es → read_letter names ds byte ≡ read_letter names es byte
letter_same names ds es byte e = rw (e, alone_same ds es Save e, alone_same ds es NotKnown e) refl

more_same : (ds es : List Letter) (l m : Letter) → bytes ds ≡ bytes es → l.byte ≡ m.byte → bytes (ds ++ l ∷ []) ≡ bytes (es ++ m ∷ [])
more_same ds es l m e f = rw (map-append (λ (l : Letter). l.byte) ds (l ∷ []), map-append (λ (l : Letter). l.byte) es (m ∷ []), e, f) refl

abbrev Same : List Step → ℕ → Spot → Spot → List Group → List Group → Type 0
Same labels saves at by gs hs = told (in_order (readings_of_groups labels at saves gs)) ≡ told (in_order (readings_of_groups labels by saves hs))

cut_same : (labels : List Step) (saves : ℕ) (at by : Spot) (ds es : List Letter) → bytes ds ≡ bytes es → Same labels saves at by (cut_group ds) (cut_group es)
cut_same labels saves at by ds es e = grind (arith, common_steps) steps 200000

abbrev grouped : List Letter → Letter → List Group → List Group
grouped ds l gs = record { digits = ds; last = Some l } ∷ gs

group_same : (labels : List Step) (saves : ℕ) (at by : Spot) (ds es : List Letter) (l m : Letter) (gs hs : List Group) → bytes ds ≡ bytes es
    → l.byte ≡ m.byte → ((saves : ℕ) → Same labels saves at by gs hs) → Same labels saves at by (grouped ds l gs) (grouped es m hs)
group_same labels saves at by ds es l m gs hs e f rest = grind (arith, common_steps, letter_same) steps 200000

behind_same : (labels : List Step) (saves : ℕ) (at by : Spot) (ds es ls ms : List Letter) → bytes ds ≡ bytes es → bytes ls ≡ bytes ms → Same labels saves at by (groups_behind ds ls) (groups_behind es ms)
behind_same labels saves at by ds es [] [] d e = cut_same labels saves at by ds es d
behind_same labels saves at by ds es (l ∷ ls) (m ∷ ms) d e =
    let f : l.byte ≡ m.byte = cc in
    let r : bytes ls ≡ bytes ms = cc in
    elim (cases_Bool (is_digit m.byte)) [
      | inl is ↦ rw (ap is_digit f ∙ is, is) (behind_same labels saves at by (ds ++ l ∷ []) (es ++ m ∷ []) ls ms (more_same ds es l m d f) r)
      | inr other ↦ rw (ap is_digit f ∙ other, other) (group_same labels saves at by ds es l m (groups ls) (groups ms) d f (λ saves. behind_same labels saves at by [] [] ls ms refl r))
    ]
behind_same labels saves at by ds es _ _ d e = cc

-- the words before a `)` and after it
pub close_at : (listed words : List (List ℕ)) → list_any is_close listed ≡ false → prefix_len (λ word. not (is_close word)) (listed ++ codes ")" ∷ words) ≡ length listed
close_at [] words e = refl
close_at (word ∷ listed) words e = let p = or_parts (is_close word) (list_any is_close listed) e in rw (p.0, close_at listed words p.1) (omega arith)

dropped : (listed : List (List ℕ)) (word : List ℕ) (words : List (List ℕ)) → drop (suc (length listed)) (listed ++ word ∷ words) ≡ words
dropped [] word words = refl
dropped (first ∷ listed) word words = dropped listed word words

pub before_close : (listed words : List (List ℕ)) → list_any is_close listed ≡ false → before_first is_close (listed ++ codes ")" ∷ words) ≡ listed
before_close listed words e = rw (close_at listed words e) (take-append_seam listed (codes ")" ∷ words))

pub behind_close : (listed words : List (List ℕ)) → list_any is_close listed ≡ false → after_first is_close (listed ++ codes ")" ∷ words) ≡ words
behind_close listed words e = rw (close_at listed words e, add-one) (dropped listed (codes ")") words)

abbrev pub parts : Setting → List (List ℕ) → Spot → List (List ℕ) → Bool → List (List ℕ) → Steps
parts place mandatory close listed has rest = result_and (in_order (readings_of_words (read_label place) 1 listed)) (cond has (letter_steps mandatory listed (length listed + 2) rest close) (Err (record { number = P03; spot = close })))

-- a compressed proof with its list
pub compressed_is :
    (place : Setting) (mandatory : List (List ℕ)) (close : Spot) (listed words : List (List ℕ)) → list_any is_close listed ≡ false →
    compressed_steps place mandatory (listed ++ codes ")" ∷ words) close ≡ result_and (in_order (readings_of_words (read_label place) 1 listed)) (letter_steps mandatory listed (length listed + 2) words close)
compressed_is place mandatory close listed words e = grind (arith, common_steps, behind_close listed words e, close_at, take-append_seam) steps 200000

told_if : (list some other : Steps) → told some ≡ told other → told (result_and list some) ≡ told (result_and list other)
told_if list some other e = grind (arith, common_steps) steps 200000

letters_same : (mandatory listed : List (List ℕ)) (n : ℕ) (at by : Spot) (some others : List (List ℕ))
    → flat_map (λ word. word) some ≡ flat_map (λ word. word) others → told (letter_steps mandatory listed n some at) ≡ told
    (letter_steps mandatory listed n others by)
letters_same mandatory listed n at by some others e = behind_same (map Named (mandatory ++ listed)) 0 at by [] [] (letters_from n some) (letters_from n others) refl (bytes_from n some ∙ e ∙ sym (bytes_from n others))

-- the spot after a compressed proof with these listed labels and these words of letters
abbrev close_of : List (List ℕ) → List (List ℕ) → Spot
close_of listed words = word_spot (length (compressed_words listed words))

told_words :
    (place : Setting) (mandatory listed words : List (List ℕ)) → list_any is_close listed ≡ false →
    without_spots (decoding place mandatory (compressed_words listed words))
    ≡ told (result_and (in_order (readings_of_words (read_label place) 1 listed)) (letter_steps mandatory listed (length listed + 2) words (close_of listed words)))
told_words place mandatory listed words e = grind (arith, common_steps, compressed_is) steps 200000

pub reads_on :
    (place : Setting) (mandatory listed some others : List (List ℕ)) →
    list_any is_close listed ≡ false → flat_map (λ word. word) some ≡ flat_map (λ word. word) others →
    without_spots (decoding place mandatory (compressed_words listed some)) ≡ without_spots (decoding place mandatory (compressed_words listed others))
reads_on place mandatory listed some others e f = search (rules, letters_same, told_if, told_words) steps 200000
