-- The words of a statement between its keywords, read one by one.
use Rattle.std.proofs.lemmas.{Grind.{common_steps}, List.{drop-map, drop-drop, take-map, append-nil, length-drop, length-map, length-take}, Simd.{map-map}}
use Rattle.std.proofs.Common.{◌≡◌, ℕ, zero, suc, ◌+◌, ◌<◌, ◌≤◌, Bool, true, false, cond, if◌then◌else◌, List, [], ◌∷◌, ◌++◌, Option, Some, None, length, map, take, drop, refl, sym, ◌∙◌, ap, subst}
use Rattle.std.{proofs.Common.{arith, length-append}, specs.{Prelude.{MatchOption}, List.{AllByRecursion, flat_map, prefix_len}}}
use Rattle.mm_store.specs.mm_text.{declared.word.{Word.{Word}, WordKind.TheVariants.{Plain}}, Language.{WordsLeft.{WordsLeft, SkipsPlainWords}, Unit.{Token, token_of, tokens_of, spellings}}}
use Rattle.mm_statement.specs.Language.{Item.{Kind, is_labelled}, Statement.{is_plain_kind, is_plain, token_names, plain_from, symbols_from, symbols_in}}
use Rattle.mm_statement.specs.Code.PlainWords.{AreFewWords, AreWordsOf, TakesLabel, word_bytes, plain_words, plain_bytes}

prefix_len-map : {X Y : Type 0} (f : X → Y) (p : Y → Bool) (xs : List X) → prefix_len p (map f xs) ≡ prefix_len (λ x. p (f x)) xs
prefix_len-map f p [] = refl
prefix_len-map f p (x ∷ xs) = ap (λ n. cond (p (f x)) (1 + n) 0) (prefix_len-map f p xs)

-- ---- words one by one

-- a plain word is one of the words before the first keyword
pub plain_more : (word : Word) (words : List Word) → is_plain_kind word.kind ≡ true → plain_words (word ∷ words) ≡ word ∷ plain_words words
plain_more word words plain = grind (arith, common_steps) steps 200000

-- and a keyword ends them
pub plain_end : (word : Word) (words : List Word) → is_plain_kind word.kind ≡ false → plain_words (word ∷ words) ≡ []
plain_end word words keyword = ap (λ b. take (cond b (1 + prefix_len (λ (w : Word). is_plain_kind w.kind) words) 0) (word ∷ words)) keyword

-- the words of a proof with a word in front
pub proof_more : (text : List ℕ) (old new : List Word) (word : Word) → old ≡ word ∷ new → is_plain_kind word.kind ≡ true → plain_bytes text old ≡ word_bytes text word ∷ plain_bytes text new
proof_more text old new word e plain = ap (plain_bytes text) e ∙ ap (map (word_bytes text)) (plain_more word new plain)

-- ---- symbols

-- the symbols so far, of these words, and the words that are left
pub record Symbols (words left symbols : List Word) : Type 0 where
  pub joined : plain_words words ≡ symbols ++ plain_words left
  pub behind : left ≡ drop (length symbols) words

pub symbols_more : (words left new symbols : List Word) (word : Word) → Symbols words left symbols → left ≡ word ∷ new → is_plain_kind word.kind ≡ true → Symbols words new (symbols ++ word ∷ [])
symbols_more words left new symbols word h e plain = grind (arith, common_steps, plain_more word new plain, length-append symbols (word ∷ []), drop-drop 1 (length symbols) words) steps 200000

-- the words after the one that closes the symbols
abbrev IsBehind : List Word → List Word → Type 0
IsBehind words new = new ≡ drop (length (plain_words words) + 1) words

rest_is : (words left new symbols : List Word) → plain_words words ≡ symbols → left ≡ drop (length symbols) words → new ≡ drop 1 left → IsBehind words new
rest_is words left new symbols all behind e = grind (arith, common_steps, drop-drop 1 (length symbols) words) steps 200000

pub symbols_closed : (words left new symbols : List Word) (word : Word) → Symbols words left symbols → left ≡ word ∷ new → is_plain_kind word.kind ≡ false → IsBehind words new
symbols_closed words left new symbols word h e keyword = grind (arith, common_steps, plain_end word new keyword, append-nil symbols, rest_is) steps 200000

-- no word is left
pub symbols_ended : (words left new symbols : List Word) → Symbols words left symbols → left ≡ [] → new ≡ [] → IsBehind words new
symbols_ended words left new symbols h none e = grind (arith, common_steps, append-nil symbols, rest_is) steps 200000

-- plain words are symbols
passed_more : (passed words left new symbols : List Word) → left ≡ passed ++ new → AllByRecursion (λ (word : Word). word.kind ≡ Plain) passed → Symbols words left symbols → Symbols words new (symbols ++ passed)
passed_more [] words left new symbols e plain h = subst (λ s. Symbols words new s) (sym (append-nil symbols)) (subst (λ l. Symbols words l symbols) e h)
passed_more (word ∷ passed) words left new symbols e plain h =
    grind (arith, common_steps, passed_more passed words (passed ++ new) new (symbols ++ word ∷ []) refl plain.1 (symbols_more words left (passed ++ new) symbols word h e (ap is_plain_kind plain.0)), passed) steps 200000

pub symbols_passed : (words left new symbols : List Word) (skips : SkipsPlainWords left new) → Symbols words left symbols → Symbols words new (symbols ++ skips.passed)
symbols_passed words left new symbols skips h = passed_more skips.passed words left new symbols skips.joined skips.plain h

-- ---- a statement

-- the words after one word
pub behind_one : (old new : List Word) (word : Option Word) → MatchOption word ((old ≡ []) × (new ≡ [])) (λ w. old ≡ w ∷ new) → new ≡ drop 1 old
behind_one old new word h = grind (arith, common_steps) steps 200000

-- how plain words are spelled
plain_names : (text : List ℕ) (words : List Word) → token_names (plain_from 0 (tokens_of text words)) ≡ plain_bytes text words
plain_names text words = grind (arith, common_steps, prefix_len-map (token_of text) is_plain words, take-map, map-map) steps 200000

-- from a place on
pub names_from : (text : List ℕ) (words : List Word) (from : ℕ) → token_names (plain_from from (tokens_of text words)) ≡ plain_bytes text (drop from words)
names_from text words from = ap (λ tokens. token_names (plain_from 0 tokens)) (drop-map (token_of text) from words) ∙ plain_names text (drop from words)

-- the words after the label and the keyword
pub behind_label : (labelled : Bool) (words behind first : List Word) (label : Option Word) → TakesLabel labelled words label behind → first ≡ drop 1 behind → first ≡ drop (if labelled then 2 else 1) words
behind_label true words behind first (Some word) h e = e ∙ sym (ap (drop 2) h)
behind_label false words behind first None h e = e ∙ ap (drop 1) h
behind_label _ words behind first _ h e = absurd h

-- the words behind the one that closes the symbols
pub behind_closing : (kind : Kind) (text : List ℕ) (words behind first rest : List Word) (label : Option Word) → TakesLabel (is_labelled kind) words label behind → first ≡ drop 1 behind
    → IsBehind first rest → rest ≡ drop (symbols_from kind + length (symbols_in kind (tokens_of text words)) + 1) words
behind_closing kind text words behind first rest label takes keyword after =
    let from = symbols_from kind in
    let symbols = symbols_in kind (tokens_of text words) in
    let at : first ≡ drop from words = behind_label (is_labelled kind) words behind first label takes keyword in
    let spelled : plain_bytes text first ≡ token_names symbols = ap (plain_bytes text) at ∙ sym (names_from text words from) in
    let count : length (plain_words first) ≡ length symbols = sym (length-map (plain_words first) (word_bytes text)) ∙ ap length spelled ∙ length-map symbols (λ (token : Token). token.bytes) in
    let places : from + (length (plain_words first) + 1) ≡ from + length symbols + 1 = omega (arith, count) in
    after ∙ ap (drop (length (plain_words first) + 1)) at ∙ drop-drop (length (plain_words first) + 1) from words ∙ ap (λ k. drop k words) places

-- ---- how many words are left, and their bytes

-- no word is empty
abbrev AreSome : List (List ℕ) → Type 0
AreSome names = AllByRecursion (λ name. 0 < length name) names

-- the bytes of all words
abbrev bytes_of : List (List ℕ) → ℕ
bytes_of names = length (flat_map (λ name. name) names)

-- the same holds for the words after some place, and with those before it
some_behind : (n : ℕ) (names : List (List ℕ)) → AreSome names → AreSome (drop n names)
some_behind zero names h = h
some_behind (suc n) [] h = tt
some_behind (suc n) (name ∷ names) h = some_behind n names h.1

some_before : (n : ℕ) (names : List (List ℕ)) → AreSome names → AreSome (take n names)
some_before (suc n) (name ∷ names) h = (h.0, some_before n names h.1)
some_before _ _ h = tt

bytes_behind : (n : ℕ) (names : List (List ℕ)) → bytes_of (drop n names) ≤ bytes_of names
bytes_behind (suc n) (name ∷ names) = omega (arith, bytes_behind n names, length-append name (flat_map (λ bytes. bytes) names))
bytes_behind _ _ = omega arith

bytes_before : (n : ℕ) (names : List (List ℕ)) → bytes_of (take n names) ≤ bytes_of names
bytes_before (suc n) (name ∷ names) = grind (arith, common_steps, bytes_before n names, length-append) steps 200000
bytes_before _ _ = omega arith

-- the words of a proof are the first of those that are left
module _ (text : List ℕ) (words : List Word) where
  proof_spelled : take (prefix_len (λ (w : Word). is_plain_kind w.kind) words) (spellings text words) ≡ plain_bytes text words
  proof_spelled = grind (arith, common_steps, map-map, take-map) steps 200000

  proof_some : AreSome (spellings text words) → AreSome (plain_bytes text words)
  proof_some h = subst AreSome proof_spelled (some_before (prefix_len (λ (w : Word). is_plain_kind w.kind) words) (spellings text words) h)

  proof_few : length (plain_bytes text words) ≤ length words
  proof_few = omega (arith, length-map (plain_words words) (word_bytes text), length-take (prefix_len (λ (w : Word). is_plain_kind w.kind) words) words)

  proof_bytes : bytes_of (plain_bytes text words) ≤ bytes_of (spellings text words)
  proof_bytes = subst (λ names. bytes_of names ≤ bytes_of (spellings text words)) proof_spelled (bytes_before (prefix_len (λ (w : Word). is_plain_kind w.kind) words) (spellings text words))

-- after the first word there are few
pub few_more : (word : List ℕ) (words : List (List ℕ)) → AreFewWords (word ∷ words) → AreFewWords words
few_more word words few = record { few = omega (arith, few.few); some = few.some.1; bytes = omega (arith, few.bytes, length-append word (flat_map (λ (w : List ℕ). w) words)) }

-- the words from some place on up to the next keyword are few, too
pub few_from : (text : List ℕ) (all : WordsLeft) (rest : List Word) (n : ℕ) → AreWordsOf text all → rest ≡ drop n all.words → AreFewWords (plain_bytes text rest)
few_from text all rest n h at =
    let spelled : drop n (spellings text all.words) ≡ spellings text rest = grind (arith, common_steps, drop-map, at) steps 200000 in
    let fewer = subst (λ names. bytes_of names ≤ bytes_of (spellings text all.words)) spelled (bytes_behind n (spellings text all.words)) in
    record {
      few = omega (arith, proof_few text rest, ap length at, length-drop n all.words, h.few);
      some = proof_some text rest (subst AreSome spelled (some_behind n (spellings text all.words) h.some));
      bytes = omega (arith, proof_bytes text rest, fewer, h.bytes);
    }
