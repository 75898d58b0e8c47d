-- The words of a text from one of them to another stand alone: the bytes between have them, and no others.
use Rattle.std.proofs.Common.{[], ◌≡◌, ℕ, ◌+◌, ◌-◌, ◌≤◌, true, List, ◌∷◌, ◌++◌, append_assoc, length, map, drop, None, Ok, Err, refl, sym, ap, ◌∙◌, subst, subst₂, inl, inr, arith, slice_range}
use Rattle.std.proofs.Common.{append-nil, take-append-drop}
use Rattle.mm_text.specs.{declared.word.Word.{Word}, Language.{Run.{runs, ends_run}, Reading.{HasWords}, Unit.{Token, token_of, tokens_of}, Part.{token_end}, Cut.{end_of_words}}}
use Rattle.mm_text.{specs.{Language.Stretch.{moved, IsStretch}, Code.{LeftToRight.{read_runs, words_fault_at}, Reader.{runs_at, TakesWord}}}, proofs.ReadingLemmas.{read_words}}
use Rattle.mm_text.proofs.{ReaderLemmas.{pass_none, word_read, fails_read}, PieceLemmas.{shift_word}, PieceUnitLemmas.{slice_part, ends_at_last, one_words}, PositionLemmas.{Lying, words_lie}}
use Rattle.mm_text.proofs.{CutWalkLemmas.{Given, word_from}, NthLemmas.{first_word}, PartLemmas.{Begun, begun_first, begun_more, begun_words}, OwnWordLemmas.{last_end}}

-- ---- words of a part, as words of the text

tokens_moved : (text part rest : List ℕ) (from : ℕ) → drop from text ≡ part ++ rest → (ws : List Word) (at : ℕ) → Lying part at ws → map (moved from) (tokens_of part ws) ≡ tokens_of text (map (shift_word from) ws)
tokens_moved text part rest from joined [] at h = refl
tokens_moved text part rest from joined (w ∷ ws) at h =
    let some = h.1.some in
    let bytes = slice_part text part rest from w.start w.end joined (omega (arith, some)) h.1.within in
    let later = tokens_moved text part rest from joined ws (w.end + 1) h.2 in
    λ i. record { kind = w.kind; bytes = sym bytes i; start = from + w.start } ∷ later i

-- ---- the walk to the first word, and on to the last

module _ (text : List ℕ) where
  -- the next word
  record Next (at : ℕ) (word : Word) (rest : List Word) : Type 0 where
    pub to : ℕ
    pub taken : TakesWord text at word to
    pub within : to ≤ length text
    pub reads : read_runs None (runs_at text to) ≡ Ok rest

  next_word : (at : ℕ) (word : Word) (rest : List Word) → read_runs None (runs_at text at) ≡ Ok (word ∷ rest) → Next at word rest
  next_word at word rest reads = by_given (word_from (length text) text at at (omega arith) (omega arith) (pass_none text at)) where
    by_given : Given text at → Next at word rest
    by_given (inl (w, to, taken, within)) =
        let f = first_word (read_runs None (runs_at text at)) (read_runs None (runs_at text to)) w (word ∷ rest) (word_read text at w to taken) reads in
        let same : w ≡ word = cc in
        let others : f.0 ≡ rest = cc in
        record { to = to; taken = subst (λ (v : Word). TakesWord text at v to) same taken; within = within; reads = subst (λ (ws : List Word). read_runs None (runs_at text to) ≡ Ok ws) others f.2 }
    by_given (inr (inl none)) = absurd (let a : Ok (word ∷ rest) ≡ Ok [] = sym reads ∙ read_words (runs_at text at) [] none in cc)
    by_given (inr (inr (number, place, fails))) = absurd (let a : Ok (word ∷ rest) ≡ Err (words_fault_at number place) = sym reads ∙ fails_read (runs_at text at) [] number place fails in cc)

  -- these words have been passed since a byte
  record Since (from at : ℕ) (passed rest : List Word) : Type 0 where
    pub begun : Begun text from at
    pub are : begun.words ≡ passed
    pub reads : read_runs None (runs_at text at) ≡ Ok rest
    pub last : at ≡ end_of_words passed
    pub ends : ends_run (drop at text) ≡ true
    pub within : at ≤ length text

  since_first : (at : ℕ) (before : List Word) (first : Word) (rest : List Word) → read_runs None (runs_at text at) ≡ Ok (before ++ first ∷ rest) → (to : ℕ) × Since first.start to (first ∷ []) rest
  since_first at [] first rest reads =
      let n = next_word at first rest reads in
      (n.to, record { begun = begun_first text at first n.to n.taken; are = refl; reads = n.reads; last = n.taken.next; ends = n.taken.ends; within = n.within })
  since_first at (word ∷ before) first rest reads = let n = next_word at word (before ++ first ∷ rest) reads in since_first n.to before first rest n.reads

  go_on : (from at : ℕ) (passed more behind : List Word) → Since from at passed (more ++ behind) → (to : ℕ) × Since from to (passed ++ more) behind
  go_on from at passed [] behind h = (at, subst (λ (ws : List Word). Since from at ws behind) (sym (append-nil passed)) h)
  go_on from at passed (word ∷ more) behind h =
      let n = next_word at word (more ++ behind) h.reads in
      let further = go_on from n.to (passed ++ word ∷ []) more behind (record {
        begun = begun_more text from at word n.to h.begun n.taken;
        are = ap (λ (ws : List Word). ws ++ word ∷ []) h.are;
        reads = n.reads;
        last = n.taken.next ∙ sym (ends_at_last passed word);
        ends = n.taken.ends;
        within = n.within;
      }) in
      (further.0, subst (λ (ws : List Word). Since from further.0 ws behind) (append_assoc passed (word ∷ []) more) further.1)

  -- the bytes from the first word to the last have these words
  pub stretch_words : (all before more behind : List Word) (first : Word) → HasWords text all → all ≡ before ++ first ∷ (more ++ behind)
      → (own : List Word) × HasWords (slice_range text first.start (end_of_words (first ∷ more))) own × (first ∷ more ≡ map (shift_word first.start) own)
  stretch_words all before more behind first has joined =
      let begun = since_first 0 before first (more ++ behind) (subst (λ (ws : List Word). read_runs None (runs_at text 0) ≡ Ok ws) joined (read_words (runs text) all has.words_are)) in
      let passed = go_on first.start begun.0 (first ∷ []) more behind begun.1 in
      let own = begun_words text first.start passed.0 has.allowed passed.1.within passed.1.begun passed.1.ends in
      subst (λ n. (own : List Word) × HasWords (slice_range text first.start n) own × (first ∷ more ≡ map (shift_word first.start) own)) passed.1.last
      (own.0, own.1, sym passed.1.are ∙ own.3)

-- ---- words as a stretch of words

-- a list of values that is divided comes of a list that is divided
pub split_map : {X Y : Type 0} (f : X → Y) (xs : List X) (ys zs : List Y) → map f xs ≡ ys ++ zs → (front : List X) × (rest : List X) × (xs ≡ front ++ rest) × (map f front ≡ ys) × (map f rest ≡ zs)
split_map f xs [] zs e = ([], xs, refl, refl, e)
split_map f [] (y ∷ ys) zs e = absurd (cc)
split_map f (x ∷ xs) (y ∷ ys) zs e =
    let head : f x ≡ y = cc in
    let tail : map f xs ≡ ys ++ zs = cc in
    let r = split_map f xs ys zs tail in
    (x ∷ r.0, r.1, ap (λ l. x ∷ l) r.2, (λ i. head i ∷ r.3 i), r.4)

lying_behind : (text : List ℕ) (at : ℕ) (front rest : List Word) → Lying text at (front ++ rest) → (n : ℕ) × Lying text n rest
lying_behind text at [] rest h = (at, h)
lying_behind text at (word ∷ front) rest h = lying_behind text (word.end + 1) front rest h.2

lying_front : (text : List ℕ) (at : ℕ) (front rest : List Word) → Lying text at (front ++ rest) → Lying text at front
lying_front text at [] rest h = tt
lying_front text at (word ∷ front) rest h = (h.0, h.1, lying_front text (word.end + 1) front rest h.2)

module _ (text : List ℕ) (all own : List Word) (words : List Token) (first last : Token) (has : HasWords text all) (is : IsStretch (tokens_of text all) words first last) where
  abbrev IsSo : ℕ → ℕ → Type 0
  IsSo from to = HasWords (slice_range text from to) own → map (moved from) (tokens_of (slice_range text from to) own) ≡ words

  by_words : (before these behind : List Word) → all ≡ before ++ (these ++ behind) → tokens_of text these ≡ words → IsSo first.start (token_end last)
  by_words before [] behind joined are = absurd (let none : [] ≡ first ∷ is.more = are ∙ is.begins in cc)
  by_words before (word ∷ more) behind joined are =
      let lies = lying_behind text 0 before (word ∷ (more ++ behind)) (subst (Lying text 0) joined (words_lie text all has)) in
      let begin : token_of text word ∷ tokens_of text more ≡ first ∷ is.more = are ∙ is.begins in
      let head : token_of text word ≡ first = cc in
      let start : word.start ≡ first.start = ap (λ (token : Token). token.start) head in
      let end : token_end last ≡ end_of_words (word ∷ more) = last_end text is.front last (word ∷ more) lies.0 (lying_front text lies.0 (word ∷ more) behind lies.1) (sym is.closes ∙ sym are) in
      let own_words = stretch_words text all before more behind word has joined in
      let part = slice_range text word.start (end_of_words (word ∷ more)) in
      subst₂ IsSo start (sym end) (λ mine.
      ap (λ (ws : List Word). map (moved word.start) (tokens_of part ws)) (one_words part own own_words.0 mine own_words.1)
      ∙ tokens_moved text part (drop (end_of_words (word ∷ more) - word.start) (drop word.start text)) word.start
      (sym (take-append-drop (end_of_words (word ∷ more) - word.start) (drop word.start text))) own_words.0 0 (words_lie part own_words.0 own_words.1)
      ∙ ap (tokens_of text) (sym own_words.2)
      ∙ are)

  pub stretch_alone : HasWords (slice_range text first.start (token_end last)) own → map (moved first.start) (tokens_of (slice_range text first.start (token_end last)) own) ≡ words
  stretch_alone =
      let front = split_map (token_of text) all is.before (words ++ is.behind) is.joined in
      let these = split_map (token_of text) front.1 words is.behind front.4 in
      by_words front.0 these.0 these.1 (front.2 ∙ ap (λ (ws : List Word). front.0 ++ ws) these.2) these.3
