-- The words of a proof by their numbers among all words of the item.
use Rattle.std.proofs.lemmas.{Grind.{common_steps}, List.{drop-drop, length-map}}
use Rattle.std.proofs.Common.{◌≡◌, ℕ, ◌+◌, ◌-◌, ◌≤◌, List, [], ◌∷◌, Option, Some, None, length, drop, slice_range, refl, sym, ◌∙◌, ap, arith, slice_get, MatchOption}
use Rattle.mm_store.specs.{mm_text.{declared.word.Word.{Word}, Language.Unit.{tokens_of}}, Language.FilesView.{FilesView}}
use Rattle.mm_statement.{specs.Language.{Item.{Said}, Statement.{Says, kind_of, symbols_from, symbols_in}}, proofs.{ListLemmas.{get_drop}, PieceLemmas.{IsTextOf}, SpokenLemmas.{behind_one}}}
use Rattle.mm_store.specs.declared.item.Item as store

-- a word further
pub left_more : (words left new : List Word) (n : ℕ) (word : Option Word) → left ≡ drop n words → MatchOption word ((left ≡ []) × (new ≡ [])) (λ w. left ≡ w ∷ new) → new ≡ drop (n + 1) words
left_more words left new n word e h = behind_one left new word h ∙ ap (drop 1) e ∙ drop-drop 1 n words

-- the word that is next
pub left_next : (words left new : List Word) (n : ℕ) (word : Option Word) → left ≡ drop n words → MatchOption word ((left ≡ []) × (new ≡ [])) (λ w. left ≡ w ∷ new) → word ≡ slice_get words n
left_next words left new n None e h = ap (λ (l : List Word). slice_get l 0) (sym h.0 ∙ e) ∙ get_drop words n 0 n (omega arith)
left_next words left new n (Some word) e h = ap (λ (l : List Word). slice_get l 0) (sym h ∙ e) ∙ get_drop words n 0 n (omega arith)

-- if none is left, none is further on
pub left_none : (words left : List Word) (k n : ℕ) → left ≡ drop k words → left ≡ [] → k ≤ n → None ≡ slice_get words n
left_none words left k n e none less = ap (λ (l : List Word). slice_get l (n - k)) (sym none ∙ e) ∙ get_drop words k (n - k) n (omega arith)

-- the number of the first word of the proof, as the item says it
pub first_said : (files : FilesView) (item : store.Item) (piece : List ℕ) → IsTextOf files item piece → (said : Said) (says : Says files item said)
    → symbols_from (kind_of item.kind) + length (symbols_in (kind_of item.kind) (tokens_of (slice_range piece item.start item.end) says.read.words)) + 1 ≡ symbols_from said.kind + length said.symbols + 1
first_said files item piece is said says =
    let kind = kind_of item.kind in
    let symbols = symbols_in kind (tokens_of (slice_range says.read.text item.start item.end) says.read.words) in
    let same = is says.read.text says.read.live in
    grind (arith, common_steps, length-map) steps 200000

-- the word with a number in the proof
pub nth_said : (files : FilesView) (item : store.Item) (piece : List ℕ) → IsTextOf files item piece → (said : Said) (says : Says files item said) → (rest : List Word) (n : ℕ)
    → rest ≡ drop (symbols_from (kind_of item.kind) + length (symbols_in (kind_of item.kind) (tokens_of (slice_range piece item.start item.end) says.read.words)) + 1) says.read.words
    → slice_get rest n ≡ slice_get says.read.words (symbols_from said.kind + length said.symbols + 1 + n)
nth_said files item piece is said says rest n e =
    grind (arith, common_steps, first_said files item piece is said says, get_drop says.read.words (symbols_from said.kind + length said.symbols + 1) n ((symbols_from said.kind + length said.symbols + 1) + n) refl) steps 200000
