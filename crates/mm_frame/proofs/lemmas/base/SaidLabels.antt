-- Each item of a kind that has a label has one: the first of its words.
use Rattle.std.proofs.{Common.{arith, ◌≡◌, ◌<◌, ℕ, zero, suc, true, cond, Some, None, List, [], ◌∷◌, length, slice_range, sym, ◌∙◌, ap}, lemmas.Bool.{and_parts, false≢true}}
use Rattle.mm_frame.specs.Language.{Base.{said_at, is_sound_at}, Laws.{ItemsHaveLabels, SaidAreLabelled}}
use Rattle.mm_store.specs.mm_text.{declared.word.Word.{Word}, Language.Unit.{tokens_of}}
use Rattle.mm_statement.specs.Language.{Item.{Kind, Said, is_labelled}, Statement.{kind_of, label_in}}

first_word : (kind : Kind) (text : List ℕ) (words : List Word) → is_labelled kind ≡ true → 0 < length words → (label : List ℕ) × (label_in kind (tokens_of text words) ≡ Some label)
first_word kind text [] t some = absurd (omega (arith, some))
first_word kind text (word ∷ words) t some = let bytes = slice_range text word.start word.end in (bytes, ap (λ b. cond b (Some bytes) None) t)

pub said_labelled : SaidAreLabelled
said_labelled files [] [] each j t = absurd (false≢true t)
said_labelled files (x ∷ found) (y ∷ base) each zero t =
    let says = each.0 in
    let kind : is_labelled (kind_of x.kind) ≡ true = sym (ap (λ (item : Said). is_labelled item.kind) says.is) ∙ t in
    let label = first_word (kind_of x.kind) (slice_range says.read.text x.start x.end) says.read.words kind says.read.some_word in
    (label.0, ap (λ (item : Said). item.label) says.is ∙ label.1)
said_labelled files (x ∷ found) (y ∷ base) each (suc j) t = said_labelled files found base each.1 j t
said_labelled files found base each j t = absurd each

pub item_label : ItemsHaveLabels
item_label base all j shown = all j (and_parts (is_sound_at base j) (is_labelled (said_at base j).kind) shown).1
