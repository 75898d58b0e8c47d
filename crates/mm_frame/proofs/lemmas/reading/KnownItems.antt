-- What an older base says of an item that is the same bytes as one of its items.
use Rattle.std.proofs.{Common.{rules, ◌≡◌, ℕ, zero, suc, Some, List, [], ◌∷◌, map, get_or, length, sym, ◌∙◌, ap, subst, All, slice_get}, lemmas.List.{length-map, Elements.{All-get_or}}}
use Rattle.std.{proofs.lemmas.Option.{same_Some, slice_get_within, slice_get-get_or, slice_get-map, get_or_from_slice_get}, specs.{Option.{option_map}, List.{AllZip}}}
use Rattle.mm_store.specs.Language.FilesView.{FilesView}
use Rattle.mm_machine.specs.{declared.symbol.NumberedSymbol.{NumberedSymbol}, Language.{Frame.{Symbol}, Names.{Begins, name_at}, NumberedSymbols.{symbol_of, symbols_of, IsNumbered}}}
use Rattle.mm_frame.specs.{Language.{Framing.{symbol}, Answering.{BaseAnswers}, Older.{HasOlder}}, Code.{KnownItem.{IsSameItem, numbers_of}, Numbers.{AreNameNumbers}}}
use Rattle.mm_frame.proofs.lemmas.names.NumberLemmas.{begins_on, there_from_map}
use Rattle.mm_statement.specs.Language.{Item.{Said, item_at}, Statement.{OneRangeSaysOne, Says}}
use Rattle.mm_store.specs.declared.item.Item as store

-- each item says what is said at its place
says_at : (files : FilesView) (found : List store.Item) (said : List Said) (i : ℕ) (item : store.Item) → AllZip (Says files) found said → slice_get found i ≡ Some item → Says files item (item_at said i)
says_at files [] said i item h e = cc
says_at files (x ∷ found) (y ∷ said) zero item h e = subst (λ w. Says files w y) (same_Some x item e) h.0
says_at files (x ∷ found) (y ∷ said) (suc i) item h e = says_at files found said i item h.1 e
says_at files (x ∷ found) [] i item h e = absurd h

-- and so does the same item once more
pub same_says_same : (files : FilesView) (found : List store.Item) (said : List Said) (i : ℕ) (item : store.Item) → OneRangeSaysOne → AllZip (Says files) found said → IsSameItem found i item → (told : Said)
    → Says files item told → item_at said i ≡ told
same_says_same files found said i item law h again told says = law files again.was item again.same (item_at said i) told (says_at files found said i again.was h again.there) says

-- the symbols that are kept of an item have the numbers of its symbols
pub numbers_known : (names : List (List ℕ)) (before : List Said) (symbols : List (List ℕ)) (kept : List NumberedSymbol)
    → symbols_of names kept ≡ map (symbol before) symbols → All (IsNumbered names) kept → AreNameNumbers names (numbers_of kept) symbols
numbers_known names before symbols kept e numbered = record {
  count = length-map kept (λ (k : NumberedSymbol). k.name) ∙ sym (length-map kept (symbol_of names)) ∙ ap length e ∙ length-map symbols (symbol before);
  each = λ i n there.
      let one = there_from_map (λ (k : NumberedSymbol). k.name) kept i n there in
      let here = sym (ap (λ ws. slice_get ws i) e) ∙ slice_get-map (symbol_of names) kept i ∙ ap (option_map (symbol_of names)) one.1 in
      let other = there_from_map (symbol before) symbols i (symbol_of names one.0) here in
      let few : IsNumbered names one.0 = subst (IsNumbered names) (get_or_from_slice_get kept i one.0 one.0 one.1) (All-get_or (IsNumbered names) kept i one.0 (slice_get_within kept i one.0 one.1) numbered) in
      let name : name_at names one.0.name ≡ get_or symbols i [] = ap (λ (s : Symbol). s.name) other.2 ∙ sym (get_or_from_slice_get symbols i other.0 [] other.1) in
      ap (slice_get names) one.2 ∙ slice_get-get_or names one.0.name [] few ∙ ap Some name;
}

-- names that are added change nothing
pub numbers_on : (one two : List (List ℕ)) (numbers : List ℕ) (symbols : List (List ℕ)) → Begins one two → AreNameNumbers one numbers symbols → AreNameNumbers two numbers symbols
numbers_on one two numbers symbols more h = record { count = h.count; each = λ i n there. more n (get_or symbols i []) (h.each i n there) }

pub older_on : (one two : List (List ℕ)) (files : FilesView) (answers : BaseAnswers) → Begins one two → HasOlder one files answers → HasOlder two files answers
older_on one two files answers more older = search (rules, begins_on)
