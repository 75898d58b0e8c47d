-- Rows kept of the items, one more item, and what a base answers.
use Rattle.std.proofs.{Math.{Seq.{take-append_seam}, ListN.{get_or-append}}, lemmas.{Grind.{common_steps}, Bool.{false≢true, and_parts}}}
use Rattle.std.proofs.lemmas.{List.{length_push, get_or_push, take-append-le, length-take-le, Elements.{All-nil}}, Option.{slice_get_within, slice_get_cases, none-some}}
use Rattle.std.proofs.Common.{◌≡◌, ℕ, zero, suc, ◌<◌, ◌≤◌, Bool, true, Option, Some, None, List, [], ◌∷◌, ◌++◌, length, take, drop, slice_get, IfSome, All, append-nil, ◌&&◌, get_or, is_none, is_some}
use Rattle.std.{proofs.Common.{not, false, refl, sym, ◌∙◌, ap, subst, arith, inl, inr}, specs.{Option.{option_map}, List.{AllZip}}}
use Rattle.mm_frame.proofs.lemmas.{faults.FoundFaults.{none_sound, kept_after_sound, no_fault_sound, kept_after_append}, lists.Members.{get_between}, frames.Frames.{essential_neither}}
use Rattle.mm_frame.proofs.lemmas.{frames.HypothesisNumbers.{active_numbers_more}, pairs.{FramePairs.{same_pairs}, ActivePairLemmas.{disjoint_neither}}, scope.SoundItems.{split_at}}
use Rattle.mm_frame.{proofs.lemmas.{scope.{TableLemmas.{item_between}, BlockLemmas.{get_cases, get_last}}, names.NamedLemmas.{get_before}}, specs.declared.FrameNumber.{FrameNumber}}
use Rattle.mm_frame.specs.Language.{Sound.{IsSound, AreSound, fault, judged, sound_items, sound_items_after}, Framing.{expression}, Scope.{active_numbers}, Marks.{mark_of}}
use Rattle.mm_frame.specs.{Language.{Base.{BaseView, before, said_at, fault_by, is_sound_at, is_framed_at, frame_at}, Answering.{AreRows, pairs_in_order}}, Code.BlockMarks.{closes}}
use Rattle.mm_frame.specs.Code.{Numbers.{IsNameNumber, AreNameNumbers}, KeptLists.{list_or_none, item_list}, KeptSymbols.{AreSymbols}, LastItems.{IsSort}, KeptScope.{taken}}
use Rattle.mm_frame.specs.Code.KeptActiveItems.{changes_active}
use Rattle.mm_machine.specs.{declared.symbol.NumberedSymbol.{NumberedSymbol}, Language.{NumberedSymbols.{symbols_of, kept_pairs, IsNumbered, IsPairNumbered, ArePairsRead}, Frame.{AreSamePairs}}}
use Rattle.mm_statement.specs.Language.Item.{Kind, Disjoint, Essential, BlockEnd, Said, passed, is_kind, is_read, is_assertion, item_at}

pub item_before : (said : List Said) (item : Said) (n : ℕ) → n < length said → item_at (said ++ item ∷ []) n ≡ item_at said n
item_before [] item n l = absurd (omega arith)
item_before (x ∷ xs) item zero l = refl
item_before (x ∷ xs) item (suc n) l = item_before xs item n (omega arith)

pub item_beyond : (said : List Said) (n : ℕ) → length said ≤ n → item_at said n ≡ passed
item_beyond [] n l = refl
item_beyond (x ∷ xs) zero l = absurd (omega arith)
item_beyond (x ∷ xs) (suc n) l = item_beyond xs n (omega arith)

-- one more item, with its row
pub rows_more : {X : Type 0} (tells : List Said → Said → X → Type 0) (said : List Said) (item : Said) (rows : List X) (row : X) → AreRows tells said rows → tells (sound_items said) item row → AreRows tells (said ++ item ∷ []) (rows ++ row ∷ [])
rows_more {X} tells said item rows row a t = record {
  count = (let p = length_push rows row in let q = length_push said item in omega arith);
  each = λ n x e. elim (get_cases rows row x n e) [
    | inl there ↦ (let w = slice_get_within rows n x there in
        subst (λ w. tells (sound_items w) (item_at (said ++ item ∷ []) n) x) (sym (take-append-le n said (item ∷ []) (omega arith)))
        (subst (λ w. tells (sound_items (take n said)) w x) (sym (item_before said item n (omega arith))) (a.each n x there)))
    | inr last ↦ (let z : n ≡ length said = last.0 ∙ a.count in
        subst (λ k. tells (sound_items (take k (said ++ item ∷ []))) (item_at (said ++ item ∷ []) k) x) (sym z)
        (grind (arith, common_steps, take-append_seam said (item ∷ []), item_between said item [], last.1) steps 200000))
  ];
}

-- no rows, and no symbols
pub rows_none : {X : Type 0} (tells : List Said → Said → X → Type 0) → AreRows tells [] []
rows_none tells = record { count = refl; each = λ n row e. cc }

-- what is kept is sound
pub kept_are_sound : (said : List Said) → AreSound (sound_items said)
kept_are_sound said = kept_after_sound [] said none_sound

-- an item is sound if no fault was found
pub sound_found_none : {X : Type 0} (told : X → ℕ × FrameNumber) (before : List Said) (item : Said) (found : Option X) → option_map told found ≡ fault before item → is_none found ≡ true → IsSound before item
sound_found_none told before item found e t = grind (arith, common_steps, false≢true, no_fault_sound) steps 200000

-- one more item says something
pub zip_more : {A B : Type 0} (R : A → B → Type 0) (xs : List A) (ys : List B) (i : ℕ) (d : A) (y : B) → i < length xs → AllZip R (take i xs) ys → R (get_or xs i d) y → AllZip R (take (suc i) xs) (ys ++ y ∷ [])
zip_more R [] ys i d y l z r = absurd (omega arith)
zip_more R (x ∷ xs) [] zero d y l z r = (r, tt)
zip_more R (x ∷ xs) (w ∷ ys) (suc i) d y l z r = (z.0, zip_more R xs ys i d y (omega arith) z.1 r)
zip_more R (x ∷ xs) _ _ d y l z r = absurd z

-- if there is no row there is no item
pub row_none : {X : Type 0} (tells : List Said → Said → X → Type 0) (said : List Said) (rows : List X) (n : ℕ) → AreRows tells said rows → slice_get rows n ≡ None → length said ≤ n
row_none tells said rows n a e = grind (arith, common_steps, none-some, slice_get_cases) steps 200000

pub none_found : {X : Type 0} (found : Option X) (none : Bool) → is_some found ≡ not none → is_none found ≡ none
none_found found true e = ap not e
none_found found false e = ap not e

-- one more item, with the symbols that are kept for it
pub symbols_more : (all : List (List ℕ)) (before : List Said) (item : Said) (expressions : List (List NumberedSymbol)) (symbols : List NumberedSymbol) → AreSymbols all before expressions → All (IsNumbered all) symbols
    → (is_read item.kind ≡ true → symbols_of all symbols ≡ expression before item) → AreSymbols all (before ++ item ∷ []) (expressions ++ symbols ∷ [])
symbols_more all before item expressions symbols a numbers new = record {
  count = (let p = length_push expressions symbols in let q = length_push before item in omega arith);
  numbered = λ n. by_place n (slice_get (expressions ++ symbols ∷ []) n) refl;
  each = λ n x e t. elim (get_cases before item x n e) [
    | inl there ↦ grind (arith, common_steps, get_before, slice_get_within, take-append-le) steps 200000
    | inr last ↦ (let z = last.0 in
        ap (λ k. symbols_of all (item_list (expressions ++ symbols ∷ []) k)) (z ∙ sym a.count) ∙ ap (λ o. symbols_of all (list_or_none o)) (get_last expressions symbols (length expressions) refl)
        ∙ new (ap (λ (w : Said). is_read w.kind) last.1 ∙ t) ∙ (λ i. expression (sym (ap (λ k. take k (before ++ item ∷ [])) z ∙ take-append_seam before (item ∷ [])) i) (last.1 i)))
  ];
}
  where
    by_place : (n : ℕ) (o : Option (List NumberedSymbol)) → slice_get (expressions ++ symbols ∷ []) n ≡ o → All (IsNumbered all) (list_or_none o)
    by_place n None e = All-nil (IsNumbered all)
    by_place n (Some kept) e = elim (get_cases expressions symbols kept n e) [
      | inl there ↦ subst (λ o. All (IsNumbered all) (list_or_none o)) there (a.numbered n)
      | inr last ↦ subst (λ (w : List NumberedSymbol). All (IsNumbered all) w) last.1 numbers
    ]

pub symbols_taken : (all : List (List ℕ)) (before : List Said) (item : Said) (symbols : List NumberedSymbol) (sound : Bool) → (sound ≡ true → is_read item.kind ≡ true → symbols_of all symbols ≡ expression before item)
    → is_read (taken sound item).kind ≡ true → symbols_of all symbols ≡ expression before (taken sound item)
symbols_taken all before item symbols true h t = h refl t
symbols_taken all before item symbols false h t = absurd (false≢true t)

-- where an item is among what is kept
kept_after_front : (before items : List Said) → (rest : List Said) × (sound_items_after before items ≡ before ++ rest) × (length rest ≡ length items)
kept_after_front before [] = ([], sym (append-nil before), refl)
kept_after_front before (item ∷ items) = grind (arith, common_steps, kept_after_front (before ++ (judged item (fault before item)) ∷ []) items) steps 200000

pub kept_count : (said : List Said) → length (sound_items said) ≡ length said
kept_count said = let r = kept_after_front [] said in ap length r.1 ∙ r.2

pub record KeptAt (said : List Said) (i : ℕ) (item : Said) : Type 0 where
  pub rest : List Said
  pub whole : sound_items said ≡ sound_items (take i said) ++ judged item (fault (sound_items (take i said)) item) ∷ rest
  pub number : length (sound_items (take i said)) ≡ i

pub kept_at : (said : List Said) (i : ℕ) (item : Said) → slice_get said i ≡ Some item → KeptAt said i item
kept_at said i item e =
    let front = take i said in
    let back = drop (suc i) said in
    let r = kept_after_front (sound_items front ++ (judged item (fault (sound_items front) item)) ∷ []) back in
    let w = slice_get_within said i item e in
    grind (arith, common_steps, split_at said i item e, kept_after_append [] front (item ∷ back), kept_count front, length-take-le i said (omega arith)) steps 200000

pub kept_front_at : (said : List Said) (i : ℕ) (item : Said) → slice_get said i ≡ Some item → take i (sound_items said) ≡ sound_items (take i said)
kept_front_at said i item e =
    grind (arith, common_steps, kept_at said i item e, take-append_seam (sound_items (take i said)) ((judged item (fault (sound_items (take i said)) item)) ∷ (kept_at said i item e).rest)) steps 200000

pub kept_item_at : (said : List Said) (i : ℕ) (item : Said) → slice_get said i ≡ Some item → fault (sound_items (take i said)) item ≡ None → slice_get (sound_items said) i ≡ Some item
kept_item_at said i item e f = grind (arith, common_steps, kept_at said i item e, get_between (sound_items (take i said)) item (kept_at said i item e).rest) steps 200000

-- if a label is reported, no fault is reported exactly for a sound item
pub none_told : (kind : Kind) (f : Option (ℕ × FrameNumber)) → is_none (fault_by kind f) ≡ true → f ≡ None
none_told kind f e = grind (arith, common_steps) steps 200000

pub item_there : (test : Kind → Bool) → test passed.kind ≡ false → (said : List Said) (i : ℕ) → test (item_at said i).kind ≡ true
    → slice_get said i ≡ Some (item_at said i)
item_there test out [] i e = absurd (false≢true (sym out ∙ e))
item_there test out (x ∷ said) zero e = refl
item_there test out (x ∷ said) (suc i) e = item_there test out said i e

-- the active items of a sort stay the same after an item of another sort
pub numbers_still : (test : Kind → Bool) → IsSort test → (before : List Said) (item : Said) (sound : Bool) → (sound ≡ true → (test item.kind ≡ false) × (closes (mark_of item.kind) ≡ false))
    → active_numbers (λ i. test i.kind) before ≡ active_numbers (λ i. test i.kind) (before ++ taken sound item ∷ [])
numbers_still test sort before item false h = (grind (arith, common_steps, active_numbers_more, append-nil, false≢true, sort.sound) steps 200000)
numbers_still test sort before item true h = let p = h refl in grind (arith, common_steps, active_numbers_more, append-nil, false≢true, p.1, p.0) steps 200000

-- an item that changes nothing that is active is of no sort that is followed, and no `$}`
pub not_changed : (kind : Kind) (sound : Bool) → sound ≡ true → (sound && changes_active kind) ≡ false → (is_kind Essential kind ≡ false) × (is_kind Disjoint kind ≡ false) × (closes (mark_of kind) ≡ false)
not_changed Essential true s e = absurd (false≢true (sym e))
not_changed Disjoint true s e = absurd (false≢true (sym e))
not_changed BlockEnd true s e = absurd (false≢true (sym e))
not_changed _ false s e = absurd (false≢true s)
not_changed _ true s e = (refl, refl, refl)

-- the sorts that are followed
pub essential_sort : IsSort (is_kind Essential)
essential_sort = record { statement = essential_neither; sound = refl }

pub disjoint_sort : IsSort (is_kind Disjoint)
disjoint_sort = record { statement = disjoint_neither; sound = refl }

-- what has a frame is sound, and an assertion, whose symbols are read
pub framed_parts : (flag : Bool) (kind item_kind : Kind) → kind ≡ item_kind → (flag && is_assertion kind) ≡ true → (flag ≡ true) × (is_assertion item_kind ≡ true) × (is_read item_kind ≡ true)
framed_parts flag kind item_kind k e = grind (arith, common_steps, and_parts) steps 200000

-- the pairs of the frame of an assertion in one order are its pairs
pub framed_in_order : (base : BaseView) (i : ℕ) → is_framed_at base i ≡ true → AreSamePairs (pairs_in_order (frame_at base i)) (frame_at base i).pairs
framed_in_order base i t =
    let item = said_at base i in
    let parts = and_parts (is_sound_at base i) (is_assertion item.kind) t in
    same_pairs (before base i) item (kept_are_sound (take i base)) (no_fault_sound (before base i) item (none_told item.kind (fault (before base i) item) parts.0)) parts.1

-- pairs in this order are those of the frame of an assertion
pub ordered_pairs : {X : Type 0} (all : List (List ℕ)) (kept : X → List (NumberedSymbol × NumberedSymbol)) (base : BaseView) (i : ℕ) (found : Option X) → is_some found ≡ is_framed_at base i
    → IfSome found (λ x. ArePairsRead all (pairs_in_order (frame_at base i)) (kept x)) → IfSome found (λ x. AreSamePairs (kept_pairs all (kept x)) (frame_at base i).pairs)
ordered_pairs all kept base i None s e = tt
ordered_pairs all kept base i (Some x) s e = subst (λ w. AreSamePairs w (frame_at base i).pairs) (sym e.pairs) (framed_in_order base i (sym s))

pub ordered_numbered : {X : Type 0} (all : List (List ℕ)) (kept : X → List (NumberedSymbol × NumberedSymbol)) (base : BaseView) (i : ℕ) (found : Option X)
    → IfSome found (λ x. ArePairsRead all (pairs_in_order (frame_at base i)) (kept x)) → IfSome found (λ x. All (IsPairNumbered all) (kept x))
ordered_numbered all kept base i found e = grind (arith, common_steps) steps 200000

-- one more name with its number
pub numbers_push : (all : List (List ℕ)) (numbers : List ℕ) (names : List (List ℕ)) (number : ℕ) (name : List ℕ) → AreNameNumbers all numbers names → IsNameNumber all number name → AreNameNumbers all (numbers ++ number ∷ []) (names ++ name ∷ [])
numbers_push all numbers names number name a there = record {
  count = (let p = length_push numbers number in let q = length_push names name in omega arith);
  each = grind (arith, a.each, get_cases, slice_get_within, get_or-append, get_or_push) steps 200000;
}
