-- What a base says, from what is kept, and that it is right.
use Rattle.std.proofs.lemmas.{Grind.{common_steps}, List.{length-map, Elements.{All-nil}}, Bool.{false≢true, and_from, and_parts}}
use Rattle.std.proofs.lemmas.Option.{slice_get-map, slice_get_within, slice_get_cases, unwrap_or-slice_get, get_or_from_slice_get}
use Rattle.std.proofs.Common.{◌≡◌, ◌↔◌, ℕ, zero, suc, ◌≤◌, true, false, ◌&&◌, Option, Some, None, List, [], ◌∷◌, length, map, take, slice_get, unwrap_or, is_none, is_some, refl, sym, ◌∙◌, ap, subst}
use Rattle.std.{proofs.Common.{arith, All, IfSome}, specs.{Borrow.{Bor}, Option.{option_map}, List.{AllZip}}}
use Rattle.mm_frame.proofs.lemmas.base.BaseLemmas.{framed_in_order, item_there, kept_front_at, kept_item_at, none_told, row_none, item_beyond, kept_count}
use Rattle.mm_frame.proofs.lemmas.{base.ResolvingLemmas.{carrier_found, found_carrier}, faults.FoundFaults.{sound_found}, frames.FrameNumbers.{HasKind, frame_numbers, framed_some}}
use Rattle.mm_frame.{proofs.lemmas.{frames.SameFrames.{same_from_order}, lists.SharedValues.{value_there}, pairs.SharedPairs.{same_turned, same_joined}}, specs.Code.KeptPairLists.{list_kept}}
use Rattle.mm_frame.specs.Code.{KeptSortedLists.{pairs_or_none}, KeptSymbols.{AreSymbols}, KeptLists.{list_or_none, item_list}, KeptTables.{table_label}, BaseInside.{answers_of}}
use Rattle.mm_frame.specs.Code.{KeptRows.{rows_of, row_label, row_fault, is_shown_in}, KeptAssertions.{TellsFrame, TellsPairs}, KeptBase.{AreParts, frame_told, hypotheses_at, list_told}}
use Rattle.mm_frame.specs.Code.{KeptShared.{shared_values}, KeptSparse.{value_kept}}
use Rattle.mm_frame.specs.Language.{Base.{told_fault, AreLabelled, BaseView, before, said_at, fault_at, frame_at, is_framed_at, is_sound_at, ShareMandatory}, Sound.{fault, sound_items}}
use Rattle.mm_frame.specs.Language.{Framing.{active_pairs, expression}, Resolving.{IsCarrier}}
use Rattle.mm_frame.specs.{Language.Answering.{AreRows, HasNumber, IsLabelTold, IsExpressionTold, IsFrameTold, AreActiveTold, BaseAnswers, IsBaseBy}, declared.FrameNumber.{FrameNumber}}
use Rattle.mm_frame.specs.declared.{frame.Frame.{Frame}, parts.BaseParts.{BaseParts}, base.Base.TheInside.{Inside}, pair_lists.PairLists.{PairLists}}
use Rattle.mm_machine.specs.Language.{NumberedSymbols.{AreInOrder, AreSamePairsRead, symbols_of, kept_pairs, IsNumbered, ArePairsRead}, Names.{AreDistinct}, Frame.{Symbol, AreSamePairs}}
use Rattle.mm_machine.specs.declared.symbol.NumberedSymbol.{NumberedSymbol}
use Rattle.mm_statement.specs.Language.Item.{passed, Said, is_kind, Floating, is_labelled, is_read, item_at}
use Rattle.mm_store.specs.declared.item.Item as store

-- ---- rows that are reported, from rows that are kept

-- what is lent gives what is kept
pub lent_told : {L X Y : Type 0} (now : L → X) (f : X → Y) (lent : Option L) (kept : Option X) → option_map now lent ≡ kept → option_map (λ l. f (now l)) lent ≡ option_map f kept
lent_told now f lent kept e = grind (arith, common_steps) steps 200000

-- an element that is reported is one that is kept
told_from : {X Y : Type 0} (f : X → Y) (xs : List X) (n : ℕ) (y : Y) → slice_get (map f xs) n ≡ Some y → (x : X) × (slice_get xs n ≡ Some x) × (f x ≡ y)
told_from f [] n y e = cc
told_from f (x ∷ xs) zero y e = (x, refl, cc)
told_from f (x ∷ xs) (suc n) y e = told_from f xs n y e

rows_told : {X Y : Type 0} (f : X → Y) (tells : List Said → Said → X → Type 0) (told : List Said → Said → Y → Type 0) → ((front : List Said) (item : Said) (x : X) → tells front item x → told front item (f x))
    → (said : List Said) (rows : List X) → AreRows tells said rows → AreRows told said (map f rows)
rows_told f tells told step said rows are = grind (arith, common_steps, length-map rows f, are.each, told_from) steps 200000

-- the frame
pub hypotheses_told : (kept : Option Frame) → option_map (λ it. it.0) (frame_told kept) ≡ option_map (λ (frame : Frame). frame.hypotheses.items) kept
hypotheses_told kept = grind (arith, common_steps) steps 200000

-- all active pairs
actives_told : (all : List (List ℕ)) (lists : PairLists) (front : List Said) (item : Said) (number : Option ℕ) → TellsPairs all lists front item number → AreActiveTold all front item (list_told lists number)
actives_told all lists front item None t = record { some = t.some; pairs = tt; order = tt }
actives_told all lists front item (Some k) t =
    record {
      some = t.some;
      pairs = subst (λ o. AreSamePairsRead all (active_pairs front) (pairs_or_none o)) (sym (t.list k refl).there)
          (t.list k refl).read;
      order = subst (λ o. AreInOrder (pairs_or_none o)) (sym (t.list k refl).there) (t.list k refl).order;
    }

-- the expressions
expressions_told : (all : List (List ℕ)) (base : BaseView) (expressions : List (List NumberedSymbol)) → AreSymbols all (sound_items base) expressions → AreRows (IsExpressionTold all) base expressions
expressions_told all base expressions are = record {
  count = are.count ∙ kept_count base;
  each =
      λ n symbols e. record {
        expression =
            (λ t. ap (λ o. symbols_of all (list_or_none o)) (sym e)
            ∙ (let item = said_at base n in let parts = and_parts (is_sound_at base n) (is_read item.kind) t in
            let sound = none_told item.kind (fault (before base n) item) parts.0 in let there = item_there is_read refl base n parts.1 in
            are.each n item (kept_item_at base n item there sound) parts.1
            ∙ ap (λ w. expression w item) (kept_front_at base n item there)));
        numbered = subst (All (IsNumbered all)) (ap list_or_none e) (are.numbered n);
      };
}

-- ---- what is reported at a number

row_there : {X : Type 0} (tells : List Said → Said → X → Type 0) (said : List Said) (rows : List X) (i : ℕ) → AreRows tells said rows → slice_get said i ≡ Some (item_at said i) → (row : X) × (slice_get rows i ≡ Some row)
row_there tells said rows i are t = grind (arith, common_steps, slice_get_within said i (item_at said i) t, slice_get_cases rows i) steps 200000

-- the symbols that are kept of a sound item
pub expression_read : (all : List (List ℕ)) (base : BaseView) (expressions : List (List NumberedSymbol)) (i : ℕ) → AreRows (IsExpressionTold all) base expressions → (is_sound_at base i && is_read (said_at base i).kind) ≡ true
    → symbols_of all (item_list expressions i) ≡ expression (before base i) (said_at base i)
expression_read all base expressions i are t =
    let row =
    row_there (IsExpressionTold all) base expressions i are
    (item_there is_read refl base i (and_parts (is_sound_at base i) (is_read (said_at base i).kind) t).1) in
    ap (λ o. symbols_of all (list_or_none o)) row.1 ∙ (are.each i row.0 row.1).expression t

pub expression_numbered : (all : List (List ℕ)) (said : List Said) (expressions : List (List NumberedSymbol)) (i : ℕ) → AreRows (IsExpressionTold all) said expressions → All (IsNumbered all) (item_list expressions i)
expression_numbered all said expressions i are = by (slice_get expressions i) refl
  where
    by : (o : Option (List NumberedSymbol)) → slice_get expressions i ≡ o → All (IsNumbered all) (list_or_none o)
    by None e = All-nil (IsNumbered all)
    by (Some symbols) e = (are.each i symbols e).numbered

-- the pairs of a frame that is lent
pub order_told : (all : List (List ℕ)) (pairs : List (Symbol × Symbol)) (lent : Option (Bor Frame)) (kept : Option Frame) → option_map (λ frame. frame.now) lent ≡ kept → IfSome (frame_told kept) (λ it. ArePairsRead all pairs it.1)
    → IfSome lent (λ frame. ArePairsRead all pairs frame.now.pairs.items)
order_told all pairs lent kept e told = grind (arith, common_steps) steps 200000

-- what is kept of an item is right of it, if the answer for no row is right past the last item
told_at : {X Y : Type 0} (f : Option X → Y) (told : List Said → Said → Y → Type 0) (said : List Said) (kept : List (Option X)) → AreRows told said (map f kept) → (i : ℕ) → (length said ≤ i → told (sound_items (take i said)) (item_at said i) (f None))
    → told (sound_items (take i said)) (item_at said i) (f (value_kept kept i))
told_at f told said kept are i beyond = subst (λ o. told (sound_items (take i said)) (item_at said i) (f o)) (unwrap_or-slice_get kept i None) (by (slice_get kept i) refl)
  where
    by : (o : Option _) → slice_get kept i ≡ o → told (sound_items (take i said)) (item_at said i) (f (unwrap_or o None))
    by (Some row) e = are.each i (f row) (slice_get-map f kept i ∙ ap (option_map f) e)
    by None e = beyond (row_none told said (map f kept) i are (slice_get-map f kept i ∙ ap (option_map f) e))

-- the frame that is kept of an item
pub frame_in : (all : List (List ℕ)) (base : BaseView) (answers : BaseAnswers) (frames : List (Option Frame)) → map frame_told frames ≡ answers.frames → IsBaseBy all base answers → (i : ℕ)
    → IsFrameTold all (before base i) (said_at base i) (frame_told (value_kept frames i))
frame_in all base answers frames same is i =
    told_at frame_told (IsFrameTold all) base frames (subst (AreRows (IsFrameTold all) base) (sym same) is.frames) i
    (λ past. record { hypotheses = sym (grind (arith, common_steps, item_beyond) steps 200000); pairs = tt })

-- the list of active pairs that is kept of an item
pub active_in : (all : List (List ℕ)) (base : BaseView) (answers : BaseAnswers) (lists : PairLists) (numbers : List (Option ℕ)) → map (list_told lists) numbers ≡ answers.actives → IsBaseBy all base answers → (i : ℕ) (number other : Option ℕ)
    → number ≡ value_kept numbers i → number ≡ other → AreActiveTold all (before base i) (said_at base i) (list_told lists other)
active_in all base answers lists numbers same is i number other e o =
    subst (λ w. AreActiveTold all (before base i) (said_at base i) (list_told lists w)) (sym e ∙ o)
    (told_at (list_told lists) (AreActiveTold all) base numbers (subst (AreRows (AreActiveTold all) base) (sym same) is.actives) i
    (λ past. record { some = sym (grind (arith, common_steps, item_beyond) steps 200000); pairs = tt; order = tt }))

-- there is a list where there is a number of one
pub list_some : (lists : PairLists) (number : Option ℕ) → is_some number ≡ is_some (list_told lists number)
list_some lists None = refl
list_some lists (Some k) = refl

-- a list that two `$p` share
pub list_shared : (all : List (List ℕ)) (lists : PairLists) (base : BaseView) (i j k : ℕ) → AreActiveTold all (before base i) (said_at base i) (list_told lists (Some k))
    → AreActiveTold all (before base j) (said_at base j) (list_told lists (Some k)) → AreSamePairs (active_pairs (before base i)) (active_pairs (before base j))
list_shared all lists base i j k mine yours =
    let pairs = kept_pairs all (list_kept lists k) in
    same_joined (active_pairs (before base i)) pairs (active_pairs (before base j)) (same_turned pairs (active_pairs (before base i)) mine.pairs.pairs) yours.pairs.pairs

-- a frame that two assertions share
pub frame_shared : (all : List (List ℕ)) (base : BaseView) (i j : ℕ) (kept : Option Frame) → is_some kept ≡ true → IsFrameTold all (before base i) (said_at base i) (frame_told kept)
    → IsFrameTold all (before base j) (said_at base j) (frame_told kept) → ShareMandatory base base i j
frame_shared all base i j None some mine yours = absurd (false≢true some)
frame_shared all base i j (Some frame) some mine yours =
    let numbers = frame.hypotheses.items in
    let framed : (n : ℕ) → hypotheses_at base n ≡ Some numbers → is_framed_at base n ≡ true = λ n e. sym (framed_some (λ (frame : Frame). frame.hypotheses.items) (Some frame) base n (sym e)) in
    let first = framed i (sym mine.hypotheses) in
    let second = framed j (sym yours.hypotheses) in
    record {
      hypotheses = sym (frame_numbers base i numbers (sym mine.hypotheses)).are ∙ (frame_numbers base j numbers (sym yours.hypotheses)).are;
      pairs = same_from_order (frame_at base i) (frame_at base j) (framed_in_order base i first) (framed_in_order base j second) (sym mine.pairs.pairs ∙ yours.pairs.pairs);
    }

-- a number that is found is the one that is reported
pub number_told : (kept told : List (Option ℕ)) (i : ℕ) (found : Option ℕ) → found ≡ value_kept kept i → kept ≡ told → IfSome found (HasNumber told i)
number_told kept told i None e same = tt
number_told kept told i (Some k) e same = subst (λ w. HasNumber w i k) same (value_there kept i k (sym e))

-- what items share that have it by the numbers that are kept, they share by those that are reported
pub number_shared : (kept told : List (Option ℕ)) (i : ℕ) (found : Option ℕ) (Shares : ℕ → Type 0) → found ≡ value_kept kept i → kept ≡ told
    → ((j k : ℕ) → value_kept kept i ≡ Some k → value_kept kept j ≡ Some k → Shares j) → IfSome found (λ k. (j : ℕ) → HasNumber told j k → Shares j)
number_shared kept told i None Shares e same share = tt
number_shared kept told i (Some k) Shares e same share = λ j has. share j k (sym e) (get_or_from_slice_get kept j (Some k) None (ap (λ w. slice_get w j) same ∙ has))

-- past the last item none is a `$f`
pub float_none : (found : List store.Item) (said : List Said) (i : ℕ) → AllZip HasKind found said → slice_get found i ≡ None → false ≡ is_kind Floating (item_at said i).kind
float_none [] [] i z e = refl
float_none (x ∷ found) (y ∷ said) zero z e = cc
float_none (x ∷ found) (y ∷ said) (suc i) z e = float_none found said i z.1 e
float_none _ _ i z e = absurd z

-- ---- the item that carries a label

none_is : {X : Type 0} (o : Option X) → is_none o ≡ true → o ≡ None
none_is o e = grind (arith, common_steps) steps 200000

pub carrier_told : (base : BaseView) (rows : List (Option (List ℕ) × Option (ℕ × FrameNumber))) → AreRows IsLabelTold base rows → (label : List ℕ) (j : ℕ) → (slice_get rows j ≡ Some (Some label, None)) ↔ IsCarrier base label j
carrier_told base rows are label j = (
  to,
  (λ c. let p = and_parts (is_sound_at base j) (is_labelled (said_at base j).kind) c.shown in
      let row = row_there IsLabelTold base rows j are (item_there is_labelled refl base j p.1) in let told = are.each j row.0 row.1 in
      row.1 ∙ (λ k. Some ((told.label ∙ c.label_is) k, (told.fault ∙ none_is (fault_at base j) p.0) k))),
)
  where
    to : slice_get rows j ≡ Some (Some label, None) → IsCarrier base label j
    to e =
        let told = are.each j (Some label, None) e in
        record { shown = and_from (is_sound_at base j) (is_labelled (said_at base j).kind) (ap is_none (sym told.fault)) (sym told.labelled); label_is = sym told.label }

-- the tables know it
pub labels_told : (all : List (List ℕ)) (base : BaseView) (parts : BaseParts) → AreParts all base parts → (label : List ℕ) (j : ℕ) → (table_label parts.tables label ≡ Some j) ↔ (slice_get (rows_of parts.rows) j ≡ Some (Some label, None))
labels_told all base parts are label j =
    grind (arith, common_steps, carrier_found, carrier_told base (rows_of parts.rows) are.rows label j, found_carrier) steps 200000

-- the label and the fault of an item, and whether it is a sound one that has a label
pub label_told : (base : BaseView) (rows : List (Option (List ℕ) × Option (ℕ × FrameNumber))) → AreRows IsLabelTold base rows → (i : ℕ) → row_label (slice_get rows i) ≡ (said_at base i).label
label_told base rows are i = by (slice_get rows i) refl
  where
    by : (o : Option (Option (List ℕ) × Option (ℕ × FrameNumber))) → slice_get rows i ≡ o → row_label o ≡ (said_at base i).label
    by (Some row) e = (are.each i row e).label
    by None e = sym (ap (λ (item : Said). item.label) (item_beyond base i (row_none IsLabelTold base rows i are e)))

pub fault_told_at : (base : BaseView) (rows : List (Option (List ℕ) × Option (ℕ × FrameNumber))) → AreRows IsLabelTold base rows → (i : ℕ) → row_fault (slice_get rows i) ≡ fault_at base i
fault_told_at base rows are i = by (slice_get rows i) refl
  where
    by : (o : Option (Option (List ℕ) × Option (ℕ × FrameNumber))) → slice_get rows i ≡ o → row_fault o ≡ fault_at base i
    by (Some row) e = (are.each i row e).fault
    by None e =
        sym (ap (told_fault (before base i)) (item_beyond base i (row_none IsLabelTold base rows i are e))
        ∙ sound_found (before base i) passed (grind (arith, common_steps) steps 200000))

pub shown_told : (base : BaseView) (rows : List (Option (List ℕ) × Option (ℕ × FrameNumber))) → AreRows IsLabelTold base rows → (i : ℕ) → is_shown_in (slice_get rows i) ≡ (is_sound_at base i && is_labelled (said_at base i).kind)
shown_told base rows are i = by (slice_get rows i) refl
  where
    by : (o : Option (Option (List ℕ) × Option (ℕ × FrameNumber))) → slice_get rows i ≡ o → is_shown_in o ≡ (is_sound_at base i && is_labelled (said_at base i).kind)
    by (Some row) e = let told = are.each i row e in (λ j. (ap is_none told.fault) j && told.labelled j)
    by None e = grind (arith, common_steps, item_beyond, row_none IsLabelTold base rows i are e) steps 200000

-- what is kept of the items is right of them
pub base_told : (all : List (List ℕ)) (base : BaseView) (inside : Inside) → AreDistinct all → length inside.items.items ≡ length base → length base ≤ 4294967295 → AreLabelled base → AllZip HasKind inside.items.items base
    → AreParts all base inside.parts → IsBaseBy all base (answers_of inside)
base_told all base inside distinct count few labelled kinds parts =
    let lists = inside.parts.pair_lists in
    record {
      distinct = distinct;
      count = count;
      few = few;
      labelled = labelled;
      kinds = kinds;
      rows = parts.rows;
      expressions = expressions_told all base inside.parts.expressions parts.symbols;
      frames =
          rows_told frame_told (TellsFrame all) (IsFrameTold all)
          ((λ front item kept t. grind (arith, common_steps) steps 200000)) base (shared_values inside.parts.frames) parts.frames;
      actives = rows_told (list_told lists) (TellsPairs all lists) (AreActiveTold all) (actives_told all lists) base inside.parts.pair_numbers parts.pair_numbers;
      marks = parts.marks;
    }
