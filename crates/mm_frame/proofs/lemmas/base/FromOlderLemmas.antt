-- The items so far are the first ones of an older base: what it says of its next item is right of the next item.
use Rattle.std.proofs.lemmas.{Grind.{common_steps}, List.{length_push, take-append-le}, Option.{slice_get_within, get_or_from_slice_get}}
use Rattle.std.proofs.Common.{◌≡◌, ℕ, zero, suc, ◌<◌, Bool, true, Option, Some, List, [], ◌∷◌, ◌++◌, length, take, slice_get, nat_eq, refl, sym, ◌∙◌, ap, subst, arith, take-suc, take-append-drop}
use Rattle.std.specs.{HashMap.{get}, List.{AllZip}}
use Rattle.mm_store.specs.Language.FilesView.{FilesView}
use Rattle.mm_frame.specs.{declared.pair_lists.PairLists.{PairLists}, Language.{Sound.{sound_items}, Framing.{active_pairs}, Base.{BaseView, before}, Answering.{AreRows, BaseAnswers}}}
use Rattle.mm_frame.specs.Code.{KeptAssertions.{TellsPairs}, KeptPairLists.{AreListsFor, IsList, KeepsLists}, KeptSparse.{value_kept}, KnownItem.{IsSameItem}, FromOlder.{AreFirst, AreFirstIf}}
use Rattle.mm_frame.proofs.lemmas.{pairs.{PairListLemmas.{list_stays}, SharedPairs.{same_joined}}, reading.KnownItems.{same_says_same}, lists.SharedValues.{value_there}}
use Rattle.mm_machine.specs.Language.{Frame.{Symbol, AreSamePairs}, NumberedSymbols.{kept_pairs}}
use Rattle.mm_statement.specs.Language.{Item.{Said, item_at}, Statement.{OneRangeSaysOne, Says}}
use Rattle.mm_store.specs.declared.item.Item as store

-- ---- the first items

-- the items before the next one are those so far
pub before_next : (base : BaseView) (said : List Said) (i : ℕ) → AreFirst base said → i ≡ length said → before base i ≡ sound_items said
before_next base said i front number = ap (before base) number ∙ ap sound_items front

-- and so are those before an earlier one
first_take : (base : BaseView) (said : List Said) (j : ℕ) → AreFirst base said → j < length said → take j base ≡ take j said
first_take base said j front l = grind (arith, common_steps, take-append-le, take-append-drop) steps 200000

-- the items that are found, and what they say, at one place
there_at : (files : FilesView) (found : List store.Item) (said : List Said) (i : ℕ) (item : store.Item) → AllZip (Says files) found said → slice_get found i ≡ Some item → slice_get said i ≡ Some (item_at said i)
there_at files [] said i item h e = cc
there_at files (x ∷ found) (y ∷ said) zero item h e = refl
there_at files (x ∷ found) (y ∷ said) (suc i) item h e = there_at files found said i item h.1 e
there_at files (x ∷ found) [] i item h e = absurd h

-- so are those up to an item that is the same there
pub first_after : (same : Bool) (files : FilesView) (answers : BaseAnswers) (said : List Said) (item : store.Item) (i : ℕ) (one : Said) → OneRangeSaysOne → (same ≡ true → i ≡ length said)
    → IsSameItem answers.items i item → Says files item one → AreFirstIf same files answers said → AreFirstIf same files answers (said ++ one ∷ [])
first_after same files answers said item i one law number again says first t b each =
    let n = length said in
    let here = subst (λ k. IsSameItem answers.items k item) (number t) again in
    let there = there_at files answers.items b n here.was each here.there ∙ ap Some (same_says_same files answers.items b n item law each here one says) in
    let within = slice_get_within b n one there in
    let count : length (said ++ one ∷ []) ≡ suc n = (let p = length_push said one in omega arith) in
    ap (λ k. take k b) count ∙ take-suc b n one within ∙ (λ i. first t b each i ++ get_or_from_slice_get b n one one there i ∷ [])

-- ---- the lists of active pairs

-- a list that is shared
list_shared : (all : List (List ℕ)) (lists : PairLists) (k : ℕ) (pairs others : List (Symbol × Symbol)) → IsList all lists k pairs → AreSamePairs pairs others → IsList all lists k others
list_shared all lists k pairs others is same = record {
  list = is.list;
  there = is.there;
  read = record { pairs = same_joined (kept_pairs all is.list.items) pairs others is.read.pairs same; numbered = is.read.numbered };
  order = is.order;
}

pub list_here : (all : List (List ℕ)) (lists : PairLists) (base : BaseView) (said : List Said) (numbers : List (Option ℕ)) (j i k : ℕ) → AreFirst base said → i ≡ length said → AreRows (TellsPairs all lists) said numbers
    → Some k ≡ value_kept numbers j → AreSamePairs (active_pairs (before base j)) (active_pairs (before base i)) → IsList all lists k (active_pairs (sound_items said))
list_here all lists base said numbers j i k front number rows e shared =
    let row = value_there numbers j k (sym e) in
    let within = slice_get_within numbers j (Some k) row in
    let earlier : j < length said = omega arith in
    let told = rows.each j (Some k) row in
    let same = ap sound_items (first_take base said j front earlier) in
    list_shared all lists k (active_pairs (sound_items (take j said))) (active_pairs (sound_items said)) (told.list k refl)
    (subst (λ w. AreSamePairs (active_pairs w) (active_pairs (sound_items said))) same (subst (λ w. AreSamePairs (active_pairs (before base j)) (active_pairs w)) (before_next base said i front number) shared))

-- more lists, and none is made for other counts
pub lists_stay : (all : List (List ℕ)) (before : List Said) (old new : PairLists) → KeepsLists old new → new.by_count ≡ old.by_count → AreListsFor all before old → AreListsFor all before new
lists_stay all before old new keeps same by_count count k e =
    grind (arith, common_steps, list_stays all old new k (active_pairs (take count before)) keeps (by_count count k (ap (λ w. get nat_eq w count) (sym same) ∙ e)).list) steps 200000

-- the same lists
pub list_kept_on : (all : List (List ℕ)) (old new : PairLists) (k : ℕ) (pairs : List (Symbol × Symbol)) → new.lists ≡ old.lists → IsList all old k pairs → IsList all new k pairs
list_kept_on all old new k pairs same is = record { list = is.list; there = ap (λ w. slice_get w k) same ∙ is.there; read = is.read; order = is.order }
