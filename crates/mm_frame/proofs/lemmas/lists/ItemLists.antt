-- Lists of items, each a part of one list: they stay while more elements come, and one item more.
use Rattle.std.proofs.{Common.{◌≡◌, ℕ, zero, suc, ◌≤◌, List, [], ◌∷◌, ◌++◌, length, map, get_or, refl, sym, ◌∙◌, ap, arith, All, length-append}, lemmas.Grind.{common_steps}}
use Rattle.std.{proofs.lemmas.List.{take-append-le, drop-append-le, length-drop, map-append, take_all, Elements.{All-head, All-tail, All-weaker}}, specs.List.{slice_range}}
use Rattle.mm_frame.specs.{declared.item_lists.Part.{Part}, Code.KeptLists.{IsPartOf, elements_of, item_list, no_part}}

-- a part of a longer list
range_front : {X : Type 0} (xs more : List X) (from end : ℕ) → from ≤ end → end ≤ length xs → slice_range (xs ++ more) from end ≡ slice_range xs from end
range_front xs more from end l m = grind (arith, common_steps, drop-append-le, length-drop, take-append-le) steps 200000

lists_stay : {X : Type 0} (xs more : List X) (parts : List Part) → All (IsPartOf (length xs)) parts → map (elements_of (xs ++ more)) parts ≡ map (elements_of xs) parts
lists_stay xs more [] a = refl
lists_stay xs more (p ∷ parts) a =
    let w = All-head (IsPartOf (length xs)) p parts a in
    (λ i. range_front xs more p.start p.end w.0 w.1 i ∷ lists_stay xs more parts (All-tail (IsPartOf (length xs)) p parts a) i)

-- one more item, with a list behind the others
pub list_added : {X : Type 0} (xs own all : List X) (parts : List Part) (part : Part) → All (IsPartOf (length xs)) parts → all ≡ xs ++ own → part.start ≡ length xs → part.end ≡ length all
    → map (elements_of all) (parts ++ part ∷ []) ≡ map (elements_of xs) parts ++ own ∷ []
list_added xs own all parts part are whole start end =
    map-append (elements_of all) parts (part ∷ []) ∙ (λ i. before i ++ last i ∷ [])
  where
    before : map (elements_of all) parts ≡ map (elements_of xs) parts
    before = ap (λ w. map (elements_of w) parts) whole ∙ lists_stay xs own parts are

    last : elements_of all part ≡ own
    last = grind (arith, common_steps, take_all, length-append) steps 200000

-- a part that is there, or none
pub part_within : (count : ℕ) (parts : List Part) (n : ℕ) → All (IsPartOf count) parts → IsPartOf count (get_or parts n no_part)
part_within count [] n a = (omega arith, omega arith)
part_within count (p ∷ parts) zero a = All-head (IsPartOf count) p parts a
part_within count (p ∷ parts) (suc n) a = part_within count parts n (All-tail (IsPartOf count) p parts a)

pub list_of : {X : Type 0} (xs : List X) (parts : List Part) (n : ℕ) → item_list (map (elements_of xs) parts) n ≡ elements_of xs (get_or parts n no_part)
list_of xs [] n = refl
list_of xs (p ∷ parts) zero = refl
list_of xs (p ∷ parts) (suc n) = list_of xs parts n

-- one more item, with the list of an earlier one
pub older_list : {X : Type 0} (xs : List X) (parts : List Part) (n : ℕ) → map (elements_of xs) (parts ++ get_or parts n no_part ∷ []) ≡ map (elements_of xs) parts ++ item_list (map (elements_of xs) parts) n ∷ []
older_list xs parts n =
    map-append (elements_of xs) parts (get_or parts n no_part ∷ []) ∙ ap (λ l. map (elements_of xs) parts ++ l ∷ []) (sym (list_of xs parts n))
