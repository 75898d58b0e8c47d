-- Where pieces begin, after a change of their list.
use Rattle.std.proofs.lemmas.{Grind.{common_steps}, Bool.{cases_eq}, List.{length-map, get_or-set_same, get_or-set_other, take-map}}
use Rattle.std.{proofs.Common.{◌≡◌, ℕ, suc, ◌+◌, ◌<◌, ◌≤◌, List, ◌∷◌, length, deque_len, take, get_or, set, ap, arith}, specs.List.{concat, insert, remove}}
use Rattle.mm_store.specs.{declared.{start.Start.{Start}, file_text.FileText.{FileText}}, Language.Pieces.{Pieces, text_under}, Code.{Starts.{KnowsStarts}, Lines.{IsStart, AreStartsTo}}}

pub take_insert : (xs : List ℕ) (at key n : ℕ) → n ≤ at → at ≤ length xs → take n (insert xs at key) ≡ take n xs
take_insert (x ∷ xs) (suc at) key (suc n) le there = ap (λ ys. x ∷ ys) (take_insert xs at key n (omega arith) (omega arith))
take_insert xs at key n le there = grind (arith, common_steps) steps 200000

pub take_remove : (xs : List ℕ) (at n : ℕ) → n ≤ at → take n (remove xs at) ≡ take n xs
take_remove (x ∷ xs) (suc at) (suc n) le = ap (λ ys. x ∷ ys) (take_remove xs at n (omega arith))
take_remove xs at n le = grind (arith, common_steps) steps 200000

pub take_set : (xs : List ℕ) (at key n : ℕ) → n ≤ at → take n (set xs at key) ≡ take n xs
take_set (x ∷ xs) (suc at) key (suc n) le = ap (λ ys. x ∷ ys) (take_set xs at key n (omega arith))
take_set xs at key n le = grind (arith, common_steps) steps 200000

-- what is known of the keys of a file holds of other keys as far as both are one
pub known_same : (p : Pieces) (v w : FileText) → w.known ≤ v.known → w.known ≤ length w.keys.items → ((n : ℕ) → n ≤ w.known → take n w.keys.items ≡ take n v.keys.items)
    → w.starts ≡ v.starts → KnowsStarts p v → KnowsStarts p w
known_same p v w less within same starts knows = grind (arith, length-map w.keys.items (text_under p), knows.starts, take-map) steps 200000

-- and if room was made
pub starts_stay : (p : Pieces) (v w : FileText) → w.keys.items ≡ v.keys.items → w.known ≡ v.known
    → ((number : ℕ) (default : Start) → number ≤ deque_len v.keys → get_or w.starts.items number default ≡ get_or v.starts.items number default)
    → KnowsStarts p v → KnowsStarts p w
starts_stay p v w items known same knows = grind (arith, common_steps, length-map v.keys.items (text_under p), knows.starts) steps 200000

-- one start more
pub starts_more : (texts : List (List ℕ)) (starts : List Start) (last : ℕ) (start : Start) → suc last < length starts → IsStart (concat (take (last + 1) texts)) start
    → AreStartsTo last texts starts → AreStartsTo (last + 1) texts (set starts (last + 1) start)
starts_more texts starts last start there is are = grind (arith, cases_eq, get_or-set_same, get_or-set_other) steps 200000
