-- Lists of pairs that are compared as sets of unordered pairs.
use Rattle.std.proofs.Common.{◌≡◌, ◌<◌, ◌+◌, ℕ, suc, List, [], ◌∷◌, ◌++◌, length, take, get_or, sym, ◌∙◌, ap, subst, take-suc, arith, inl, inr, Contains, All, ◌↔◌, ◌⊎◌}
use Rattle.std.proofs.lemmas.{Option.{slice_get-get_or}, List.Elements.{All-contains, Contains-append_cases}}
use Rattle.mm_machine.specs.{declared.symbol.NumberedSymbol.{NumberedSymbol}, Language.{Frame.{Symbol, ArePair, AreSamePairs}, Names.{AreDistinct}}}
use Rattle.mm_machine.specs.Language.NumberedSymbols.{pair_of, kept_pairs, IsPairNumbered}
use Rattle.mm_frame.proofs.lemmas.{pairs.FramePairs.{each_pair}, lists.Members.{in_contains, contains_in, get_in, in_map, from_map}, frames.SameLemmas.{pair_from_reading}}

-- ---- the same unordered pairs

pub same_turned : (pairs others : List (Symbol × Symbol)) → AreSamePairs pairs others → AreSamePairs others pairs
same_turned pairs others s x y = ((s x y).1, (s x y).0)

pub same_joined : (a b c : List (Symbol × Symbol)) → AreSamePairs a b → AreSamePairs b c → AreSamePairs a c
same_joined a b c s t x y = (λ p. (t x y).0 ((s x y).0 p), λ p. (s x y).1 ((t x y).1 p))

-- ---- lists compared by numbers

-- the list has each of the pairs, in one order or the other
abbrev pub HasEitherWay : List (NumberedSymbol × NumberedSymbol) → List (NumberedSymbol × NumberedSymbol) → Type 0
HasEitherWay list pairs = (p : NumberedSymbol × NumberedSymbol) → Contains pairs p → Contains list p ⊎ Contains list (p.1, p.0)

-- the same list has them as they are
pub all_either_way : (mine yours : List (NumberedSymbol × NumberedSymbol)) → mine ≡ yours → HasEitherWay mine yours × HasEitherWay yours mine
all_either_way mine yours e = (λ p c. inl (subst (λ w. Contains w p) (sym e) c), λ p c. inl (subst (λ w. Contains w p) e c))

-- each pair of symbols of the one list is one of the other
abbrev pub HasPairs : List (Symbol × Symbol) → List (Symbol × Symbol) → Type 0
HasPairs list pairs = (x y : Symbol) → ArePair pairs x y → ArePair list x y

-- a pair that is kept is read
read_here : (all : List (List ℕ)) (list : List (NumberedSymbol × NumberedSymbol)) (p : NumberedSymbol × NumberedSymbol) → Contains list p → Contains (kept_pairs all list) (pair_of all p)
read_here all list p c = in_contains (pair_of all p) (kept_pairs all list) (in_map (pair_of all) p list (contains_in p list c))

-- what lists of numbers have, their readings have
pub read_each : (all : List (List ℕ)) (list pairs : List (NumberedSymbol × NumberedSymbol)) → HasEitherWay list pairs → HasPairs (kept_pairs all list) (kept_pairs all pairs)
read_each all list pairs h = each_pair (kept_pairs all pairs) (kept_pairs all list) (λ x y c.
    let r = from_map (pair_of all) (x, y) pairs (contains_in (x, y) (kept_pairs all pairs) c) in
    let there : ArePair (kept_pairs all list) (pair_of all r.0).0 (pair_of all r.0).1 = elim (h r.0 (in_contains r.0 pairs r.1)) [
      | inl a ↦ inl (read_here all list r.0 a)
      | inr b ↦ inr (read_here all list ((r.0).1, (r.0).0) b)
    ] in
    subst (λ (w : Symbol × Symbol). ArePair (kept_pairs all list) w.0 w.1) r.2 there)

-- and what the readings have, the lists of numbers have
module _ (all : List (List ℕ)) (distinct : AreDistinct all) (list pairs : List (NumberedSymbol × NumberedSymbol)) (m : All (IsPairNumbered all) list) (n : All (IsPairNumbered all) pairs) where
  -- the pair with this reading is this one
  back : (p : NumberedSymbol × NumberedSymbol) → IsPairNumbered all p → Contains (kept_pairs all list) (pair_of all p) → Contains list p
  back p numbered c =
      let r = from_map (pair_of all) (pair_of all p) list (contains_in (pair_of all p) (kept_pairs all list) c) in
      let there = in_contains r.0 list r.1 in
      subst (Contains list) (pair_from_reading all distinct r.0 p (All-contains (IsPairNumbered all) list r.0 m there) numbered r.2) there

  pub each_read : HasPairs (kept_pairs all list) (kept_pairs all pairs) → HasEitherWay list pairs
  each_read h p c =
      let numbered = All-contains (IsPairNumbered all) pairs p n c in
      elim (h (pair_of all p).0 (pair_of all p).1 (inl (read_here all pairs p c))) [
        | inl a ↦ inl (back p numbered a)
        | inr b ↦ inr (back (p.1, p.0) (numbered.1, numbered.0) b)
      ]

-- two lists by distinct names are of the same pairs exactly when each has those of the other
pub same_either_way : (all : List (List ℕ)) → AreDistinct all → (mine yours : List (NumberedSymbol × NumberedSymbol)) → All (IsPairNumbered all) mine
    → All (IsPairNumbered all) yours → (HasEitherWay mine yours × HasEitherWay yours mine) ↔ AreSamePairs (kept_pairs all mine) (kept_pairs all yours)
same_either_way all distinct mine yours m n = (
  λ h. λ x y. (read_each all yours mine h.1 x y, read_each all mine yours h.0 x y),
  λ s. (each_read all distinct mine yours m n (λ x y p. (s x y).1 p), each_read all distinct yours mine n m (λ x y p. (s x y).0 p)),
)

-- the same holds of the pairs that these lists report
pub same_told : (all : List (List ℕ)) → AreDistinct all → (mine yours : List (NumberedSymbol × NumberedSymbol)) (pairs others : List (Symbol × Symbol)) → All (IsPairNumbered all) mine → All (IsPairNumbered all) yours
    → AreSamePairs (kept_pairs all mine) pairs → AreSamePairs (kept_pairs all yours) others → (HasEitherWay mine yours × HasEitherWay yours mine) ↔ AreSamePairs pairs others
same_told all distinct mine yours pairs others m n s t =
    let same = same_either_way all distinct mine yours m n in (
      λ h. same_joined pairs (kept_pairs all mine) others (same_turned (kept_pairs all mine) pairs s) (same_joined (kept_pairs all mine) (kept_pairs all yours) others (same.0 h) t),
      λ e. same.1 (same_joined (kept_pairs all mine) pairs (kept_pairs all yours) s (same_joined pairs others (kept_pairs all yours) e (same_turned (kept_pairs all yours) others t))),
    )

-- an element that is in the list
pub element_there : {X : Type 0} (xs : List X) (n : ℕ) (d : X) → n < length xs → Contains xs (get_or xs n d)
element_there xs n d l = in_contains (get_or xs n d) xs (get_in (get_or xs n d) xs n (slice_get-get_or xs n d l))

-- one more pair that the list has
pub either_way_more : (list pairs : List (NumberedSymbol × NumberedSymbol)) (n : ℕ) (d : NumberedSymbol × NumberedSymbol) → n < length pairs
    → HasEitherWay list (take n pairs) → Contains list (get_or pairs n d) ⊎ Contains list ((get_or pairs n d).1, (get_or pairs n d).0)
    → HasEitherWay list (take (n + 1) pairs)
either_way_more list pairs n d l so_far new p c =
    let next : take (n + 1) pairs ≡ take n pairs ++ get_or pairs n d ∷ [] = (let z : n + 1 ≡ suc n = omega arith in ap (λ k. take k pairs) z ∙ take-suc pairs n d l) in
    elim (Contains-append_cases (take n pairs) (get_or pairs n d ∷ []) p (subst (λ w. Contains w p) next c)) [
      | inl there ↦ so_far p there
      | inr last ↦ grind (arith, contains_in p (get_or pairs n d ∷ []) last) steps 200000
    ]
