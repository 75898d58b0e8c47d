-- A table by the keys of a list's symbols.
use Rattle.std.proofs.Common.{rules, ◌≡◌, ◌≢◌, ℕ, ◌+◌, ◌<◌, ◌≤◌, ◌⊎◌, Some, List, [], ◌∷◌, ◌++◌, length, get_or, refl, sym, ◌∙◌, ap, subst, arith, inl, inr, length-append, length-set, get_or-set_same}
use Rattle.std.proofs.{Common.{get_or-set_other, slice_get, slice_index, slice_set, Contains}, Math.Decide.{ℕ_discrete}, lemmas.Option.{same_Some, slice_get_within}}
use native.Mathlib.Decide.{dec_lt}
use Rattle.mm_machine.{specs.Language.{Frame.{Symbol}, Keys.{AreKeyPlaces, AreNumbered, home_at}}, proofs.lemmas.{machine.ApartLemmas.{front_at, last_at}, lists.Members.{contains_at, contains_get}}}

pub marked_more : (key : Symbol → ℕ) (xs : List Symbol) (before after : List ℕ) (n : ℕ) (x : Symbol) → slice_get xs n ≡ Some x → after ≡ slice_set before (key x) n → AreKeyPlaces key xs before n → AreKeyPlaces key xs after (n + 1)
marked_more key xs before after n x at e f i y l at_y room =
    let count = ap length e ∙ length-set before (key x) n in
    let room_before : key y < length before = omega (arith, room) in
    elim (ℕ_discrete (key y) (key x)) [
      | yes s ↦
          let here : slice_index after (key y) ≡ n =
          ap (λ k. get_or after k 0) s ∙ ap (λ w. get_or w (key x) 0) e ∙ get_or-set_same before (key x) n 0 (omega arith) in
          (omega arith, (x, ap (slice_get xs) here ∙ at, sym s))
      | no m ↦
          let here : slice_index after (key y) ≡ slice_index before (key y) = ap (λ w. get_or w (key y) 0) e ∙ get_or-set_other before (key x) (key y) n 0 m in
          let other : i ≢ n = λ same. m (ap key (same_Some y x (sym at_y ∙ ap (slice_get xs) same ∙ at))) in
          let b = f i y (omega (arith, other)) at_y room_before in
          let low = b.0 in
          (omega arith, (b.1.0, ap (slice_get xs) here ∙ b.1.1, b.1.2))
    ]

-- what is in the list is found by its key
pub marked_found : (key : Symbol → ℕ) (xs : List Symbol) (places : List ℕ) (n : ℕ) (y : Symbol) → length xs ≤ n → AreKeyPlaces key xs places n
    → Contains xs y → key y < length places → (x : Symbol) × (slice_get xs (slice_index places (key y)) ≡ Some x) × (key x ≡ key y)
marked_found key xs places n y l f c room = (f c.0 y (omega arith) (contains_get xs y c) room).1

-- one variable more, which is not there yet
pub numbered_more : (key : Symbol → ℕ) (all : List Symbol) (before after : List ℕ) (v : Symbol) → (Contains all v → ⊥) → after ≡ slice_set before (home_at key (length before) v) (length all)
    → AreNumbered key all before → AreNumbered key (all ++ v ∷ []) after
numbered_more key all before after v new e f =
    let count : length after ≡ length before = ap length e ∙ length-set before (home_at key (length before) v) (length all) in
    record {
      once = search (rules, contains_at, place);
      table = subst (λ k. AreKeyPlaces (home_at key k) (all ++ v ∷ []) after (length (all ++ v ∷ []))) (sym count)
          (subst (AreKeyPlaces (home_at key (length before)) (all ++ v ∷ []) after) (sym (length-append all (v ∷ [])))
          (marked_more (home_at key (length before)) (all ++ v ∷ []) before after (length all) v (last_at all v (length all) refl) e
          (λ i x l at room. (let b = f.table i x l (sym (front_at all (v ∷ []) i l) ∙ at) room in
          (b.0, (b.1.0, front_at all (v ∷ []) (slice_index before (home_at key (length before) x)) b.0 ∙ b.1.1, b.1.2))))));
    }
  where
    place : (m : ℕ) (w : Symbol) → slice_get (all ++ v ∷ []) m ≡ Some w → (slice_get all m ≡ Some w) ⊎ ((m ≡ length all) × (v ≡ w))
    place m w at = elim (dec_lt m (length all)) [
      | yes l ↦ inl (sym (front_at all (v ∷ []) m l) ∙ at)
      | no n ↦
          let last : m ≡ length all = omega (arith, n, slice_get_within (all ++ v ∷ []) m w at, length-append all (v ∷ [])) in
          inr (last, same_Some v w (sym (last_at all v m last) ∙ at))
    ]
