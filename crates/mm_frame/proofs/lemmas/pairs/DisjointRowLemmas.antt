-- The table of pairs: its rows after a write and after one more item, and what they say of active pairs.
use Rattle.std.proofs.Common.{Global, Vec, cond, ◌≡◌, ◌≢◌, ℕ, zero, suc, ◌+◌, ◌<◌, Bool, true, false, Some, List, [], ◌∷◌, ◌++◌, length, take, drop, slice_get, get_or, refl, sym, ◌∙◌, ap, subst}
use Rattle.std.proofs.{Common.{take-suc, arith, inl, inr, ◌⊎◌, Contains, MatchBool}, lemmas.{List.{length-set, get_or-set_same}, Grind.{common_steps}, Bool.{false≢true, false_from_ne_true}}}
use Rattle.std.{proofs.{lemmas.Option.{same_Some, get_or_from_slice_get, slice_get_within, slice_get-get_or}, Math.ListN.{set}}, specs.Vec.{with_item}}
use Rattle.mm_frame.proofs.lemmas.frames.Frames.{from_pairs}
use Rattle.mm_frame.proofs.lemmas.lists.Members.{get_taken, in_flat, In, in_contains, contains_in, in_left, in_right, in_cases, in_map, from_map, in_get, get_in, has_in, in_has}
use Rattle.mm_frame.proofs.lemmas.lists.Rising.{rising_front, rising_more, in_among, among_in}
use Rattle.mm_frame.proofs.lemmas.pairs.ActivePairLemmas.{item_pairs, active_at_number, number_of_active, SameNames, in_order, found_pair, to_paired, pair_here, pair_turned, AreUnrepeated}
use Rattle.mm_frame.proofs.lemmas.{pairs.ActivePairLemmas.{disjoint_unrepeated, from_active_pairs, apart_active}, scope.BlockLemmas.{get_front, get_last, get_cases}}
use Rattle.mm_frame.{proofs.lemmas.scope.EndLemmas.{active_at_front, active_by_marks}, specs.Language.{Framing.{pairs_of, symbol, expression, active_pairs}, Scope.{active}, Marks.{Mark}}}
use Rattle.mm_frame.specs.{Language.{Sound.{IsSound, AreSound}, Answering.{are_paired}}, declared.disjoint_rows.DisjointRows.{DisjointRows}, Code.BlockMarks.{stays_by, block_marks}}
use Rattle.mm_frame.specs.Code.{KeptActive.{IsPruned}, LastItems.{IsRising, is_active_at}, Numbers.{IsNameNumber, AreNameNumbers}, PairOrder.{is_among}, KeptScope.{taken}}
use Rattle.mm_frame.specs.Code.KeptDisjointRows.{row_at, Puts, PutsAll, AreOnce, IsDisjointAt, IsRow, KnowsPairs, IsCommon, ReadsPairs}
use native.Mathlib.Decide.{dec_lt}
use Rattle.mm_machine.specs.Language.{Frame.{Symbol}, Names.{AreDistinct}, NumberedSymbols.{as_variable}}
use Rattle.mm_statement.specs.Language.Item.{Said, is_kind, Disjoint, has}

-- one row in the place of another
pub get_set_here : {X : Type 0} (xs : List X) (n : ℕ) (y : X) → n < length xs → slice_get (set xs n y) n ≡ Some y
get_set_here xs n y l = slice_get-get_or (set xs n y) n y (omega (arith, length-set xs n y)) ∙ ap Some (get_or-set_same xs n y y l)

pub get_set_other : {X : Type 0} (xs : List X) (n m : ℕ) (y : X) → (m ≡ n → ⊥) → slice_get (set xs n y) m ≡ slice_get xs m
get_set_other (x ∷ xs) zero zero y apart = absurd (apart refl)
get_set_other (x ∷ xs) (suc n) (suc m) y apart = get_set_other xs n m y (λ e. apart (ap suc e))
get_set_other _ _ _ y apart = refl

pub puts_row : (old grown : DisjointRows) (marks : List Mark) (name number : ℕ) (left : List ℕ) (row pushed : Vec ℕ Global) → name < length grown.rows.items → ((n : ℕ) → row_at grown n ≡ row_at old n)
    → row ≡ get_or grown.rows.items name row → IsPruned marks row.items left → pushed.items ≡ left ++ number ∷ [] → Puts old marks name number (record { rows = with_item grown.rows name pushed })
puts_row old grown marks name number left row pushed there same is pruned added = grind (arith, common_steps, get_set_here, get_set_other, slice_get-get_or) steps 500000

pub puts_more : (old mid new : DisjointRows) (marks : List Mark) (names : List ℕ) (k number : ℕ) → AreOnce names → k < length names
    → PutsAll old marks (take k names) number mid → Puts mid marks (get_or names k 0) number new → PutsAll old marks (take (k + 1) names) number new
puts_more old mid new marks names k number once l a p =
    let others : (n : ℕ) → (Contains (take k names ++ x ∷ []) n → ⊥) → row_at new n ≡ row_at old n =
    λ n out. p.others n (λ e. out (in_contains n (take k names ++ x ∷ []) (in_right n (take k names) (x ∷ []) (inl (sym e)))))
    ∙ a.others n (λ c. out (in_contains n (take k names ++ x ∷ []) (in_left n (take k names) (x ∷ []) (contains_in n (take k names) c)))) in
    subst (λ w. PutsAll old marks w number new) (sym (let z : k + 1 ≡ suc k = omega arith in ap (λ j. take j names) z ∙ take-suc names k 0 l))
    (record { each = λ n c. each n (in_cases n (take k names) (x ∷ []) (contains_in n (take k names ++ x ∷ []) c)); others = others })
  where
    x : ℕ
    x = get_or names k 0

    new_one : In x (take k names) → ⊥
    new_one =
        (λ h. let g = in_get x (take k names) h in
        let f = get_taken names k g.0 x g.1 in
        let same = once g.0 k x f.1 (slice_get-get_or names k 0 l) in omega arith)

    each : (n : ℕ) → In n (take k names) ⊎ In n (x ∷ []) → (left : List ℕ) × IsPruned marks (row_at old n) left × (row_at new n ≡ left ++ number ∷ [])
    each n (inl h) =
        let r = a.each n (in_contains n (take k names) h) in
        (r.0, r.1, p.others n (λ e. new_one (subst (λ m. In m (take k names)) e h)) ∙ r.2)
    each n (inr (inl e)) = subst (λ m. (left : List ℕ) × IsPruned marks (row_at old m) left × (row_at new m ≡ left ++ number ∷ [])) e (
      p.left,
      subst (λ row. IsPruned marks row p.left) (a.others x (λ c. new_one (contains_in x (take k names) c))) p.pruned,
      p.here,
    )
    each n (inr (inr z)) = absurd z

-- one more item
pub disjoint_front : (before : List Said) (item : Said) (name : List ℕ) (n : ℕ) → IsDisjointAt before name n → IsDisjointAt (before ++ item ∷ []) name n
disjoint_front before item name n d = record { item = d.item; there = get_front before item d.item n d.there; disjoint = d.disjoint; named = d.named }

pub disjoint_cases : (before : List Said) (item : Said) (name : List ℕ) (n : ℕ) → IsDisjointAt (before ++ item ∷ []) name n → IsDisjointAt before name n ⊎ ((n ≡ length before) × (is_kind Disjoint item.kind ≡ true) × (has item.symbols name ≡ true))
disjoint_cases before item name n d = grind (arith, common_steps, get_cases before item d.item n d.there) steps 200000

pub active_before : (before : List Said) (item : Said) (name : List ℕ) (n : ℕ) → IsDisjointAt before name n → is_active_at (before ++ item ∷ []) n ≡ true → is_active_at before n ≡ true
active_before before item name n d a = active_at_front before item n (slice_get_within before n d.item d.there) a

-- which is no `$d` that has the name
row_stays : (before : List Said) (item : Said) (name : List ℕ) (row : List ℕ) → (is_kind Disjoint item.kind ≡ true → has item.symbols name ≡ true → ⊥) → IsRow before name row → IsRow (before ++ item ∷ []) name row
row_stays before item name row out r = record {
  rising = r.rising;
  there = λ n c. disjoint_front before item name n (r.there n c);
  cover = λ n d a. elim (disjoint_cases before item name n d) [
    | inl old ↦ r.cover n old (active_before before item name n old a)
    | inr new ↦ absurd (out new.1 new.2)
  ];
}

pub pairs_other : (all : List (List ℕ)) (before : List Said) (item : Said) (table : DisjointRows) → is_kind Disjoint item.kind ≡ false → KnowsPairs all before table → KnowsPairs all (before ++ item ∷ []) table
pairs_other all before item table d k n name there = row_stays before item name (row_at table n) (λ t h. false≢true (sym d ∙ t)) (k n name there)

-- an item that is not sound, or no `$d`
not_disjoint : (item : Said) (sound : Bool) → (sound ≡ true → is_kind Disjoint item.kind ≡ false) → is_kind Disjoint (taken sound item).kind ≡ false
not_disjoint item true h = h refl
not_disjoint item false h = refl

pub pairs_passed : (all : List (List ℕ)) (before : List Said) (item : Said) (sound : Bool) (table : DisjointRows) → (sound ≡ true → is_kind Disjoint item.kind ≡ false)
    → KnowsPairs all before table → KnowsPairs all (before ++ taken sound item ∷ []) table
pairs_passed all before item sound table h k = pairs_other all before (taken sound item) table (not_disjoint item sound h) k

-- which is a `$d` that has the name
row_next : (before : List Said) (item : Said) (name : List ℕ) (row left : List ℕ) (marks : List Mark) → is_kind Disjoint item.kind ≡ true → has item.symbols name ≡ true → marks ≡ block_marks before → IsRow before name row → IsPruned marks row left
    → IsRow (before ++ item ∷ []) name (left ++ length before ∷ [])
row_next before item name row left marks d h m r p = record {
  rising =
      rising_more left (length before) (rising_front left p.dropped (subst IsRising p.parts r.rising))
      (λ n i. (let at = r.there n (in_contains n row (subst (In n) (sym p.parts) (in_left n left p.dropped i))) in slice_get_within before n at.item at.there));
  there = λ n c. there n (in_cases n left (length before ∷ []) (contains_in n (left ++ length before ∷ []) c));
  cover = λ n at a. in_contains n (left ++ length before ∷ []) (elim (disjoint_cases before item name n at) [
    | inl before_it ↦ in_left n left (length before ∷ [])
        (elim (in_cases n left p.dropped
        (subst (In n) p.parts (contains_in n row (r.cover n before_it (active_before before item name n before_it a))))) [
          | inl i ↦ i
          | inr i ↦ absurd
              (false≢true (sym (p.ended n (in_contains n p.dropped i)) ∙ ap (λ w. stays_by (drop (n + 1) w)) m ∙ sym (active_by_marks before n)
              ∙ (active_before before item name n before_it a)))
        ])
    | inr new ↦ in_right n left (length before ∷ []) (inl (sym new.0))
  ]);
}
  where
    there : (n : ℕ) → In n left ⊎ In n (length before ∷ []) → IsDisjointAt (before ++ item ∷ []) name n
    there n (inl i) = disjoint_front before item name n (r.there n (in_contains n row (subst (In n) (sym p.parts) (in_left n left p.dropped i))))
    there n (inr (inl e)) = record { item = item; there = get_last before item n (sym e); disjoint = d; named = h }
    there n (inr (inr z)) = absurd z

-- the numbers of names
name_at_place : (all : List (List ℕ)) (numbers : List ℕ) (names : List (List ℕ)) (i n : ℕ) (name : List ℕ) → AreNameNumbers all numbers names → slice_get numbers i ≡ Some n → IsNameNumber all n name → slice_get names i ≡ Some name
name_at_place all numbers names i n name a e there =
    let w = slice_get_within numbers i n e in
    slice_get-get_or names i [] (omega arith) ∙ sym (a.each i n e) ∙ there

place_in : (names : List (List ℕ)) (i k : ℕ) (name : List ℕ) → slice_get names i ≡ Some name → i < k → In name (take k names)
place_in [] i k name e l = cc
place_in (x ∷ names) i zero name e l = absurd (omega arith)
place_in (x ∷ names) zero (suc k) name e l = inl (same_Some x name e)
place_in (x ∷ names) (suc i) (suc k) name e l = inr (place_in names i k name e (omega arith))

numbers_once : (all : List (List ℕ)) (numbers : List ℕ) (names : List (List ℕ)) → AreNameNumbers all numbers names → AreUnrepeated names → AreOnce numbers
numbers_once all numbers names a u i j n p q = elim (dec_lt i j) [
  | yes l ↦ absurd (let w = slice_get_within numbers j n q in let name = get_or names j [] in
      let first = name_at_place all numbers names i n name a p (a.each j n q) in
      false≢true (sym (u j name (slice_get-get_or names j [] (omega arith))) ∙ in_has (take j names) name (place_in names i j name first l)))
  | no no_less ↦ elim (dec_lt j i) [
    | yes l ↦ absurd (let w = slice_get_within numbers i n p in let name = get_or names i [] in
        let first = name_at_place all numbers names j n name a q (a.each i n p) in
        false≢true (sym (u i name (slice_get-get_or names i [] (omega arith))) ∙ in_has (take i names) name (place_in names j i name first l)))
    | no no_more ↦ omega arith
  ]
]

-- a sound `$d` goes into the rows of its variables
pub pairs_taken : (all : List (List ℕ)) (before : List Said) (item : Said) (numbers : List ℕ) (old new : DisjointRows) (marks : List Mark) (number : ℕ)
    → AreDistinct all → IsSound before item → is_kind Disjoint item.kind ≡ true → AreNameNumbers all numbers item.symbols
    → length before ≡ number → marks ≡ block_marks before → KnowsPairs all before old → (AreOnce numbers → PutsAll old marks numbers number new) → KnowsPairs all (before ++ item ∷ []) new
pairs_taken all before item numbers old new marks number distinct sound d are l m k takes n name there = by_test (is_among numbers n) refl
  where
    puts : PutsAll old marks numbers number new
    puts = takes (numbers_once all numbers item.symbols are (disjoint_unrepeated before item sound d))

    named : In n numbers → has item.symbols name ≡ true
    named i = let r = in_get n numbers i in in_has item.symbols name (get_in name item.symbols r.0 (name_at_place all numbers item.symbols r.0 n name are r.1 there))

    by_test : (b : Bool) → is_among numbers n ≡ b → IsRow (before ++ item ∷ []) name (row_at new n)
    by_test true e =
        let i = among_in numbers n e in
        let p = puts.each n (in_contains n numbers i) in
        subst (IsRow (before ++ item ∷ []) name) (ap (λ w. p.0 ++ w ∷ []) l ∙ sym p.2) (row_next before item name (row_at old n) p.0 marks d (named i) m (k n name there) p.1)
    by_test false e =
        let out : In n numbers → ⊥ = λ i. false≢true (sym e ∙ in_among numbers n i) in
        subst (IsRow (before ++ item ∷ []) name) (sym (puts.others n (λ c. out (contains_in n numbers c))))
        (row_stays before item name (row_at old n)
        (λ t h. out (let r = in_get name item.symbols (has_in item.symbols name h) in
        get_in n numbers r.0 (let w = slice_get_within item.symbols r.0 name r.1 in let at = slice_get-get_or numbers r.0 0 (omega arith) in
        at ∙ ap Some (distinct (get_or numbers r.0 0) n name
        (are.each r.0 (get_or numbers r.0 0) at ∙ ap Some (get_or_from_slice_get item.symbols r.0 name [] r.1)) there)))) (k n name there))

-- an active `$d` that has two names
pub record HavePair (before : List Said) (x y : List ℕ) (n : ℕ) : Type 0 where
  pub first : IsDisjointAt before x n
  pub second : IsDisjointAt before y n
  pub stayed : is_active_at before n ≡ true

pub named_in : (before : List Said) (item : Said) (s : Symbol) (name : List ℕ) → In s (expression before item) → s.name ≡ name → has item.symbols name ≡ true
named_in before item s name m e = grind (arith, common_steps, from_map (symbol before) s item.symbols m, in_has) steps 200000

pub paired_from : (before : List Said) (x y : List ℕ) → AreSound before → are_paired (active_pairs before) (as_variable x, as_variable y) ≡ true → (x ≢ y) × (n : ℕ) × HavePair before x y n
paired_from before x y h t = by_names f.2
  where
    f : (pair : Symbol × Symbol) × In pair (active_pairs before) × SameNames (as_variable x, as_variable y) pair
    f = found_pair (as_variable x, as_variable y) (active_pairs before) t

    found : (a b : List ℕ) → (f.0).0.name ≡ a → (f.0).1.name ≡ b → (a ≢ b) × (n : ℕ) × HavePair before a b n × HavePair before b a n
    found a b p q =
        let r = from_active_pairs before f.0 f.1 in
        let at = number_of_active before r.0 r.1 in
        let s = from_pairs f.0 (expression before r.0) r.3 in
        let first : IsDisjointAt before a at.number = record { item = r.0; there = at.there; disjoint = r.2; named = named_in before r.0 (f.0).0 a s.0 p } in
        let second : IsDisjointAt before b at.number = record { item = r.0; there = at.there; disjoint = r.2; named = named_in before r.0 (f.0).1 b s.1 q } in (
          λ e. apart_active before h f.0 f.1 (p ∙ e ∙ sym q),
          at.number,
          record { first = first; second = second; stayed = at.stayed },
          record { first = second; second = first; stayed = at.stayed },
        )

    by_names : SameNames (as_variable x, as_variable y) f.0 → (x ≢ y) × (n : ℕ) × HavePair before x y n
    by_names (inl e) = let r = found x y e.0 e.1 in (r.0, r.1, r.2)
    by_names (inr e) = let r = found y x e.0 e.1 in (λ s. r.0 (sym s), r.1, r.3)

pub paired_to : (before : List Said) (x y : List ℕ) (n : ℕ) → x ≢ y → HavePair before x y n → are_paired (active_pairs before) (as_variable x, as_variable y) ≡ true
paired_to before x y n apart p =
    let item : Said = p.first.item in
    elim (in_order (symbol before x) (symbol before y) (expression before item) (λ e. apart (ap (λ (s : Symbol). s.name) e))
    (in_map (symbol before) x item.symbols (has_in item.symbols x p.first.named))
    (in_map (symbol before) y item.symbols
    (has_in item.symbols y (ap (λ (i : Said). has i.symbols y) (same_Some item p.second.item (sym p.first.there ∙ p.second.there)) ∙ p.second.named)))) [
      | inl m ↦ to_paired (as_variable x, as_variable y) (symbol before x, symbol before y) (active_pairs before)
          (in_flat (item_pairs before) item (symbol before x, symbol before y) (active before) (active_at_number before n item p.first.there p.stayed)
          (subst (λ b. In (symbol before x, symbol before y) (cond b (pairs_of (expression before item)) [])) (sym p.first.disjoint) m))
          (pair_here (symbol before x) (symbol before y))
      | inr m ↦ to_paired (as_variable x, as_variable y) (symbol before y, symbol before x) (active_pairs before)
          (in_flat (item_pairs before) item (symbol before y, symbol before x) (active before) (active_at_number before n item p.first.there p.stayed)
          (subst (λ b. In (symbol before y, symbol before x) (cond b (pairs_of (expression before item)) [])) (sym p.first.disjoint) m))
          (pair_turned (symbol before y) (symbol before x))
    ]

-- activity by the marks, as a question reads it
pub active_at_marks : (before : List Said) (marks : List Mark) (n : ℕ) → marks ≡ block_marks before → is_active_at before n ≡ stays_by (drop (suc n) marks)
active_at_marks before marks n e = let z : n + 1 ≡ suc n = omega arith in active_by_marks before n ∙ (λ i. stays_by (drop (z i) (sym e i)))

-- what two rows have in common says whether the names are an active pair
abbrev HaveCommon : List Mark → List ℕ → List ℕ → Type 0
HaveCommon marks row other = (n : ℕ) × IsCommon marks row other n

abbrev HaveNone : List Mark → List ℕ → List ℕ → Type 0
HaveNone marks row other = (n : ℕ) → IsCommon marks row other n → ⊥

rows_told : (all : List (List ℕ)) (before : List Said) (table : DisjointRows) (blocks : List Mark) (first second : ℕ) (x y : List ℕ) (r : Bool)
    → ReadsPairs all before table blocks → IsNameNumber all first x → IsNameNumber all second y → (first ≡ second → ⊥)
    → MatchBool r (HaveCommon blocks (row_at table first) (row_at table second)) (HaveNone blocks (row_at table first) (row_at table second)) → r ≡ are_paired (active_pairs before) (as_variable x, as_variable y)
rows_told all before table blocks first second x y true k a b apart c =
    let common = c.1 in
    sym (paired_to before x y c.0 (λ e. apart (k.distinct first second y (a ∙ ap Some e) b)) (record {
      first = (k.knows first x a).there c.0 common.0;
      second = (k.knows second y b).there c.0 common.1;
      stayed = active_at_marks before blocks c.0 k.marks ∙ common.2;
    }))
rows_told all before table blocks first second x y false k a b apart c = sym (false_from_ne_true (are_paired (active_pairs before) (as_variable x, as_variable y)) (λ t.
    let p = paired_from before x y k.sound t in
    let have = p.2 in
    c p.1 ((k.knows first x a).cover p.1 have.first have.stayed, (k.knows second y b).cover p.1 have.second have.stayed, sym (active_at_marks before blocks p.1 k.marks) ∙ have.stayed)))

pub pair_told : (all : List (List ℕ)) (before : List Said) (table : DisjointRows) (blocks : List Mark) (first second : ℕ) (row other : List ℕ) (x y : List ℕ)
    (r : Bool) → row ≡ row_at table first → other ≡ row_at table second → ReadsPairs all before table blocks
    → IsNameNumber all first x → IsNameNumber all second y → (first ≡ second → ⊥) → (IsRising other → MatchBool r (HaveCommon blocks row other) (HaveNone blocks row other)) → r ≡ are_paired (active_pairs before) (as_variable x, as_variable y)
pair_told all before table blocks first second row other x y r e f k a b apart c =
    rows_told all before table blocks first second x y r k a b apart (subst (λ w. MatchBool r (HaveCommon blocks w (row_at table second)) (HaveNone blocks w (row_at table second))) e
    (subst (λ w. MatchBool r (HaveCommon blocks row w) (HaveNone blocks row w)) f (c (subst IsRising (sym f) (k.knows second y b).rising))))

-- in one order of the rows or the other
common_turned : (marks : List Mark) (row other : List ℕ) (r : Bool) → MatchBool r (HaveCommon marks row other) (HaveNone marks row other) → MatchBool r (HaveCommon marks other row) (HaveNone marks other row)
common_turned marks row other true c = let common = c.1 in (c.0, (common.1, common.0, common.2))
common_turned marks row other false c = λ n common. c n (common.1, common.0, common.2)

pub pair_turned_told : (all : List (List ℕ)) (before : List Said) (table : DisjointRows) (blocks : List Mark) (first second : ℕ) (row other : List ℕ)
    (x y : List ℕ) (r : Bool) → row ≡ row_at table first → other ≡ row_at table second → ReadsPairs all before table blocks
    → IsNameNumber all first x → IsNameNumber all second y → (first ≡ second → ⊥) → (IsRising row → MatchBool r (HaveCommon blocks other row) (HaveNone blocks other row)) → r ≡ are_paired (active_pairs before) (as_variable x, as_variable y)
pair_turned_told all before table blocks first second row other x y r e f k a b apart c =
    pair_told all before table blocks first second row other x y r e f k a b apart (λ _. common_turned blocks other row r (c (subst IsRising (sym e) (k.knows first x a).rising)))

-- a name that no `$d` has is in no active pair
pub none_told : (all : List (List ℕ)) (before : List Said) (table : DisjointRows) (blocks : List Mark) (n : ℕ) (x y : List ℕ)
    → ReadsPairs all before table blocks → IsNameNumber all n x → row_at table n ≡ [] → are_paired (active_pairs before) (as_variable x, as_variable y) ≡
    false
none_told all before table blocks n x y k a e = grind (arith, common_steps, k.knows n x a, false_from_ne_true, paired_from, contains_in) steps 200000
