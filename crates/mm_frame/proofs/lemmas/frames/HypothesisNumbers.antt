-- The mandatory hypotheses of a statement are those whose numbers the tables give.
use Rattle.std.proofs.lemmas.{Grind.{common_steps}, Bool.{or_cases, or_left, or_right, and_from, false_from_ne_true, and_parts}, Option.{get_or_from_slice_get, slice_get_within}}
use Rattle.std.proofs.lemmas.{List.{length-take-le, Kept.{AllPairs-cons}}, Simd.{map-map}, Slice.Eq.{bytes_eq-Decides}}
use Rattle.std.proofs.Common.{◌≡◌, ℕ, zero, suc, ◌+◌, ◌<◌, Bool, true, false, cond, ◌&&◌, Option, Some, None, List, [], ◌∷◌, ◌++◌, length, map, filter, take, drop, slice_get, get_or, refl, sym, ◌∙◌}
use Rattle.std.{proofs.{Common.{ap, subst, append_assoc, arith, inl, inr, bytes_eq}, Math.Seq.{drop-nil}}, specs.Prelude.{Contains, ◌↔◌}}
use Rattle.mm_frame.proofs.lemmas.lists.Members.{in_right, get_between, first_cases, in_first, in_later, In, in_contains, contains_in, in_get, has_in, in_has}
use Rattle.mm_frame.proofs.lemmas.scope.{ActiveBySplit.{closed_join, closed_one, split_active, stays_front}, Facts.{float_new}, SoundItems.{split_at}}
use Rattle.mm_frame.proofs.lemmas.{scope.TableLemmas.{last_cases, last_none, last_number, last_is, stands_in, typed_by, float_second, typed_last}, frames.Frames.{to_typed, mandatory_typed, in_at}}
use Rattle.mm_frame.specs.Language.{Scope.{stays, active, typed, active_numbers_from, active_numbers}, Sound.{IsSound, AreSound}, Marks.{Closes, mark_of}}
use Rattle.mm_frame.specs.Language.Framing.{mandatory_variables, is_mandatory, hypothesis, mandatory_hypotheses, mandatory_numbers}
use Rattle.mm_frame.specs.Code.LastItems.{last_where, is_active_at, is_active_last, types, is_essential_item, IsHypothesisNumber, IsRising}
use Rattle.mm_statement.specs.Language.Item.{Said, passed, is_kind, Essential, Floating, is_expression, has, variable_of, item_at}

-- an active item that passes has its number among the numbers
numbered : (test : Said → Bool) (n : ℕ) (items : List Said) (k : ℕ) (x : Said) → slice_get items k ≡ Some x → stays (drop (suc k) items) ≡ true → test x ≡ true → In (n + k) (active_numbers_from test n items)
numbered test n [] k x e s t = cc
numbered test n (y ∷ ys) zero x e s t = grind (arith, common_steps, and_from, in_first) steps 200000
numbered test n (y ∷ ys) (suc k) x e s t = grind (arith, common_steps, numbered test (suc n) ys k x e s t, in_later) steps 200000

-- the item of a number
record Numbered (test : Said → Bool) (n : ℕ) (items : List Said) (m : ℕ) : Type 0 where
  place : ℕ
  number : m ≡ n + place
  item : Said
  there : slice_get items place ≡ Some item
  stayed : stays (drop (suc place) items) ≡ true
  good : test item ≡ true

from_numbered : (test : Said → Bool) (n : ℕ) (items : List Said) (m : ℕ) → In m (active_numbers_from test n items) → Numbered test n items m
from_numbered test n [] m h = absurd h
from_numbered test n (y ∷ ys) m h = elim (first_cases (stays ys && test y) n m (active_numbers_from test (suc n) ys) h) [
  | inl p ↦ (let b = and_parts (stays ys) (test y) p.1 in let q = p.0 in record { place = 0; number = omega arith; item = y; there = refl; stayed = b.0; good = b.1 })
  | inr k ↦ (let r = from_numbered test (suc n) ys m k in let q = r.number in record { place = suc r.place; number = omega arith; item = r.item; there = r.there; stayed = r.stayed; good = r.good })
]

pub to_active_number : (test : Said → Bool) (items : List Said) (n : ℕ) (x : Said) → slice_get items n ≡ Some x → is_active_at items n ≡ true → test x ≡ true → In n (active_numbers test items)
to_active_number test items n x e s t = let z : 0 + n ≡ n = omega arith in subst (λ w. In w (active_numbers test items)) z (numbered test 0 items n x e s t)

pub from_active_number : (test : Said → Bool) (items : List Said) (n : ℕ) → In n (active_numbers test items) → (x : Said) × (slice_get items n ≡ Some x) × (is_active_at items n ≡ true) × (test x ≡ true)
from_active_number test items n h = grind (arith, common_steps, from_numbered test 0 items n h) steps 200000

-- the items of the numbers are the active ones that pass
pub drop_step : {X : Type 0} (whole : List X) (n : ℕ) (x : X) (xs : List X) → drop n whole ≡ x ∷ xs → (drop (suc n) whole ≡ xs) × (slice_get whole n ≡ Some x)
drop_step [] n x xs e = let q : [] ≡ x ∷ xs = sym (drop-nil n) ∙ e in cc
drop_step (y ∷ ys) zero x xs e = (cc, cc)
drop_step (y ∷ ys) (suc n) x xs e = drop_step ys n x xs e

items_step : (test : Said → Bool) (b c : Bool) (x : Said) (xs : List Said) (f : ℕ → Said) (n : ℕ) (ns : List ℕ) → test x ≡ c → f n ≡ x → map f ns ≡ filter test xs → map f (cond (b && c) (n ∷ ns) ns) ≡ filter test (cond b (x ∷ xs) xs)
items_step test true true x xs f n ns t q r = (λ i. q i ∷ r i) ∙ sym (ap (λ w. cond w (x ∷ filter test xs) (filter test xs)) t)
items_step test true false x xs f n ns t q r = r ∙ sym (ap (λ w. cond w (x ∷ filter test xs) (filter test xs)) t)
items_step test false c x xs f n ns t q r = r

items_from : (test : Said → Bool) (whole : List Said) (n : ℕ) (items : List Said) → drop n whole ≡ items → map (item_at whole) (active_numbers_from test n items) ≡ filter test (active items)
items_from test whole n [] e = refl
items_from test whole n (x ∷ xs) e =
    let d = drop_step whole n x xs e in
    items_step test (stays xs) (test x) x (active xs) (item_at whole) n (active_numbers_from test (suc n) xs) refl (get_or_from_slice_get whole n x passed d.1) (items_from test whole (suc n) xs d.0)

pub active_number_items : (test : Said → Bool) (items : List Said) → map (item_at items) (active_numbers test items) ≡ filter test (active items)
active_number_items test items = items_from test items 0 items refl

-- the numbers rise
pub rise_step : (b : Bool) (n : ℕ) (ns : List ℕ) → ((m : ℕ) → In m ns → n < m) → IsRising ns → IsRising (cond b (n ∷ ns) ns)
rise_step true n ns h r = AllPairs-cons (λ a b. a < b) n ns (λ i d l. h (get_or ns i d) (in_at ns i d l)) r
rise_step false n ns h r = r

rise_from : (test : Said → Bool) (n : ℕ) (items : List Said) → IsRising (active_numbers_from test n items)
rise_from test n [] = λ i j d l m. absurd (omega arith)
rise_from test n (x ∷ xs) = rise_step (stays xs && test x) n (active_numbers_from test (suc n) xs) (λ m h. let r = from_numbered test (suc n) xs m h in let q = r.number in omega arith) (rise_from test (suc n) xs)

pub active_numbers_rise : (test : Said → Bool) (items : List Said) → IsRising (active_numbers test items)
active_numbers_rise test items = rise_from test 0 items

-- one more item that is no `$}`
next_step : (b : Bool) (n : ℕ) (ms ns : List ℕ) → cond b (n ∷ (ms ++ ns)) (ms ++ ns) ≡ cond b (n ∷ ms) ms ++ ns
next_step true n ms ns = refl
next_step false n ms ns = refl

next_from : (test : Said → Bool) (n : ℕ) (items : List Said) (item : Said) → (mark_of item.kind ≡ Closes → ⊥) → active_numbers_from test n (items ++ item ∷ []) ≡ active_numbers_from test n items ++ cond (test item) ((n + length items) ∷ []) []
next_from test n [] item c = let z : n ≡ n + 0 = omega arith in ap (λ w. cond (test item) (w ∷ []) []) z
next_from test n (x ∷ xs) item c = grind (arith, common_steps, next_from test (suc n) xs item c, closed_join xs (item ∷ []) (closed_one item c), next_step) steps 200000

pub active_numbers_more : (test : Said → Bool) (items : List Said) (item : Said) → (mark_of item.kind ≡ Closes → ⊥) → active_numbers test (items ++ item ∷ []) ≡ active_numbers test items ++ cond (test item) (length items ∷ []) []
active_numbers_more test items item c = let z : 0 + length items ≡ length items = omega arith in next_from test 0 items item c ∙ ap (λ w. active_numbers test items ++ cond (test item) (w ∷ []) []) z

-- rising lists of the same numbers are the same
pub above : (n : ℕ) (ns : List ℕ) (m : ℕ) → IsRising (n ∷ ns) → In m ns → n < m
above n ns m r h =
    let g = in_get m ns h in
    let e : get_or ns g.0 0 ≡ m = get_or_from_slice_get ns g.0 m 0 g.1 in
    let w = slice_get_within ns g.0 m g.1 in
    let l : n < get_or ns g.0 0 = r 0 (suc g.0) 0 (omega arith) (omega arith) in
    omega arith

pub behind : (n : ℕ) (ns : List ℕ) → IsRising (n ∷ ns) → IsRising ns
behind n ns r i j d l m = r (suc i) (suc j) d (omega arith) (omega arith)

-- of rising numbers those of a beginning are less than those after it
pub front_below : (numbers rest : List ℕ) (n m : ℕ) → IsRising (numbers ++ rest) → In n numbers → In m rest → n < m
front_below [] rest n m r h k = absurd h
front_below (x ∷ xs) rest n m r (inl e) k = let l = above x (xs ++ rest) m r (in_right m xs rest k) in omega arith
front_below (x ∷ xs) rest n m r (inr h) k = front_below xs rest n m (behind x (xs ++ rest) r) h k

same_first : (m n : ℕ) (ms ns : List ℕ) → IsRising (m ∷ ms) → IsRising (n ∷ ns) → In m (n ∷ ns) → In n (m ∷ ms) → m ≡ n
same_first m n ms ns r s (inl e) k = sym e
same_first m n ms ns r s (inr h) (inl e) = e
same_first m n ms ns r s (inr h) (inr k) = let a = above m ms n r k in let b = above n ns m s h in absurd (omega arith)

rest_in : (n k : ℕ) (ns : List ℕ) → n < k → In k (n ∷ ns) → In k ns
rest_in n k ns l h = grind (arith, common_steps) steps 200000

pub same_rising : (ms ns : List ℕ) → IsRising ms → IsRising ns → ((k : ℕ) → In k ms → In k ns) → ((k : ℕ) → In k ns → In k ms) → ms ≡ ns
same_rising [] [] r s f g = refl
same_rising [] (n ∷ ns) r s f g = absurd (g n (inl refl))
same_rising (m ∷ ms) [] r s f g = absurd (f m (inl refl))
same_rising (m ∷ ms) (n ∷ ns) r s f g =
    let e = same_first m n ms ns r s (f m (inl refl)) (g n (inl refl)) in
    let rest = same_rising ms ns (behind m ms r) (behind n ns s) (λ k h. let l = above m ms k r h in rest_in n k ns (omega arith) (f k (inr h))) (λ k h. let l = above n ns k s h in rest_in m k ms (omega arith) (g k (inr h))) in
    λ i. e i ∷ rest i

-- an active `$f` is the last of its variable
pub active_float_last : (before : List Said) → AreSound before → (n : ℕ) (x : Said) → slice_get before n ≡ Some x → is_active_at before n ≡ true → is_kind Floating x.kind ≡ true → last_where (types (variable_of x)) before ≡ Some n
active_float_last before h n x e s t =
    let name = variable_of x in
    let front = take n before in
    let back = drop (suc n) before in
    let whole = split_at before n x e in
    let w = slice_get_within before n x e in
    ap (last_where (types name)) whole
    ∙ last_is (types name) front x back (and_from (is_kind Floating x.kind) (bytes_eq (variable_of x) name) t ((bytes_eq-Decides (variable_of x) name).1 refl))
    (λ y k. false_from_ne_true (types name y) (λ u.
    let p = stands_in y back k in
    let q = typed_by name y u in
    let sound = h (front ++ x ∷ p.front) y p.back (whole ∙ ap (λ v. front ++ x ∷ v) p.whole ∙ sym (append_assoc front (x ∷ p.front) (y ∷ p.back))) in
    let there = to_typed (front ++ x ∷ p.front) x (split_active front x p.front (stays_front p.front (y ∷ p.back) (subst (λ v. stays v ≡ true) p.whole s))) t in
    float_new (front ++ x ∷ p.front) y (variable_of y) sound q.0 (float_second (front ++ x ∷ p.front) y sound q.0) (subst (λ v. In v (typed (front ++ x ∷ p.front))) (sym q.1) there)))
    ∙ ap Some (length-take-le n before (omega arith))

-- each mandatory variable of the statement is typed
abbrev pub AreTyped : List Said → Said → Type 0
AreTyped before item = (name : List ℕ) → In name (mandatory_variables before item) → In name (typed before)

-- this holds if the statement is sound
pub sound_typed : (before : List Said) → AreSound before → (item : Said) → IsSound before item → is_expression item.kind ≡ true → AreTyped before item
sound_typed before h item s t name m = (mandatory_typed before item name h s t m).1

-- a mandatory variable has a last `$f`, which is active
some_active : (before : List Said) (o : Option ℕ) → is_active_last before o ≡ true → (n : ℕ) × (o ≡ Some n) × (is_active_at before n ≡ true)
some_active before o h = grind (arith, common_steps) steps 200000

-- the item of the last number passes
pub last_there : (test : Said → Bool) (before : List Said) (n : ℕ) → last_where test before ≡ Some n → (x : Said) × (slice_get before n ≡ Some x) × (test x ≡ true)
last_there test before n e = elim (last_cases test before) [
  | inl none ↦ (let q : None ≡ Some n = sym (last_none test before none) ∙ e in cc)
  | inr l ↦ (let q : Some (length l.front) ≡ Some n = sym (last_number test before l) ∙ e in let z : length l.front ≡ n = cc in (
    l.item,
    ap (λ w. slice_get w n) l.whole ∙ subst (λ w. slice_get (l.front ++ l.item ∷ l.back) w ≡ Some l.item) z (get_between l.front l.item l.back),
    l.good,
  ))
]

-- the number of a mandatory hypothesis is that of an active `$e`, or of the last `$f` of a mandatory variable
number_to : (before : List Said) → AreSound before → (item : Said) → AreTyped before item → (n : ℕ) → IsHypothesisNumber before item n → In n (mandatory_numbers before item)
number_to before h item t n (inl c) =
    let mandatory = mandatory_variables before item in
    let r = from_active_number is_essential_item before n (contains_in n (active_numbers is_essential_item before) c) in
    to_active_number (is_mandatory mandatory) before n r.0 r.1 r.2 (or_left (is_kind Essential (r.0).kind) (is_kind Floating (r.0).kind && has mandatory (variable_of r.0)) r.3)
number_to before h item t n (inr p) =
    let mandatory = mandatory_variables before item in
    let m = contains_in p.0 mandatory p.1 in
    let a = (some_active before (last_where (types p.0) before) (sym (typed_last before h p.0) ∙ in_has (typed before) p.0 (t p.0 m))) in
    let z : a.0 ≡ n = cc in
    let r = last_there (types p.0) before n p.2 in
    let f = typed_by p.0 r.0 r.2 in
    to_active_number (is_mandatory mandatory) before n r.0 r.1 (subst (λ w. is_active_at before w ≡ true) z a.2)
    (or_right (is_kind Essential (r.0).kind) (is_kind Floating (r.0).kind && has mandatory (variable_of r.0)) (and_from (is_kind Floating (r.0).kind)
    (has mandatory (variable_of r.0)) f.0 (in_has mandatory (variable_of r.0) (subst (λ w. In w mandatory) (sym f.1) m))))

-- the mandatory hypotheses by their numbers
pub hypotheses_by_numbers : (before : List Said) (item : Said) → mandatory_hypotheses before item ≡ map (λ n. hypothesis before (item_at before n)) (mandatory_numbers before item)
hypotheses_by_numbers before item = ap (map (hypothesis before)) (sym (active_number_items (is_mandatory (mandatory_variables before item)) before)) ∙ map-map (hypothesis before) (item_at before) (mandatory_numbers before item)

-- a rising list of just these numbers gives the mandatory hypotheses
pub mandatory_numbers_built : (before : List Said) → AreSound before → (item : Said) → AreTyped before item → (built : List ℕ) → IsRising built → ((n : ℕ) → Contains built n ↔ IsHypothesisNumber before item n) → built ≡ mandatory_numbers before item
mandatory_numbers_built before h item t built r f = same_rising built (mandatory_numbers before item) r (active_numbers_rise (is_mandatory (mandatory_variables before item)) before)
    (λ n k. number_to before h item t n ((f n).0 (in_contains n built k)))
    (λ n k. contains_in n built
    ((f n).1 (let r = from_active_number (is_mandatory (mandatory_variables before item)) before n k in
    elim (or_cases (is_kind Essential (r.0).kind) (is_kind Floating (r.0).kind && has (mandatory_variables before item) (variable_of r.0)) r.3) [
      | inl e ↦ inl
          (in_contains n (active_numbers is_essential_item before) (to_active_number is_essential_item before n r.0 r.1 r.2 e))
      | inr b ↦
          (let p = and_parts (is_kind Floating (r.0).kind) (has (mandatory_variables before item) (variable_of r.0)) b in
          inr (
            variable_of r.0,
            in_contains (variable_of r.0) (mandatory_variables before item) (has_in (mandatory_variables before item) (variable_of r.0) p.1),
            active_float_last before h n r.0 r.1 r.2 p.0,
          ))
    ])))
