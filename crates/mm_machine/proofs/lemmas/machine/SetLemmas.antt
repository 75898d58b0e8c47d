-- Sets of numbers, as chunks of 64 bits.
use Rattle.std.proofs.Common.{rules, ◌≡◌, ◌≢◌, ℕ, zero, suc, ◌+◌, ◌-◌, ◌*◌, ◌/◌, ◌%◌, ◌^◌, ◌<◌, ◌≤◌, ◌⊎◌, ◌↔◌, Some, List, [], ◌∷◌, ◌++◌, length, take, drop, get_or, refl, sym, ◌∙◌, ap, subst, arith}
use Rattle.std.proofs.{Common.{inl, inr, w64, Contains, slice_get, slice_set, length-set, get_or-set_same, get_or-set_other}, lemmas.Grind.{common_steps}}
use Rattle.std.proofs.lemmas.{Option.{same_Some, slice_get_within, slice_get-get_or, get_or_from_slice_get}, Nat.{and_le_l}}
use Rattle.std.proofs.lemmas.Nat.Bits.{bit_at_set_same, bit_at_set_other, bit_at_or, bit_at_and, bit_at_not, bit_at-lt, bit_at-zero, bit_at-trailing_zeros, bit_at_clear_same, bit_at_clear_other}
use Rattle.std.proofs.{lemmas.List.{take-set-le, drop-set-add, drop-append-le, take-append-le, length-drop, length-append, get_or-drop}, Math.Decide.{ℕ_discrete}}
use Rattle.std.specs.{Int.{bit_at, bit_not, trailing_zeros, RustNames.{bit_or}}, Prelude.{bit_and}}
use Rattle.mm_machine.specs.{Language.Frame.{Symbol}, declared.{sets.Chunk.{Chunk}, apart.{KnownApart.{KnownApart}, KnownChunk.{KnownChunk}}}}
use Rattle.mm_machine.{specs.Code.PairClause.{ApartAt, ApartFrom, InChunk, AddsNumber, KnowsApart}, proofs.lemmas.lists.Members.{contains_at, contains_get, pushed}}

-- ---- a list with another element at a place

pub changed_has : {X : Type 0} (xs : List X) (k : ℕ) (y x : X) → k < length xs → Contains (slice_set xs k y) x → (x ≡ y) ⊎ Contains xs x
changed_has xs k y x l c = grind (arith, common_steps, get_or-set_other, get_or-set_same, length-set) steps 200000

pub changed_here : {X : Type 0} (xs : List X) (k : ℕ) (y : X) → k < length xs → Contains (slice_set xs k y) y
changed_here xs k y l = (k, omega (arith, length-set xs k y), get_or-set_same xs k y y l)

pub changed_still : {X : Type 0} (xs : List X) (k : ℕ) (w y x : X) → slice_get xs k ≡ Some w → Contains xs x → (x ≡ w) ⊎ Contains (slice_set xs k y) x
changed_still xs k w y x at c = elim (ℕ_discrete c.0 k) [
  | yes e ↦ inl (same_Some x w (sym (contains_get xs x c) ∙ ap (slice_get xs) e ∙ at))
  | no n ↦ inr (c.0, omega (arith, c.1, length-set xs k y), get_or-set_other xs k c.0 y x n ∙ c.2)
]

-- what is at a place, behind a front
pub behind_at : {X : Type 0} (xs : List X) (start place : ℕ) (x : X) → start ≤ place → slice_get xs place ≡ Some x → slice_get (drop start xs) (place - start) ≡ Some x
behind_at xs start place x l at =
    let here : start + (place - start) ≡ place = omega arith in
    slice_get-get_or (drop start xs) (place - start) x (omega (arith, slice_get_within xs place x at, length-drop start xs))
    ∙ ap Some (get_or-drop start xs (place - start) x ∙ ap (λ j. get_or xs j x) here ∙ get_or_from_slice_get xs place x x at)

-- ---- bits

pub one_same : (k : ℕ) → k < 64 → bit_at (1 * 2 ^ k % 2 ^ 64) k ≡ 1
one_same k l = omega (arith, bit_at_or 0 (1 * 2 ^ k % 2 ^ 64) k, bit_at_set_same w64 0 k l, bit_at-zero k)

pub one_other : (k i : ℕ) → k < 64 → i ≢ k → bit_at (1 * 2 ^ k % 2 ^ 64) i ≡ 0
one_other k i l n = omega (arith, bit_at_or 0 (1 * 2 ^ k % 2 ^ 64) i, bit_at_set_other w64 0 k l i n, bit_at-zero i)

pub or_cases : (a b i : ℕ) → bit_at (bit_or a b) i ≡ 1 → (bit_at a i ≡ 1) ⊎ (bit_at b i ≡ 1)
or_cases a b i e = grind (arith, common_steps, bit_at-lt a i, bit_at-lt b i, bit_at_or a b i) steps 200000

pub or_left : (a b i : ℕ) → bit_at a i ≡ 1 → bit_at (bit_or a b) i ≡ 1
or_left a b i e = omega (arith, bit_at_or a b i, e, bit_at-lt b i)

pub or_right : (a b i : ℕ) → bit_at b i ≡ 1 → bit_at (bit_or a b) i ≡ 1
or_right a b i e = omega (arith, bit_at_or a b i, e, bit_at-lt a i)

-- ---- a number more in a set

-- the chunk of a number alone
pub in_one : (number n : ℕ) → InChunk (record { at = number / 64; bits = 1 * 2 ^ (number % 64) % 2 ^ 64 }) n ↔ (n ≡ number)
in_one number n = (
  λ w. elim (ℕ_discrete w.0 (number % 64)) [
    | yes e ↦ omega (arith, w.3, e)
    | no o ↦ absurd (omega (arith, w.2, one_other (number % 64) w.0 (omega arith) o))
  ],
  λ e. (number % 64, omega arith, one_same (number % 64) (omega arith), omega (arith, e)),
)

-- a chunk with its bit more
pub in_more : (w : Chunk) (number n : ℕ) → w.at ≡ number / 64
    → InChunk (record { at = w.at; bits = bit_or w.bits (1 * 2 ^ (number % 64) % 2 ^ 64) }) n ↔ (InChunk w n ⊎ (n ≡ number))
in_more w number n at = (
  λ m. elim (or_cases w.bits (1 * 2 ^ (number % 64) % 2 ^ 64) m.0 m.2) [
    | inl b ↦ inl (m.0, m.1, b, m.3)
    | inr b ↦ inr ((in_one number n).0 (m.0, m.1, b, omega (arith, m.3, at)))
  ],
  λ s. elim s [
    | inl i ↦ (i.0, i.1, or_left w.bits (1 * 2 ^ (number % 64) % 2 ^ 64) i.0 i.2, i.3)
    | inr e ↦ (let o = (in_one number n).1 e in (o.0, o.1, or_right w.bits (1 * 2 ^ (number % 64) % 2 ^ 64) o.0 o.2, omega (arith, o.3, at)))
  ],
)

-- ..that is the last
pub added_last : (start number : ℕ) (before after : List Chunk) (w : Chunk) → start ≤ length before → after ≡ before ++ w ∷ [] → ((n : ℕ) → InChunk w n ↔ (n ≡ number)) → AddsNumber start number before after
added_last start number before after w l e one = record {
  kept = ap (take start) e ∙ take-append-le start before (w ∷ []) l;
  long = omega (arith, l, ap length e, length-append before (w ∷ []));
  same = λ n. rw (e, drop-append-le start before (w ∷ []) l) (
    λ h. elim ((pushed (drop start before) w h.0).0 h.1) [ inl c ↦ inl (h.0, c, h.2) | inr s ↦ inr ((one n).0 (subst (λ v. InChunk v n) (sym s) h.2)) ],
    λ s. elim s [ inl h ↦ (h.0, (pushed (drop start before) w h.0).1 (inl h.1), h.2) | inr s ↦ (w, (pushed (drop start before) w w).1 (inr refl), (one n).1 s) ],
  );
}

-- ..that is there
pub added_there : (start number place : ℕ) (before after : List Chunk) (w v : Chunk) → start ≤ place → slice_get before place ≡ Some w → after ≡ slice_set before place v
    → ((n : ℕ) → InChunk v n ↔ (InChunk w n ⊎ (n ≡ number))) → AddsNumber start number before after
added_there start number place before after w v l at e more =
    let within = slice_get_within before place w at in
    let k = place - start in
    let xs = drop start before in
    let here : start + k ≡ place = omega arith in
    let next : drop start after ≡ slice_set xs k v = ap (drop start) e ∙ ap (λ j. drop start (slice_set before j v)) (sym here) ∙ drop-set-add start before k v in
    let at_k : slice_get xs k ≡ Some w = behind_at before start place w l at in
    let in_range = slice_get_within xs k w at_k in
    record {
      kept = ap (take start) e ∙ take-set-le start before place v l;
      long = omega (arith, within, ap length e, length-set before place v);
      same = λ n. rw next (
        λ h. elim (changed_has xs k v h.0 in_range h.1) [
          | inl s ↦ elim ((more n).0 (subst (λ u. InChunk u n) s h.2)) [ inl i ↦ inl (w, contains_at xs k w at_k, i) | inr i ↦ inr i ]
          | inr c ↦ inl (h.0, c, h.2)
        ],
        λ s. elim s [
          | inl h ↦ elim (changed_still xs k w v h.0 at_k h.1) [
            | inl s ↦ (v, changed_here xs k v in_range, (more n).1 (inl (subst (λ u. InChunk u n) s h.2)))
            | inr c ↦ (h.0, c, h.2)
          ]
          | inr s ↦ (v, changed_here xs k v in_range, (more n).1 (inr s))
        ],
      );
    }

-- ---- the bits of a chunk, one after another

-- the lowest bit, and the chunk without it
pub lowest : (left : ℕ) → (left ≡ 0 → ⊥) → left < 2 ^ 64 → (trailing_zeros w64 left < 64) × (bit_at left (trailing_zeros w64 left) ≡ 1)
lowest left some small = let l = bit_at-trailing_zeros w64 left (omega (arith, some)) small in (l.0, l.1)

pub without : (left k : ℕ) → k < 64 → bit_at left k ≡ 1 → (bit_and left (bit_not w64 (1 * 2 ^ k % 2 ^ 64)) < left)
    × ((i : ℕ) → i < 64 → i ≢ k → bit_at (bit_and left (bit_not w64 (1 * 2 ^ k % 2 ^ 64))) i ≡ bit_at left i)
without left k l set =
    let rest : ℕ = bit_and left (bit_not w64 (1 * 2 ^ k % 2 ^ 64)) in
    let gone : bit_at rest k ≡ 0 = bit_at_clear_same w64 left k l in
    let other : rest ≢ left = λ same. absurd (omega (arith, gone, set, ap (λ w. bit_at w k) same)) in
    (omega (arith, and_le_l left (bit_not w64 (1 * 2 ^ k % 2 ^ 64)), other), λ i m n. bit_at_clear_other w64 left k l i m n)

-- of each bit but those that are left this is said
pub record BitsDone (all left : ℕ) (P : ℕ → Type 0) : Type 0 where
  pub done : (k : ℕ) → k < 64 → bit_at all k ≡ 1 → (bit_at left k ≡ 1) ⊎ P k
  pub among : (k : ℕ) → k < 64 → bit_at left k ≡ 1 → bit_at all k ≡ 1

pub none_done : (all : ℕ) (P : ℕ → Type 0) → BitsDone all all P
none_done all P = record { done = λ k l e. inl e; among = λ k l e. e }

pub one_done : (all left : ℕ) (P : ℕ → Type 0) (k : ℕ) → k < 64 → bit_at left k ≡ 1 → P k → BitsDone all left P → BitsDone all (bit_and left (bit_not w64 (1 * 2 ^ k % 2 ^ 64))) P
one_done all left P k l set p b =
    let w = without left k l set in
    record {
      done = λ i m e. elim (ℕ_discrete i k) [ yes s ↦ inr (subst P (sym s) p) | no n ↦ elim (b.done i m e) [ inl f ↦ inl (w.1 i m n ∙ f) | inr q ↦ inr q ] ];
      among = λ i m e. elim (ℕ_discrete i k) [
        | yes s ↦ absurd (omega (arith, e, ap (bit_at (bit_and left (bit_not w64 (1 * 2 ^ k % 2 ^ 64)))) s, bit_at_clear_same w64 left k l))
        | no n ↦ b.among i m (sym (w.1 i m n) ∙ e)
      ];
    }

pub all_done : (all left : ℕ) (P : ℕ → Type 0) → left ≡ 0 → BitsDone all left P → (k : ℕ) → k < 64 → bit_at all k ≡ 1 → P k
all_done all left P none b k l e = elim (b.done k l e) [ inl f ↦ absurd (omega (arith, f, ap (λ w. bit_at w k) none, bit_at-zero k)) | inr p ↦ p ]

-- the bits of one chunk that another has not
pub not_known : (a b k : ℕ) → b < 2 ^ 64 → k < 64 → bit_at a k ≡ 1 → (bit_at (bit_and a (bit_not w64 b)) k ≡ 1) ⊎ (bit_at b k ≡ 1)
not_known a b k m l e = grind (arith, common_steps, bit_at-lt b k, bit_at_and a (bit_not w64 b) k, bit_at_not w64 b k m l) steps 200000

pub and_first : (a b k : ℕ) → bit_at (bit_and a b) k ≡ 1 → bit_at a k ≡ 1
and_first a b k e = omega (arith, bit_at_and a b k, bit_at-lt a k, bit_at-lt b k, e)

pub and_second : (a b k : ℕ) → bit_at (bit_and a b) k ≡ 1 → bit_at b k ≡ 1
and_second a b k e = omega (arith, bit_at_and a b k, bit_at-lt a k, bit_at-lt b k, e)

-- a bit that is left, as a number of the chunk
pub left_in : (chunk : Chunk) (all left : ℕ) (P : ℕ → Type 0) → ((k : ℕ) → bit_at all k ≡ 1 → bit_at chunk.bits k ≡ 1) → (left ≡ 0 → ⊥) → left < 2 ^ 64
    → BitsDone all left P → InChunk chunk (64 * chunk.at + trailing_zeros w64 left)
left_in chunk all left P sub some small b = let l = lowest left some small in (trailing_zeros w64 left, l.0, sub (trailing_zeros w64 left) (b.among (trailing_zeros w64 left) l.0 l.1), refl)

-- one more of them is done
pub lowest_done : (all left : ℕ) (P : ℕ → Type 0) → (left ≡ 0 → ⊥) → left < 2 ^ 64 → P (trailing_zeros w64 left) → BitsDone all left P
    → BitsDone all (bit_and left (bit_not w64 (1 * 2 ^ trailing_zeros w64 left % 2 ^ 64))) P
lowest_done all left P some small p b = let l = lowest left some small in one_done all left P (trailing_zeros w64 left) l.0 l.1 p b

-- two chunks with a number in common
pub chunks_meet : (w v : Chunk) → w.at ≡ v.at → (bit_and w.bits v.bits ≡ 0 → ⊥) → bit_and w.bits v.bits < 2 ^ 64 → (n : ℕ) × InChunk w n × InChunk v n
chunks_meet w v at some small =
    let l = lowest (bit_and w.bits v.bits) some small in
    let k = trailing_zeros w64 (bit_and w.bits v.bits) in
    (64 * w.at + k, (k, l.0, and_first w.bits v.bits k l.1, refl), (k, l.0, and_second w.bits v.bits k l.1, omega (arith, at)))

pub chunks_apart : (w v : Chunk) → (bit_and w.bits v.bits ≡ 0) ⊎ (w.at ≢ v.at) → (n : ℕ) → InChunk w n → InChunk v n → ⊥
chunks_apart w v (inl none) n i j =
    let same : i.0 ≡ j.0 = omega (arith, i.1, i.3, j.1, j.3) in
    absurd (omega (arith, bit_at_and w.bits v.bits i.0, ap (λ z. bit_at z i.0) none, bit_at-zero i.0, i.2, j.2, ap (bit_at v.bits) same))
chunks_apart w v (inr other) n i j = other (omega (arith, i.1, i.3, j.1, j.3))

-- ---- what is known

-- a table with a place more, past which there are zeros
pub padded : (xs : List ℕ) (m : ℕ) → get_or (xs ++ 0 ∷ []) m 0 ≡ get_or xs m 0
padded [] zero = refl
padded [] (suc m) = refl
padded (x ∷ xs) zero = refl
padded (x ∷ xs) (suc m) = padded xs m

pub known_first : (active : List (Symbol × Symbol)) (all : List Symbol) (old new : KnownApart) (variable bits : ℕ) (table : List ℕ) → variable < length table
    → ((m : ℕ) → get_or table m 0 ≡ get_or old.first.items m 0) → new.first.items ≡ slice_set table variable bits → new.later.items ≡ old.later.items
    → KnowsApart active all old → ApartFrom active all variable (record { at = 0; bits = bits }) → KnowsApart active all new
known_first active all old new variable bits table l same first later knows apart = record {
  first = λ m. elim (ℕ_discrete m variable) [
    | yes e ↦ rw (first, e, get_or-set_same table variable bits 0 l) apart
    | no n ↦ rw (first, get_or-set_other table variable m bits 0 n, same m) (knows.first m)
  ];
  later = λ r c. knows.later r (subst (λ w. Contains w r) later c);
}

pub known_later : (active : List (Symbol × Symbol)) (all : List Symbol) (old new : KnownApart) (r : KnownChunk) → new.first.items ≡ old.first.items
    → ((x : KnownChunk) → Contains new.later.items x → (x ≡ r) ⊎ Contains old.later.items x)
    → KnowsApart active all old → ApartFrom active all r.variable r.chunk → KnowsApart active all new
known_later active all old new r first later knows apart = record {
  first = λ m. rw first (knows.first m);
  later = λ x c. elim (later x c) [ inl e ↦ subst (λ (w : KnownChunk). ApartFrom active all w.variable w.chunk) (sym e) apart | inr d ↦ knows.later x d ];
}

-- ---- one variable and a chunk

-- the number of a bit that is left
pub left_bound : (chunk : Chunk) (all left n : ℕ) (P : ℕ → Type 0) → ((k : ℕ) → bit_at all k ≡ 1 → bit_at chunk.bits k ≡ 1) → ((m : ℕ) → InChunk chunk m → m < n)
    → (left ≡ 0 → ⊥) → left < 2 ^ 64 → BitsDone all left P → 64 * chunk.at + trailing_zeros w64 left < n
left_bound chunk all left n P sub within some small b = within (64 * chunk.at + trailing_zeros w64 left) (left_in chunk all left P sub some small b)

-- of what was left to ask
pub asked_in : (chunk : Chunk) (bits left : ℕ) (P : ℕ → Type 0) → (left ≡ 0 → ⊥) → left < 2 ^ 64 → BitsDone (bit_and chunk.bits (bit_not w64 bits)) left P
    → InChunk chunk (64 * chunk.at + trailing_zeros w64 left)
asked_in chunk bits left P some small b = left_in chunk (bit_and chunk.bits (bit_not w64 bits)) left P (and_first chunk.bits (bit_not w64 bits)) some small b

-- what is known, and what was asked of the others
pub asked_all : (active : List (Symbol × Symbol)) (all : List Symbol) (variable : ℕ) (chunk : Chunk) (bits left : ℕ) → bits < 2 ^ 64 → left ≡ 0
    → ApartFrom active all variable (record { at = chunk.at; bits = bits })
    → BitsDone (bit_and chunk.bits (bit_not w64 bits)) left (λ k. ApartAt active all variable (64 * chunk.at + k)) → ApartFrom active all variable chunk
asked_all active all variable chunk bits left small none known done n i = search (rules, all_done, done, not_known)

pub apart_both : (active : List (Symbol × Symbol)) (all : List Symbol) (variable : ℕ) (chunk : Chunk) (bits : ℕ)
    → ApartFrom active all variable chunk → ApartFrom active all variable (record { at = chunk.at; bits = bits }) → ApartFrom active all variable (record { at = chunk.at; bits = bit_or chunk.bits bits })
apart_both active all variable chunk bits one other n i = elim (or_cases chunk.bits bits i.0 i.2) [ inl b ↦ one n (i.0, i.1, b, i.3) | inr b ↦ other n (i.0, i.1, b, i.3) ]

-- nothing is left to ask
pub all_known : (active : List (Symbol × Symbol)) (all : List Symbol) (variable : ℕ) (chunk : Chunk) (bits : ℕ) → bits < 2 ^ 64 → bit_and chunk.bits (bit_not w64 bits) ≡ 0
    → ApartFrom active all variable (record { at = chunk.at; bits = bits }) → ApartFrom active all variable chunk
all_known active all variable chunk bits small none known n i = elim (not_known chunk.bits bits i.0 small i.1 i.2) [
  | inl b ↦ absurd (omega (arith, b, ap (λ w. bit_at w i.0) none, bit_at-zero i.0))
  | inr b ↦ known n (i.0, i.1, b, i.3)
]
