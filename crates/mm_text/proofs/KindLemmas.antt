-- Kinds of words, and marks, against how they are spelled.
use Rattle.std.proofs.Common.{[], ◌≡◌, ℕ, suc, zero, ◌<◌, ◌≤◌, true, false, not, eqb, ◌||◌, List, ◌∷◌, length, get_or, drop, Option, IfSome, Some, None, Contains, refl, sym, ap, ◌∙◌, arith, inl, inr}
use Rattle.std.proofs.{Common.{◌⊎◌, eq-eqb}, lemmas.Grind.{common_steps}}
use Rattle.std.{proofs.lemmas.Bool.{cases_Bool, cond-false, eqb-true, ne_eqb, false≢true, or_left, or_right, or_cases, and_parts, false_from_ne_true, not-true}, specs.List.{list_any, prefix_len}}
use Rattle.std.specs.Prelude.{option_map, ◌==◌}
use Rattle.mm_text.specs.{declared.word.{Keyword.{Keyword}, WordKind.{WordKind}}, Language.Run.{is_white, is_solid, ends_run}}
use Rattle.mm_text.specs.{Language.Spelling.{spelling, IsSpelled, HoldsMark, HasBytesAt, opening, closing}, Code.LeftToRight.{keyword_at, plain_unless, word_kind, is_mark, holds_mark, has_dollar}}
use Rattle.mm_text.specs.declared.word.WordKind.TheVariants as kinds

-- ---- a `$` somewhere

any_contains : (bytes : List ℕ) → list_any (λ c. c == 36) bytes ≡ true → Contains bytes 36
any_contains [] e = absurd cc
any_contains (c ∷ bytes) e =
    elim (or_cases (eqb c 36) (list_any (λ c. c == 36) bytes) e) [
      | inl here ↦ (0, omega arith, eqb-true c 36 here)
      | inr later ↦ let w = any_contains bytes later in (suc w.0, omega (arith, w.1), w.2)
    ]

contains_at : (bytes : List ℕ) (k : ℕ) → k < length bytes → get_or bytes k 36 ≡ 36 → list_any (λ c. c == 36) bytes ≡ true
contains_at [] k lt e = absurd (omega arith)
contains_at (c ∷ bytes) zero lt e = or_left (eqb c 36) (list_any (λ c. c == 36) bytes) (eq-eqb c 36 e)
contains_at (c ∷ bytes) (suc k) lt e = or_right (eqb c 36) (list_any (λ c. c == 36) bytes) (contains_at bytes k (omega arith) e)

-- ---- keywords

keyword_is : (b : ℕ) (k : Keyword) → keyword_at b ≡ Some k → 36 ∷ b ∷ [] ≡ spelling k
keyword_is b k = grind (arith, common_steps) steps 200000

none_white : (k : Keyword) → is_white (get_or (spelling k) 1 0) ≡ false
unfolding is_white
none_white k = grind (arith, common_steps) steps 200000

-- a keyword before white space, or before the end, is a whole run
keyword_here : (b : ℕ) (k : Keyword) (bytes : List ℕ) → keyword_at b ≡ Some k → ends_run bytes ≡ true → prefix_len is_solid (36 ∷ b ∷ bytes) ≡ 2
unfolding is_white
keyword_here b k [] is ends = rw (ap (λ (run : List ℕ). is_white (get_or run 1 0)) (keyword_is b k is) ∙ none_white k) refl
keyword_here b k (c ∷ bytes) is ends = rw (ap (λ (run : List ℕ). is_white (get_or run 1 0)) (keyword_is b k is) ∙ none_white k, ends) refl

pub keyword_run_len : (bytes : List ℕ) (found : Option Keyword) → 2 ≤ length bytes → get_or bytes 0 0 ≡ 36 → ends_run (drop 2 bytes) ≡ true → found ≡ keyword_at (get_or bytes 1 0) → IfSome found (λ _. prefix_len is_solid bytes ≡ 2)
keyword_run_len bytes None some first ends is = tt
keyword_run_len (a ∷ b ∷ bytes) (Some k) some first ends is = rw first (keyword_here b k bytes (sym is) ends)
keyword_run_len _ (Some k) some first ends is = absurd (omega arith)

-- a run with no `$`, or one with a `$` that is no keyword
plain_is : (bytes : List ℕ) (kind : WordKind) → plain_unless (list_any (λ c. c == 36) bytes) ≡ Some kind → IsSpelled kind bytes
plain_is bytes kind e = grind (arith, common_steps) steps 200000

pair_other : (a b : ℕ) → eqb a 36 ≡ false → word_kind (a ∷ b ∷ []) ≡ plain_unless (list_any (λ c. c == 36) (a ∷ b ∷ []))
pair_other a b other = cond-false (eqb a 36) (option_map kinds.Keyword (keyword_at b)) (plain_unless (list_any (λ c. c == 36) (a ∷ b ∷ []))) other

keyword_spelled : (b : ℕ) (found : Option Keyword) (kind : WordKind) → keyword_at b ≡ found → option_map kinds.Keyword found ≡ Some kind → IsSpelled kind (36 ∷ b ∷ [])
keyword_spelled b found kind is e = grind (arith, common_steps) steps 200000

-- a kind is found exactly when the bytes spell it
pub kind_spelled : (bytes : List ℕ) (kind : WordKind) → word_kind bytes ≡ Some kind → IsSpelled kind bytes
kind_spelled [] kind e = plain_is [] kind e
kind_spelled (a ∷ []) kind e = plain_is (a ∷ []) kind e
kind_spelled (a ∷ b ∷ []) kind e = grind (arith, cases_Bool (eqb a 36), eqb-true, keyword_spelled, plain_is, pair_other) steps 200000
kind_spelled (a ∷ b ∷ c ∷ bytes) kind e = plain_is (a ∷ b ∷ c ∷ bytes) kind e

plain_kind : (bytes : List ℕ) → ¬ Contains bytes 36 → plain_unless (list_any (λ c. c == 36) bytes) ≡ Some kinds.Plain
plain_kind bytes none = ap plain_unless (false_from_ne_true (list_any (λ c. c == 36) bytes) (λ e. none (any_contains bytes e)))

pub spelled_kind : (kind : WordKind) (bytes : List ℕ) → IsSpelled kind bytes → word_kind bytes ≡ Some kind
spelled_kind (kinds.Keyword k) bytes e = ap word_kind e ∙ (grind (arith, common_steps) steps 200000)
spelled_kind kinds.Plain [] none = plain_kind [] none
spelled_kind kinds.Plain (a ∷ []) none = plain_kind (a ∷ []) none
spelled_kind kinds.Plain (a ∷ b ∷ []) none = let other : eqb a 36 ≡ false = ne_eqb a 36 (λ e. none (0, omega arith, e)) in pair_other a b other ∙ plain_kind (a ∷ b ∷ []) none
spelled_kind kinds.Plain (a ∷ b ∷ c ∷ bytes) none = plain_kind (a ∷ b ∷ c ∷ bytes) none

pub no_kind : (bytes : List ℕ) → word_kind bytes ≡ None → Contains bytes 36
no_kind bytes e = grind (arith, common_steps, cases_Bool, eqb-true, pair_other, any_contains) steps 200000

-- ---- marks

pub mark_stands : (bytes : List ℕ) → holds_mark bytes ≡ true → HoldsMark bytes
mark_stands (a ∷ b ∷ bytes) e =
    elim (or_cases (is_mark a b) (holds_mark (b ∷ bytes)) e) [
      | inl here ↦ (0, (grind (arith, common_steps) steps 200000))
      | inr later ↦ let w = mark_stands
          (b ∷ bytes) later in (suc w.0, w.1)
    ]
mark_stands _ e = absurd cc

stands_at : (bytes : List ℕ) (k : ℕ) → HasBytesAt bytes opening k ⊎ HasBytesAt bytes closing k → holds_mark bytes ≡ true
stands_at [] zero (inl e) = absurd cc
stands_at [] zero (inr e) = absurd cc
stands_at [] (suc k) (inl e) = absurd cc
stands_at [] (suc k) (inr e) = absurd cc
stands_at (a ∷ []) zero (inl e) = absurd cc
stands_at (a ∷ []) zero (inr e) = absurd cc
stands_at (a ∷ []) (suc k) h = absurd (false≢true (stands_at [] k h))
stands_at (a ∷ b ∷ bytes) zero (inl e) = let a-is : a ≡ 36 = cc in let b-is : b ≡ 40 = cc in rw (a-is, b-is) refl
stands_at (a ∷ b ∷ bytes) zero (inr e) = let a-is : a ≡ 36 = cc in let b-is : b ≡ 41 = cc in rw (a-is, b-is) refl
stands_at (a ∷ b ∷ bytes) (suc k) h = or_right (is_mark a b) (holds_mark (b ∷ bytes)) (stands_at (b ∷ bytes) k h)

pub stands_mark : (bytes : List ℕ) → HoldsMark bytes → holds_mark bytes ≡ true
stands_mark bytes h = stands_at bytes h.0 h.1

-- ---- runs without a `$`

pub plain_word : (bytes : List ℕ) → not (has_dollar bytes) ≡ true → word_kind bytes ≡ Some kinds.Plain
plain_word bytes none = grind (arith, common_steps, false≢true, not-true, spelled_kind, contains_at) steps 200000

mark_dollar : (bytes : List ℕ) → holds_mark bytes ≡ true → has_dollar bytes ≡ true
mark_dollar (a ∷ b ∷ bytes) e =
    elim (or_cases (is_mark a b) (holds_mark (b ∷ bytes)) e) [
      | inl here ↦ or_left (eqb a 36) (has_dollar (b ∷ bytes)) (and_parts (eqb a 36) (eqb b 40 || eqb b 41) here).0
      | inr later ↦ or_right (eqb a 36) (has_dollar (b ∷ bytes)) (mark_dollar (b ∷ bytes) later)
    ]
mark_dollar _ e = absurd cc

pub no_mark : (bytes : List ℕ) → not (has_dollar bytes) ≡ true → ¬ HoldsMark bytes
no_mark bytes none h = false≢true (sym (not-true (has_dollar bytes) none) ∙ mark_dollar bytes (stands_mark bytes h))
