-- What was found for pairs that were looked up: after one more item, and what it says of active pairs.
use Rattle.std.proofs.Common.{rules, subst, ◌≡◌, ℕ, zero, suc, ◌<◌, ◌≤◌, Bool, true, false, cond, HashMap, Option, Some, None, List, [], ◌∷◌, ◌++◌, length, take, drop, refl, sym, ◌∙◌, ap}
use Rattle.std.proofs.{Common.{take-append-drop, length-append, arith}, lemmas.{Grind.{common_steps}, Bool.{and_parts, false≢true}, List.{drop-append-le}, Option.{same_Some, slice_get_within}}}
use Rattle.std.specs.{Prelude.{Contains, IfSome, IfNone, is_some, nat_eq}, HashMap.{get}}
use Rattle.mm_frame.specs.Code.{LastItems.{IsRising, is_active_at}, BlockMarks.{stays_by}, Numbers.{IsNameNumber}, KeptDisjointRows.{row_at, IsDisjointAt, IsCommon, ReadsPairs}}
use Rattle.mm_frame.specs.{Code.KeptAnswers.{IsFoundBefore, IsKnownPair, IsPairAnswer, KnowsAnswers}, declared.pair_answers.{PairAnswer.{PairAnswer}, PairAnswers.{PairAnswers}}}
use Rattle.mm_frame.specs.{declared.disjoint_rows.DisjointRows.{DisjointRows}, Language.{Marks.{Mark}, Framing.{active_pairs}, Answering.{are_paired, same_numbers}}}
use Rattle.mm_frame.proofs.lemmas.scope.ActiveBySplit.{stays_join, stays_front}
use Rattle.mm_frame.proofs.lemmas.pairs.DisjointRowLemmas.{disjoint_front, disjoint_cases, active_before, HavePair, paired_from, paired_to, active_at_marks}
use native.Mathlib.Decide.{dec_lt}
use Rattle.mm_statement.specs.Language.Item.{Said}
use Rattle.mm_machine.specs.Language.NumberedSymbols.{as_variable}

-- ---- what is there, of what there is

pub some_weaker : {P Q : ℕ → Type 0} (o : Option ℕ) → ((n : ℕ) → P n → Q n) → IfSome o P → IfSome o Q
some_weaker o f h = grind (arith, common_steps) steps 200000

pub none_weaker : {P Q : Type 0} (o : Option ℕ) → (P → Q) → IfNone o P → IfNone o Q
none_weaker o f h = grind (arith, common_steps) steps 200000

-- ---- one more item

-- what was active before an active item is active
drop_on : {X : Type 0} (xs : List X) (m n : ℕ) → m ≤ n → (front : List X) × (drop m xs ≡ front ++ drop n xs)
drop_on xs zero n l = (take n xs, sym (take-append-drop n xs))
drop_on [] (suc m) n l = grind (arith, common_steps) steps 200000
drop_on (x ∷ xs) (suc m) zero l = absurd (omega arith)
drop_on (x ∷ xs) (suc m) (suc n) l = drop_on xs m n (omega arith)

pub active_below : (before : List Said) (item : Said) (m n : ℕ) → m ≤ n → n < length before → is_active_at before m ≡ true → is_active_at (before ++ item ∷ []) n ≡ true → is_active_at (before ++ item ∷ []) m ≡ true
active_below before item m n l within first later =
    grind (arith, common_steps, drop_on before (suc m) (suc n) (omega arith), drop-append-le (suc n) before (item ∷ []) (omega arith), drop-append-le (suc m) before (item ∷ []) (omega arith), stays_join, stays_front) steps 500000

disjoint_back : (before : List Said) (item : Said) (name : List ℕ) (n : ℕ) → n < length before → IsDisjointAt (before ++ item ∷ []) name n → IsDisjointAt before name n
disjoint_back before item name n l d = grind (arith, common_steps, disjoint_cases before item name n d) steps 200000

answer_more : (before : List Said) (item : Said) (x y : List ℕ) (below : ℕ) (common : Option ℕ) → IsPairAnswer before x y below common → IsPairAnswer (before ++ item ∷ []) x y below common
answer_more before item x y below common a =
    let long = length-append before (item ∷ []) in
    record {
      within = omega arith;
      cover = λ n l p q active. (
          let first = disjoint_back before item x n (omega arith) p in
          let found = a.cover n l first (disjoint_back before item y n (omega arith) q) (active_before before item x n first active) in
          record { first = found.first; found = found.found; least = found.least; active = active_below before item found.first n found.least (omega arith) found.active active }
          );
      there = λ f e. let d = a.there f e in (disjoint_front before item x f d.0, disjoint_front before item y f d.1);
    }

pub answers_more : (all : List (List ℕ)) (before : List Said) (item : Said) (answers : PairAnswers) → KnowsAnswers all before answers → KnowsAnswers all (before ++ item ∷ []) answers
answers_more all before item answers knows both answer found x y a b = answer_more before item x y answer.below answer.common (knows both answer found x y a b)

-- one more answer that is kept
pub answer_kept : {S : Type 0} (all : List (List ℕ)) (before : List Said) (earlier later : HashMap (ℕ × ℕ) PairAnswer S) (both : ℕ × ℕ) (answer : PairAnswer) → IsKnownPair all before both answer
    → ((other : ℕ × ℕ) → get same_numbers later other ≡ cond (same_numbers both other) (Some answer) (get same_numbers earlier other))
    → ((other : ℕ × ℕ) (kept : PairAnswer) → get same_numbers earlier other ≡ Some kept → IsKnownPair all before other kept)
    → (other : ℕ × ℕ) (kept : PairAnswer) → get same_numbers later other ≡ Some kept → IsKnownPair all before other kept
answer_kept all before earlier later both answer is put knows other kept e = by (same_numbers both other) refl (sym (put other) ∙ e)
  where
    by : (b : Bool) → same_numbers both other ≡ b → cond b (Some answer) (get same_numbers earlier other) ≡ Some kept → IsKnownPair all before other kept
    by true t o x y = search (rules, is x y, same_Some, and_parts)
    by false t o x y = knows other kept o x y

-- ---- what an answer says

pair_common : (all : List (List ℕ)) (before : List Said) (table : DisjointRows) (blocks : List Mark) (first second : ℕ) (x y : List ℕ) → ReadsPairs all before table blocks → IsNameNumber all first x → IsNameNumber all second y → (n : ℕ)
    → HavePair before x y n → IsCommon blocks (row_at table first) (row_at table second) n
pair_common all before table blocks first second x y k a b n have = grind (arith, common_steps, k.knows first x a, k.knows second y b, active_at_marks before blocks n k.marks) steps 200000

pub names_apart : (all : List (List ℕ)) (first second : ℕ) (x y : List ℕ) (before : List Said) (table : DisjointRows) (blocks : List Mark)
    → ReadsPairs all before table blocks → IsNameNumber all first x → IsNameNumber all second y → (first ≡ second → ⊥) → x ≡ y → ⊥
names_apart all first second x y before table blocks k a b apart e = apart (k.distinct first second y (a ∙ ap Some e) b)

-- what was found is active yet
abbrev pub IsActiveYet : List Mark → Option ℕ → Type 0
IsActiveYet blocks common = (n : ℕ) × (common ≡ Some n) × (stays_by (drop (suc n) blocks) ≡ true)

-- or not
abbrev pub IsEnded : List Mark → Option ℕ → Type 0
IsEnded blocks common = (n : ℕ) → common ≡ Some n → stays_by (drop (suc n) blocks) ≡ false

pub active_told : (all : List (List ℕ)) (before : List Said) (table : DisjointRows) (blocks : List Mark) (first second : ℕ) (x y : List ℕ) (below : ℕ)
    (common : Option ℕ) → ReadsPairs all before table blocks → IsNameNumber all first x → IsNameNumber all second y
    → (first ≡ second → ⊥) → IsPairAnswer before x y below common → IsActiveYet blocks common → true ≡ are_paired (active_pairs before) (as_variable x, as_variable y)
active_told all before table blocks first second x y below common k a b apart answer yet =
    let there = answer.there yet.0 yet.1 in
    sym (paired_to before x y yet.0 (names_apart all first second x y before table blocks k a b apart) (record { first = there.0; second = there.1; stayed = active_at_marks before blocks yet.0 k.marks ∙ yet.2 }))

-- if none is active of those that were looked at, an active one is no earlier
pub later_common : (all : List (List ℕ)) (before : List Said) (table : DisjointRows) (blocks : List Mark) (first second : ℕ) (x y : List ℕ) (below : ℕ)
    (common : Option ℕ) → ReadsPairs all before table blocks → IsNameNumber all first x → IsNameNumber all second y
    → IsPairAnswer before x y below common → IsEnded blocks common → (n : ℕ) → HavePair before x y n → below ≤ n
later_common all before table blocks first second x y below common k a b answer ended n have = grind (arith, common_steps, active_at_marks, dec_lt, false≢true) steps 200000

-- the first from there on, if there is one
pub record IsFirstFrom (blocks : List Mark) (row other : List ℕ) (from : ℕ) (common : Option ℕ) : Type 0 where
  pub some : IfSome common (IsCommon blocks row other)
  pub least : IfSome common (λ n. (m : ℕ) → from ≤ m → IsCommon blocks row other m → n ≤ m)
  pub none : IfNone common ((n : ℕ) → from ≤ n → IsCommon blocks row other n → ⊥)

-- of rows that are those of a table
pub first_in_rows : (blocks : List Mark) (row other left right : List ℕ) (from : ℕ) (common : Option ℕ) → row ≡ left → other ≡ right → IsRising left
    → IsRising right
    → (IsRising row → IsRising other → IsFirstFrom blocks row other from common) → IsFirstFrom blocks left right from common
first_in_rows blocks row other left right from common e f r s first =
    subst (λ w. IsFirstFrom blocks w right from common) e
    (subst (λ w. IsFirstFrom blocks row w from common) f (first (subst IsRising (sym e) r) (subst IsRising (sym f) s)))

pub first_told : (all : List (List ℕ)) (before : List Said) (table : DisjointRows) (blocks : List Mark) (first second : ℕ) (x y : List ℕ) (from : ℕ)
    (common : Option ℕ) → ReadsPairs all before table blocks → IsNameNumber all first x → IsNameNumber all second y
    → (first ≡ second → ⊥) → ((n : ℕ) → HavePair before x y n → from ≤ n) → IsFirstFrom blocks (row_at table first) (row_at table second) from common → is_some common ≡ are_paired (active_pairs before) (as_variable x, as_variable y)
first_told all before table blocks first second x y from (Some n) k a b apart later f =
    sym (paired_to before x y n (names_apart all first second x y before table blocks k a b apart)
    (record {
      first = (k.knows first x a).there n f.some.0;
      second =
          (k.knows second y b).there n f.some.1;
      stayed = active_at_marks before blocks n k.marks ∙ f.some.2;
    }))
first_told all before table blocks first second x y from None k a b apart later f = by_test (are_paired (active_pairs before) (as_variable x, as_variable y)) refl
  where
    by_test : (r : Bool) → are_paired (active_pairs before) (as_variable x, as_variable y) ≡ r → false ≡ are_paired (active_pairs before) (as_variable x, as_variable y)
    by_test false e = sym e
    by_test true e = let p = paired_from before x y k.sound e in absurd (f.none p.1 (later p.1 p.2) (pair_common all before table blocks first second x y k a b p.1 p.2))

-- so there is one more answer
pub next_answer : (all : List (List ℕ)) (before : List Said) (table : DisjointRows) (blocks : List Mark) (first second : ℕ) (x y : List ℕ) (below end : ℕ)
    (known common : Option ℕ) → ReadsPairs all before table blocks → IsNameNumber all first x → IsNameNumber all second y
    → IsPairAnswer before x y below known → IsEnded blocks known → IsFirstFrom blocks (row_at table first) (row_at table second) below common
    → ((count : ℕ) → ((n : ℕ) → Contains (row_at table first) n → n < count) → end ≤ count) → IsPairAnswer before x y end common
next_answer all before table blocks first second x y below end known common k a b answer ended f short = record {
  within = short (length before) (λ n c. (let d = (k.knows first x a).there n c in slice_get_within before n d.item d.there));
  cover = λ n l p q active. (
      let have : HavePair before x y n = record { first = p; second = q; stayed = active } in
      by_common common f (later_common all before table blocks first second x y below known k a b answer ended n have) (pair_common all before table blocks first second x y k a b n have)
      );
  there = grind (arith, k.knows first x a, k.knows second y b) steps 200000;
}
  where
    by_common : (o : Option ℕ) → IsFirstFrom blocks (row_at table first) (row_at table second) below o → {n : ℕ} → below ≤ n → IsCommon blocks (row_at table first) (row_at table second) n → IsFoundBefore before o n
    by_common None g {n} l c = absurd (g.none n l c)
    by_common (Some m) g {n} l c = record { first = m; found = refl; least = g.least n l c; active = active_at_marks before blocks m k.marks ∙ (g.some).2 }
