-- A report is clean: it has no line before its summary.
use Rattle.std.proofs.lemmas.{Grind.{common_steps}, List.Sums.{sum_by-cons}}
use Rattle.std.proofs.Common.{[], ◌≡◌, ℕ, Bool, false, cond, zero-add, IsTrue, ◌+◌, List, ◌∷◌, length, refl, ◌∙◌, arith, nat_eq, count_by, eqb-true, eq-eqb}
use Rattle.mm_report.specs.{mm_statement.Language.Item.{Said}, mm_keep.{declared.tally.Tally.{Tally}, Language.Findings.{counted}}}
use Rattle.mm_report.specs.{mm_keep.Language.Told.{Told, Quiet, AnAxiom, Proved, Incomplete, Wrong, Fault, counts, is_incomplete, is_wrong, is_fault}, Language.Report.{lines}}

-- ---- counts

abbrev unit : Bool → ℕ
unit b = cond b 1 0

count_cons : {X : Type 0} (test : X → Bool) (x : X) (xs : List X) → count_by test (x ∷ xs) ≡ unit (test x) + count_by test xs
count_cons test x xs = sum_by-cons (λ y. unit (test y)) x xs

-- nothing is incomplete, wrong or at fault
abbrev pub HaveNoLines : List Told → Type 0
HaveNoLines all = (count_by is_incomplete all ≡ 0) × (count_by is_wrong all ≡ 0) × (count_by is_fault all ≡ 0)

-- what has no line is not counted
none_more : (one : Told) (all : List Told) → is_incomplete one ≡ false → is_wrong one ≡ false → is_fault one ≡ false → HaveNoLines all → HaveNoLines (one ∷ all)
none_more one all i w f p = (count_cons is_incomplete one all ∙ rw i (zero-add _ ∙ p.0), count_cons is_wrong one all ∙ rw w (zero-add _ ∙ p.1), count_cons is_fault one all ∙ rw f (zero-add _ ∙ p.2))

none_behind : (one : Told) (all : List Told) → is_incomplete one ≡ false → is_wrong one ≡ false → is_fault one ≡ false → HaveNoLines (one ∷ all) → HaveNoLines all
none_behind one all i w f p = grind (arith, common_steps, count_cons, zero-add) steps 200000

-- a report has no line before its summary if nothing is incomplete, wrong or at fault
pub no_lines : (names : List (List ℕ)) (items : List Said) (all : List Told) → HaveNoLines all → lines names items all ≡ []
no_lines names (x ∷ xs) (Incomplete at ∷ ys) n = absurd (omega (arith, n.0, count_cons is_incomplete (Incomplete at) ys))
no_lines names (x ∷ xs) (Wrong number at ∷ ys) n = absurd (omega (arith, n.1, count_cons is_wrong (Wrong number at) ys))
no_lines names (x ∷ xs) (Fault number shown ∷ ys) n = absurd (omega (arith, n.2, count_cons is_fault (Fault number shown) ys))
no_lines names (x ∷ xs) (one ∷ ys) n = no_lines names xs ys (none_behind one ys refl refl refl n)
no_lines names _ _ n = refl

-- and it has one if something is
pub some_line : (names : List (List ℕ)) (items : List Said) (all : List Told) → length all ≡ length items → lines names items all ≡ [] → HaveNoLines all
some_line names [] [] e l = (refl, refl, refl)
some_line names (x ∷ xs) (Quiet ∷ ys) e l = none_more Quiet ys refl refl refl (some_line names xs ys (cc) l)
some_line names (x ∷ xs) (AnAxiom ∷ ys) e l = none_more AnAxiom ys refl refl refl (some_line names xs ys (cc) l)
some_line names (x ∷ xs) (Proved ∷ ys) e l = none_more Proved ys refl refl refl (some_line names xs ys (cc) l)
some_line names _ _ e l = cc

-- ---- the answer

abbrev pub IsAnswer : List (List ℕ) → List Said → List Told → Bool → Type 0
IsAnswer names items all clean = (IsTrue clean → lines names items all ≡ []) × (lines names items all ≡ [] → IsTrue clean)

module _ (names : List (List ℕ)) (items : List Said) (all : List Told) (tally : Tally) (count : length all ≡ length items) (same : counted tally ≡ counts all) where
  -- nothing is incomplete or wrong: it is clean exactly when nothing is at fault
  pub clean_by_faults : tally.incomplete ≡ 0 → tally.wrong ≡ 0 → IsAnswer names items all (nat_eq tally.faults 0)
  clean_by_faults i w = grind (arith, common_steps, eq-eqb, eqb-true, no_lines, some_line) steps 200000

  -- it is not clean if something is incomplete or wrong
  pub not_clean : (clean : Bool) → clean ≡ false → (tally.incomplete ≡ 0 → tally.wrong ≡ 0 → ⊥) → IsAnswer names items all clean
  not_clean clean is some = grind (arith, common_steps, some_line) steps 200000
