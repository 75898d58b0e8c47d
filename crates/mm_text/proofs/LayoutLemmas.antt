-- The computed runs are the runs of the layout, and no others are.
use Rattle.std.proofs.lemmas.{Grind.{common_steps}, Bool.{cases_Bool, false≢true}}
use Rattle.std.{proofs.Common.{◌≡◌, ℕ, ◌+◌, ◌<◌, true, false, List, [], ◌∷◌, ◌++◌, length, refl, sym, ap, ◌∙◌, arith, inl, inr, append-nil}, specs.List.{AllByRecursion}}
use Rattle.mm_text.specs.Language.{Run.{Run, is_white, ends_run, with_first_byte, runs_from}, Layout.{IsGap, IsLaidOut}}

gap_more : (at b : ℕ) (bytes : List ℕ) (runs : List Run) → is_white b ≡ true → IsLaidOut (at + 1) bytes runs → IsLaidOut at (b ∷ bytes) runs
gap_more at b bytes [] white h = (white, h)
gap_more at b bytes (run ∷ runs) white h = record {
  gap = b ∷ h.gap;
  later = h.later;
  joined = ap (λ (bs : List ℕ). b ∷ bs) h.joined;
  white = (white, h.white);
  solid = h.solid;
  some = h.some;
  place = h.place ∙ (omega arith);
  ends = h.ends;
  goes_on = h.goes_on;
}

-- a run goes on in front
run_more : (at b : ℕ) (bytes : List ℕ) (runs : List Run) → is_white b ≡ false → ends_run bytes ≡ false → IsLaidOut (at + 1) bytes runs → IsLaidOut at (b ∷ bytes) (with_first_byte at b runs)
run_more at b [] runs solid on h = absurd cc
run_more at b (c ∷ bytes) [] solid on h = absurd (false≢true (sym on ∙ h.0))
run_more at b (c ∷ bytes) (run ∷ runs) solid on h = by_gap h.gap h.white h.joined h.place where
  by_gap : (gap : List ℕ) → IsGap gap → c ∷ bytes ≡ gap ++ (run.bytes ++ h.later) → run.start ≡ at + 1 + length gap → IsLaidOut at (b ∷ c ∷ bytes) (with_first_byte at b (run ∷ runs))
  by_gap (g ∷ gap) white joined place = absurd (let same : c ≡ g = cc in false≢true (sym on ∙ ap is_white same ∙ white.0))
  by_gap [] white joined place = grind (arith, common_steps) steps 200000

pub laid_out : (at : ℕ) (bytes : List ℕ) → IsLaidOut at bytes (runs_from at bytes)
laid_out at [] = tt
laid_out at (b ∷ bytes) =
    elim (cases_Bool (is_white b)) [
      | inl white ↦ rw white (gap_more at b bytes (runs_from (at + 1) bytes) white (laid_out (at + 1) bytes))
      | inr solid ↦ grind (arith, common_steps, cases_Bool (ends_run bytes), laid_out (at + 1) bytes, run_more) steps 200000
    ]

gap_skip : (at : ℕ) (gap rest : List ℕ) → IsGap gap → runs_from at (gap ++ rest) ≡ runs_from (at + length gap) rest
gap_skip at [] rest h = ap (λ (k : ℕ). runs_from k rest) (omega arith)
gap_skip at (b ∷ gap) rest h = let same : at + 1 + length gap ≡ at + length (b ∷ gap) = omega arith in rw h.0 (gap_skip (at + 1) gap rest h.1 ∙ ap (λ (k : ℕ). runs_from k rest) same)

made : ℕ → List ℕ → Run
made at bytes = record { start = at; bytes = bytes }

pub front_step : (at b : ℕ) (bytes : List ℕ) → is_white b ≡ false → ends_run bytes ≡ false → runs_from at (b ∷ bytes) ≡ with_first_byte at b (runs_from (at + 1) bytes)
front_step at b bytes solid on = rw (solid, on) refl

run_take : (at b : ℕ) (bytes later : List ℕ) → is_white b ≡ false → AllByRecursion (λ b. is_white b ≡ false) bytes → ends_run later ≡ true → runs_from at (b ∷ (bytes ++ later)) ≡ made at (b ∷ bytes) ∷ runs_from (at + length (b ∷ bytes)) later
unfolding made
run_take at b [] later solid h ends = rw (solid, ends) refl
run_take at b (c ∷ bytes) later solid h ends = grind (arith, common_steps, run_take (at + 1) c bytes later h.0 h.1 ends, front_step, made) steps 200000

run_is : (at : ℕ) (bytes later : List ℕ) → 0 < length bytes → AllByRecursion (λ b. is_white b ≡ false) bytes → ends_run later ≡ true → runs_from at (bytes ++ later) ≡ made at bytes ∷ runs_from (at + length bytes) later
run_is at [] later some h ends = absurd (omega arith)
run_is at (b ∷ bytes) later some h ends = run_take at b bytes later h.0 h.1 ends

pub one_layout : (runs : List Run) (at : ℕ) (bytes : List ℕ) → IsLaidOut at bytes runs → runs_from at bytes ≡ runs
unfolding made
one_layout [] at bytes h = ap (runs_from at) (sym (append-nil bytes)) ∙ gap_skip at bytes [] h
one_layout (run ∷ runs) at bytes h = grind (arith, common_steps, one_layout runs (run.start + length run.bytes) h.later h.goes_on, gap_skip, run_is) steps 200000
