-- A renaming of symbols, one to one, keeps verdicts.
use Rattle.std.proofs.lemmas.{Grind.{common_steps}, Option.{slice_get-map}, List.{length-map, get_or-map, map-append, drop-map, Elements.{All-map}}}
use Rattle.std.proofs.Common.{◌≡◌, ◌≢◌, ℕ, ◌+◌, Option, Some, None, Ok, Err, List, ◌∷◌, length, map, take, get_or, refl, sym, ap, ap₂, ◌∙◌, subst, subst₂, arith, slice_get, Contains, All, Any, pos}
use Rattle.std.{proofs.Common.{if◌then◌else◌, []}, specs.{List.{AllZip}, Option.{option_or}, Ordering.{int_eq}}}
use Rattle.mm_machine.specs.Language.{Frame.{Symbol, Mandatory, Frame, LabelMeaning, Hypothesis, Assertion, Setting, ArePair, HasVariable}, Substitution.{substituted}}
use Rattle.mm_machine.specs.Language.Derivation.{Derives, DeriveInOrder, by_hypothesis, by_assertion, nothing, first_then, Takes, AreApart}
use Rattle.mm_machine.specs.Language.Expansion.{Step, Named, Save, Expanded, expand_one, expand_from, last_part, weight, taken_by}
use Rattle.mm_machine.specs.Language.{Faults.{AnyZip, UnderSubstitution, LackPair, last_entries, CitingFails, LabelFails, StepLineHolds}, Reaches.{Reaches, IsStepFault}, Run.{run_part}}
use Rattle.mm_machine.specs.Language.{Verdict.{Decoded, IsVerdictOnSteps}, SameProof.{IsSameStep, IsSameProof}}
use Rattle.mm_machine.specs.Language.Renaming.{IsRenaming, renamed_pair, renamed_pairs, renamed_mandatory, renamed_frame, renamed_meaning, IsRenamedSetting, renamed_setting}
use Rattle.mm_machine.specs.{Language.{Laws.{RenamingKeepsVerdict}, NamedSteps.{RunSays}}, declared.ProofNumber.{ProofNumber, TheVariants.{P07, P08, P09, P10, P11, P12, P13, P14, P15}}}
use Rattle.mm_machine.{specs.declared.{Verdict.{Verdict, TheVariants.{Proved, Incomplete, Wrong}}, stepping.RunOutcome.{RunOutcome}}, proofs.lemmas.verdicts.Moving.{verdict_moved}}
use Rattle.mm_machine.proofs.lemmas.lists.Zips.{any_at, any_place}
use Rattle.mm_machine.specs.declared.stepping.RunOutcome.TheVariants as outcomes

-- a list under a map, and under its inverse
pub map_back : {X Y : Type 0} (f : X → Y) (g : Y → X) → ((x : X) → g (f x) ≡ x) → (xs : List X) → map g (map f xs) ≡ xs
map_back f g e [] = refl
map_back f g e (x ∷ xs) = ap₂ ◌∷◌ (e x) (map_back f g e xs)

map_own : {X Y : Type 0} (f : X → Y) (g : Y → X) → ((x : X) → g (f x) ≡ x) → (xs ys : List X) → map f xs ≡ map f ys → xs ≡ ys
map_own f g e xs ys same = sym (map_back f g e xs) ∙ ap (map g) same ∙ map_back f g e ys

pub contains_map : {X Y : Type 0} (f : X → Y) (xs : List X) (x : X) → Contains xs x → Contains (map f xs) (f x)
contains_map f xs x c = grind (arith, common_steps, length-map xs f, get_or-map f xs c.0 x (f x) c.1) steps 200000

pub contains_back : {X Y : Type 0} (f : X → Y) (g : Y → X) → ((x : X) → g (f x) ≡ x) → (xs : List X) (y : Y) → Contains (map f xs) y → Contains xs (g y)
contains_back f g e xs y c = subst (λ l. Contains l (g y)) (map_back f g e xs) (contains_map g (map f xs) y c)

any_map : {X Y : Type 0} (P : X → Type 0) (Q : Y → Type 0) (f : X → Y) (xs : List X) → Any P xs → ((x : X) → P x → Q (f x)) → Any Q (map f xs)
any_map P Q f xs a each = grind (arith, common_steps, contains_map) steps 200000

any_zip_map : {A B C D : Type 0} (R : A → B → Type 0) (S : C → D → Type 0) (f : A → C) (g : B → D) (xs : List A) (ys : List B) → AnyZip R xs ys →
    ((x : A) (y : B) → R x y → S (f x) (g y)) → AnyZip S (map f xs) (map g ys)
any_zip_map R S f g xs ys a each = let p =
    any_place R xs ys a in grind (arith, common_steps, slice_get-map f xs p.0, slice_get-map g ys p.0, any_at) steps 200000

all_zip_map : {A B C D : Type 0} (R : A → B → Type 0) (S : C → D → Type 0) (f : A → C) (g : B → D) (xs : List A) (ys : List B) → ((x : A) (y : B) → R x y → S (f x) (g y)) → AllZip R xs ys → AllZip S (map f xs) (map g ys)
all_zip_map R S f g (x ∷ xs) (y ∷ ys) each a = (each x y a.0, all_zip_map R S f g xs ys each a.1)
all_zip_map R S f g [] [] each a = a
all_zip_map R S f g _ _ each a = absurd a

-- pairs, there and back
pub pair_there : (f : Symbol → Symbol) (pairs : List (Symbol × Symbol)) (x y : Symbol) → ArePair pairs x y → ArePair (renamed_pairs f pairs) (f x) (f y)
pair_there f pairs x y are = grind (arith, common_steps, contains_map) steps 200000

pair_inverse : (f g : Symbol → Symbol) → ((s : Symbol) → g (f s) ≡ s) → (pair : Symbol × Symbol) → renamed_pair g (renamed_pair f pair) ≡ pair
pair_inverse f g e pair = λ i. (e pair.0 i, e pair.1 i)

pub pair_back : (f g : Symbol → Symbol) → ((s : Symbol) → g (f s) ≡ s) → (pairs : List (Symbol × Symbol)) (x y : Symbol) → ArePair (renamed_pairs f pairs) x y → ArePair pairs (g x) (g y)
pair_back f g e pairs x y are = subst (λ ps. ArePair ps (g x) (g y)) (map_back (renamed_pair f) (renamed_pair g) (pair_inverse f g e) pairs) (pair_there g (renamed_pairs f pairs) x y are)

-- a renaming the other way round
pub renaming_back : (to back : Symbol → Symbol) → IsRenaming to back → IsRenaming back to
renaming_back to back is = grind (arith, common_steps, is.kinds, is.again) steps 200000

-- what steps expand to knows no symbols
weight_renamed : (to : Symbol → Symbol) (place : Setting) (labels : List (List ℕ)) → weight (renamed_setting to place) labels ≡ weight place labels
weight_renamed to place [] = refl
weight_renamed to place (label ∷ labels) = grind (arith, common_steps, weight_renamed to place labels) steps 200000

part_renamed : (to : Symbol → Symbol) (place : Setting) (labels : List (List ℕ)) → last_part (renamed_setting to place) labels ≡ last_part place labels
part_renamed to place [] = refl
part_renamed to place (label ∷ labels) =
    λ i. option_or (part_renamed to place labels i) (if int_eq (weight_renamed to place (label ∷ labels) i) (pos 1) then Some (label ∷ labels) else None)

from_renamed : (to : Symbol → Symbol) (place : Setting) (o : Option Expanded) (steps : List Step) → expand_from (renamed_setting to place) o steps ≡ expand_from place o steps
from_renamed to place o [] = refl
from_renamed to place None (step ∷ steps) = refl
from_renamed to place (Some x) (step ∷ steps) = grind (arith, common_steps, from_renamed to place (expand_one place x step) steps, part_renamed) steps 200000

module _ (to back : Symbol → Symbol) (is : IsRenaming to back) where
  -- a substitution, renamed
  abbrev moved : (Symbol → List Symbol) → Symbol → List Symbol
  moved given s = map to (given (back s))

  moved_at : (given : Symbol → List Symbol) (s : Symbol) → moved given (to s) ≡ map to (given s)
  moved_at given s = ap (λ (w : Symbol). map to (given w)) (is.there s)

  pub substituted_renamed : (given : Symbol → List Symbol) (e : List Symbol) → substituted (moved given) (map to e) ≡ map to (substituted given e)
  substituted_renamed given [] = refl
  substituted_renamed given (s ∷ e) = grind (arith, common_steps, substituted_renamed given e, map-append, moved_at) steps 200000

  entries_renamed :
      (given : Symbol → List Symbol) (hs : List Mandatory) →
      map (λ (h : Mandatory). substituted (moved given) h.expression) (map (renamed_mandatory to) hs) ≡ map (map to) (map (λ (h : Mandatory). substituted given h.expression) hs)
  entries_renamed given [] = refl
  entries_renamed given (h ∷ hs) = ap₂ ◌∷◌ (substituted_renamed given h.expression) (entries_renamed given hs)

  -- variables, there and back
  pub has_there : (xs : List Symbol) (x : Symbol) → HasVariable xs x → HasVariable (map to xs) (to x)
  has_there xs x h = (contains_map to xs x h.0, is.kinds x ∙ h.1)

  pub has_back : (xs : List Symbol) (x : Symbol) → HasVariable (map to xs) x → HasVariable xs (back x)
  has_back xs x h = (contains_back to back is.there xs x h.0, (renaming_back to back is).kinds x ∙ h.1)

  other_back : (x y : Symbol) → x ≢ y → back x ≢ back y
  other_back x y n e = n (sym (is.again x) ∙ ap to e ∙ is.again y)

  apart_renamed : (active : List (Symbol × Symbol)) (xs ys : List Symbol) → AreApart active xs ys → AreApart (renamed_pairs to active) (map to xs) (map to ys)
  apart_renamed active xs ys a = record {
    unshared = λ s. a.unshared (back s.0, has_back xs s.0 s.1, has_back ys s.0 s.2);
    paired = λ x y h k n. subst₂ (ArePair (renamed_pairs to active)) (is.again x) (is.again y) (pair_there to active (back x) (back y) (a.paired (back x) (back y) (has_back xs x h) (has_back ys y k) (other_back x y n)));
  }

  all_apart :
      (active pairs : List (Symbol × Symbol)) (given : Symbol → List Symbol) → All (λ pair. AreApart active (given pair.0) (given pair.1)) pairs →
      All (λ pair. AreApart (renamed_pairs to active) (moved given pair.0) (moved given pair.1)) (renamed_pairs to pairs)
  all_apart active pairs given all = All-map
      (λ pair. AreApart (renamed_pairs to active) (moved given pair.0) (moved given pair.1)) (renamed_pair to) pairs
      (λ k d l. (let pair = get_or pairs k d in
      subst₂ (AreApart (renamed_pairs to active)) (sym (moved_at given pair.0)) (sym (moved_at given pair.1)) (apart_renamed active (given pair.0) (given pair.1) (all k d l))))

  takes_renamed :
      (active : List (Symbol × Symbol)) (frame : Frame) (given : Symbol → List Symbol) (entries : List (List Symbol)) (result : List Symbol) →
      Takes 1000000 active frame given entries result → Takes 1000000 (renamed_pairs to active) (renamed_frame to frame) (moved given) (map (map to) entries) (map to result)
  takes_renamed active frame given entries result t = grind (arith, common_steps, all_apart, entries_renamed, length-map, substituted_renamed) steps 200000

  mutual
    -- what a list derives, it derives renamed
    derived_renamed : (place : Setting) {labels : List (List ℕ)} {e : List Symbol} → Derives place labels e → Derives (renamed_setting to place) labels (map to e)
    derived_renamed place (by_hypothesis at) = by_hypothesis (ap (renamed_meaning to) at)
    derived_renamed place (by_assertion {frame = frame} {given = given} {entries = entries} {result = result} d at t) =
        by_assertion (joined_renamed place d) (ap (renamed_meaning to) at) (takes_renamed place.active frame given entries result t)

    joined_renamed : (place : Setting) {labels : List (List ℕ)} {es : List (List Symbol)} → DeriveInOrder place labels es → DeriveInOrder (renamed_setting to place) labels (map (map to) es)
    joined_renamed place nothing = nothing
    joined_renamed place (first_then h t) = first_then (derived_renamed place h) (joined_renamed place t)

  reached_renamed : (place : Setting) (steps : List Step) (stack : List (List Symbol)) → Reaches place steps stack → Reaches (renamed_setting to place) steps (map (map to) stack)
  reached_renamed place steps stack r = grind (arith, common_steps, from_renamed, joined_renamed) steps 200000

  -- a line that holds, renamed
  last_entries_renamed : (frame : Frame) (stack : List (List Symbol)) → last_entries (renamed_frame to frame) (map (map to) stack) ≡ map (map to) (last_entries frame stack)
  last_entries_renamed frame stack = grind (arith, common_steps, drop-map, length-map) steps 200000

  under_renamed :
      (frame : Frame) (stack : List (List Symbol)) (P Q : (Symbol → List Symbol) → Type 0) → UnderSubstitution frame (last_entries frame stack) P →
      ((given : Symbol → List Symbol) → P given → Q (moved given)) → UnderSubstitution (renamed_frame to frame) (map (map to) (last_entries frame stack)) Q
  under_renamed frame stack P Q u each = grind (arith, common_steps, all_zip_map, substituted_renamed) steps 200000

  heads_own : (xs ys : List Symbol) → slice_get (map to xs) 0 ≡ slice_get (map to ys) 0 → slice_get xs 0 ≡ slice_get ys 0
  heads_own xs ys e = grind (arith, common_steps, is.there, slice_get-map) steps 200000

  lack_renamed : (active : List (Symbol × Symbol)) (xs ys : List Symbol) → LackPair active xs ys → LackPair (renamed_pairs to active) (map to xs) (map to ys)
  lack_renamed active xs ys l =
      let other : to l.0 ≢ to l.1 = λ e. l.4 (sym (is.there l.0) ∙ ap back e ∙ is.there l.1) in
      let lacks : ArePair (renamed_pairs to active) (to l.0) (to l.1) → ⊥ = λ are.
      l.5 (subst₂ (ArePair active) (is.there l.0) (is.there l.1) (pair_back to back is.there active (to l.0) (to l.1) are)) in
      (to l.0, to l.1, has_there xs l.0 l.2, has_there ys l.1 l.3, other, lacks)

  citing_renamed : (active : List (Symbol × Symbol)) (frame : Frame) (stack : List (List Symbol)) (number : ProofNumber)
      → CitingFails 1000000 active frame stack number → CitingFails 1000000 (renamed_pairs to active) (renamed_frame to frame) (map (map to) stack) number
  citing_renamed active frame stack P07 c = let n = length-map stack (map to) in let m = length-map frame.hypotheses (renamed_mandatory to) in omega arith
  citing_renamed active frame stack P08 c = grind (arith, common_steps, any_zip_map, last_entries_renamed, heads_own) steps 200000
  citing_renamed active frame stack P09 c = rw (last_entries_renamed frame stack) (under_renamed frame stack _ _ c (λ given z.
      any_zip_map _ _ (renamed_mandatory to) (map to) frame.hypotheses (last_entries frame stack) z
      (λ h e r. (r.0, λ same. r.1 (map_own to back is.there (substituted given h.expression) e (sym (substituted_renamed given h.expression) ∙ same))))))
  citing_renamed active frame stack P10 c = rw (last_entries_renamed frame stack) (under_renamed frame stack _ _ c (λ given a.
      any_map _ _ (renamed_pair to) frame.pairs a
      (λ pair s. (to s.0, rw (moved_at given pair.0) (has_there (given pair.0) s.0 s.1), rw (moved_at given pair.1) (has_there (given pair.1) s.0 s.2)))))
  citing_renamed active frame stack P11 c = rw (last_entries_renamed frame stack) (under_renamed frame stack _ _ c (λ given a.
      any_map _ _ (renamed_pair to) frame.pairs a
      (λ pair l. subst₂ (LackPair (renamed_pairs to active)) (sym (moved_at given pair.0)) (sym (moved_at given pair.1))
      (lack_renamed active (given pair.0) (given pair.1) l))))
  citing_renamed active frame stack P12 c = rw (last_entries_renamed frame stack) (under_renamed frame stack _ _ c
      (λ given long. (let same = ap length (substituted_renamed given frame.expression) ∙ length-map (substituted given frame.expression) to in omega arith)))
  citing_renamed active frame stack _ c = absurd c

  label_renamed : (active : List (Symbol × Symbol)) (r : LabelMeaning) (stack : List (List Symbol)) (number : ProofNumber) → LabelFails active r stack number → LabelFails (renamed_pairs to active) (renamed_meaning to r) (map (map to) stack) number
  label_renamed active (Assertion frame) stack number c = citing_renamed active frame stack number c
  label_renamed active _ stack number c = c

  save_renamed : (place : Setting) (stack : List (List Symbol)) (number : ProofNumber) → StepLineHolds place Save stack number → StepLineHolds (renamed_setting to place) Save (map (map to) stack) number
  save_renamed place stack P13 c = ap (map (map to)) c
  save_renamed place stack _ c = absurd c

  line_renamed : (place : Setting) (step : Step) (stack : List (List Symbol)) (number : ProofNumber) → StepLineHolds place step stack number → StepLineHolds (renamed_setting to place) step (map (map to) stack) number
  line_renamed place (Named label) stack number c = label_renamed place.active (place.resolve label) stack number c
  line_renamed place Save stack number c = save_renamed place stack number c
  line_renamed place _ stack number c = absurd c

-- a renamed setting the other way round
pub mandatory_there : (to back : Symbol → Symbol) → IsRenaming to back → (h : Mandatory) → renamed_mandatory back (renamed_mandatory to h) ≡ h
mandatory_there to back is h = λ i. record { floating = h.floating; expression = map_back to back is.there h.expression i }

meaning_back : (to back : Symbol → Symbol) → IsRenaming to back → (r : LabelMeaning) → renamed_meaning back (renamed_meaning to r) ≡ r
meaning_back to back is (Hypothesis e) = ap Hypothesis (map_back to back is.there e)
meaning_back to back is (Assertion frame) = grind (arith, common_steps, mandatory_there, map_back, pair_inverse) steps 200000
meaning_back to back is _ = refl

pub setting_back : (to back : Symbol → Symbol) → IsRenaming to back → (place : Setting) → renamed_setting back (renamed_setting to place) ≡ place
setting_back to back is place = grind (arith, common_steps, map_back, meaning_back, pair_inverse) steps 200000

reached_back : (to back : Symbol → Symbol) → IsRenaming to back → (place : Setting) (steps : List Step) (stack : List (List Symbol)) →
    Reaches (renamed_setting to place) steps stack → Reaches place steps (map (map back) stack)
reached_back to back is place steps stack r =
    subst (λ p. Reaches p steps (map (map back) stack)) (setting_back to back is place)
    (reached_renamed back to (renaming_back to back is) (renamed_setting to place) steps stack r)

line_back : (to back : Symbol → Symbol) → IsRenaming to back → (place : Setting) (step : Step) (stack : List (List Symbol)) (number : ProofNumber) →
    StepLineHolds (renamed_setting to place) step (map (map to) stack) number → StepLineHolds place step stack number
line_back to back is place step stack number l =
    subst₂ (λ p s. StepLineHolds p step s number) (setting_back to back is place) (map_back (map to) (map back) (map_back to back is.there) stack)
    (line_renamed back to (renaming_back to back is) (renamed_setting to place) step (map (map to) stack) number l)

fault_renamed : (to back : Symbol → Symbol) → IsRenaming to back → (place : Setting) (steps : List Step) (n : ℕ) (number : ProofNumber) →
    IsStepFault place steps n number → IsStepFault (renamed_setting to place) steps n number
fault_renamed to back is place steps n number f = record {
  stack = map (map to) f.stack;
  step = f.step;
  reached = reached_renamed to back is place (take n steps) f.stack f.reached;
  at_fault = f.at_fault;
  nothing_after = λ next r. f.nothing_after (map (map back) next) (reached_back to back is place (take (n + 1) steps) next r);
  number_is = grind (arith, common_steps, line_back, line_renamed) steps 200000;
}

-- what a run says of steps, it says of the renamed statement at the renamed place
pub run_renamed :
    (to back : Symbol → Symbol) → IsRenaming to back → (place : Setting) (steps : List Step) (statement : List Symbol) (outcome : RunOutcome) →
    RunSays place steps statement outcome → RunSays (renamed_setting to place) steps (map to statement) outcome
run_renamed to back is place steps statement outcomes.Proved r = (r.0, reached_renamed to back is place steps (statement ∷ []) r.1)
run_renamed to back is place steps statement (outcomes.Fault number n) r = fault_renamed to back is place (run_part steps) n number r
run_renamed to back is place steps statement (outcomes.Unknown n) r =
    grind (arith, common_steps, reached_renamed to back is place (run_part steps) r.2.0 r.2.1) steps 200000
run_renamed to back is place steps statement outcomes.NotOne r =
    grind (arith, common_steps, reached_renamed to back is place steps r.1 r.2, length-map r.1 (map to)) steps 200000
run_renamed to back is place steps statement outcomes.Other r =
    (r.0, map to r.1, reached_renamed to back is place steps (r.1 ∷ []) r.2, λ e. r.3 (map_own to back is.there r.1 statement e))

verdict_renamed :
    (to back : Symbol → Symbol) → IsRenaming to back → (place : Setting) (statement : List Symbol) (d : Decoded) (v : Verdict) →
    IsVerdictOnSteps place statement d v → IsVerdictOnSteps (renamed_setting to place) (map to statement) d v
verdict_renamed to back is place statement d Proved v = reached_renamed to back is place d.steps (statement ∷ []) v
verdict_renamed to back is place statement d (Incomplete spot) v =
    grind (arith, common_steps, reached_renamed to back is place (run_part d.steps) v.2.0 v.2.1) steps 200000
verdict_renamed to back is place statement d (Wrong P14 spot) v =
    (map (map to) v.0, reached_renamed to back is place d.steps v.0 v.1, (λ e. v.2 (sym (length-map v.0 (map to)) ∙ e)), v.3)
verdict_renamed to back is place statement d (Wrong P15 spot) v =
    (map to v.0, reached_renamed to back is place d.steps (v.0 ∷ []) v.1, (λ e. v.2 (map_own to back is.there v.0 statement e)), v.3)
verdict_renamed to back is place statement d (Wrong number spot) v = (v.0, fault_renamed to back is place (run_part d.steps) v.0 number v.1, v.2)

-- and the other place, where labels mean the same, has the same verdict
steps_alike : (to : Symbol → Symbol) (place other : Setting) → IsRenamedSetting to place other → (steps : List Step) → AllZip (IsSameStep (renamed_setting to place) other) steps steps
steps_alike to place other s [] = tt
steps_alike to place other s (step ∷ steps) = grind (arith, common_steps, s.resolve, steps_alike to place other s steps) steps 200000

pub keeps_verdicts : RenamingKeepsVerdict
keeps_verdicts to back is place other s statement (Err fault) v is_verdict = is_verdict
keeps_verdicts to back is place other s statement (Ok d) v is_verdict =
    let same : IsSameProof (renamed_setting to place) other d d =
    record { active = s.active; steps = steps_alike to place other s d.steps; spots = refl; close = refl } in
    verdict_moved (renamed_setting to place) other (map to statement) d d v same (verdict_renamed to back is place statement d v is_verdict)
