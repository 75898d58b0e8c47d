-- What verdicts need to know of the steps that are run: those before the first unknown one.
use Rattle.std.proofs.Common.{arith, ◌≡◌, ◌≢◌, ℕ, zero, suc, ◌+◌, ◌≤◌, ◌↔◌, ◌⊎◌, inl, inr, Option, Some, None, List, [], ◌∷◌, length, take, refl, ◌∙◌, ap, subst, slice_get}
use Rattle.std.{proofs.lemmas.Grind.{common_steps, elements}, specs.List.{AllZip, AllByRecursion}}
use Rattle.mm_machine.specs.Language.{Frame.{Symbol, Setting}, Expansion.{Step, Named, Saved, Save, NotKnown, Expanded, expand_from, expand_one}, Reaches.{Reaches}, Machine.{AreDecodedAfter}}
use Rattle.mm_machine.specs.Language.{Run.{run_part}, RunLaws.{KnownUpTo}, SameProof.{IsSameStep}}

-- no step is a `?`
abbrev pub AreKnown : List Step → Type 0
AreKnown steps = AllByRecursion (λ step. step ≢ NotKnown) steps

-- a step is known or not
pub known_or_not : (x : Step) → (x ≡ NotKnown) ⊎ (x ≢ NotKnown)
known_or_not (Named label) = inr (λ e. (cc))
known_or_not (Saved n) = inr (λ e. (cc))
known_or_not Save = inr (λ e. (cc))
known_or_not NotKnown = inl refl

-- a known step is run, and what comes after it counts; an unknown one ends the run
pub part_one : (x : Step) (steps : List Step) → x ≢ NotKnown → run_part (x ∷ steps) ≡ x ∷ run_part steps
part_one NotKnown steps k = absurd (k refl)
part_one _ steps k = refl

pub part_none : (x : Step) (steps : List Step) → x ≡ NotKnown → run_part (x ∷ steps) ≡ []
part_none x steps e = rw e refl

-- all are run if all are known
pub known_part : (steps : List Step) → AreKnown steps → run_part steps ≡ steps
known_part [] k = refl
known_part (x ∷ steps) k = part_one x steps k.0 ∙ ap (λ (w : List Step). x ∷ w) (known_part steps k.1)

-- what is run is known
pub part_known : (steps : List Step) → AreKnown (run_part steps)
part_known [] = tt
part_known (NotKnown ∷ steps) = tt
part_known (Named label ∷ steps) = (λ (e : Named label ≡ NotKnown). cc, part_known steps)
part_known (Saved n ∷ steps) = (λ (e : Saved n ≡ NotKnown). cc, part_known steps)
part_known (Save ∷ steps) = (λ (e : Save ≡ NotKnown). cc, part_known steps)

-- so all are known if all are run
pub all_known : (steps : List Step) → run_part steps ≡ steps → AreKnown steps
all_known steps e = subst AreKnown e (part_known steps)

-- its place is as it was
pub part_front : (steps : List Step) (n : ℕ) (x : Step) → slice_get (run_part steps) n ≡ Some x → slice_get steps n ≡ Some x
part_front [] n x e = e
part_front (NotKnown ∷ steps) n x e = cc
part_front (Named label ∷ steps) n x e = grind (arith, common_steps, part_front steps) steps 200000
part_front (Saved k ∷ steps) n x e = grind (arith, common_steps, part_front steps) steps 200000
part_front (Save ∷ steps) n x e = grind (arith, common_steps, part_front steps) steps 200000

-- decoding has made sure of it
pub part_decoded : (place : Setting) (saves : ℕ) (steps : List Step) → AreDecodedAfter place saves steps → AreDecodedAfter place saves (run_part steps)
part_decoded place saves (Named label ∷ steps) d = (d.0, part_decoded place saves steps d.1)
part_decoded place saves (Saved n ∷ steps) d = (d.0, part_decoded place saves steps d.1)
part_decoded place saves (Save ∷ steps) d = part_decoded place (saves + 1) steps d
part_decoded place saves (NotKnown ∷ steps) d = tt
part_decoded place saves [] d = tt

-- proofs that mean the same run the same
pub part_same : (p q : Setting) (xs ys : List Step) → AllZip (IsSameStep p q) xs ys → AllZip (IsSameStep p q) (run_part xs) (run_part ys)
part_same p q [] [] a = tt
part_same p q (Named l ∷ xs) (Named m ∷ ys) a = (a.0, part_same p q xs ys a.1)
part_same p q (Saved n ∷ xs) (Saved m ∷ ys) a = (a.0, part_same p q xs ys a.1)
part_same p q (Save ∷ xs) (Save ∷ ys) a = (a.0, part_same p q xs ys a.1)
part_same p q (NotKnown ∷ xs) (NotKnown ∷ ys) a = tt
part_same p q (x ∷ xs) (y ∷ ys) a = absurd a.0
part_same p q _ _ a = absurd a

-- ---- what is not run begins with an unknown step

behind : (x : Step) (steps : List Step) (n : ℕ) → KnownUpTo (x ∷ steps) (suc n) → KnownUpTo steps n
behind x steps n known k l = known (suc k) (omega arith)

first_known : (x : Step) (steps : List Step) (n : ℕ) → KnownUpTo (x ∷ steps) (suc n) → x ≢ NotKnown
first_known x steps n known e = known 0 (omega arith) (ap Some e)

pub known_more : (steps : List Step) (n : ℕ) (x : Step) → slice_get steps n ≡ Some x → x ≢ NotKnown → KnownUpTo steps n → KnownUpTo steps (n + 1)
known_more steps n x at other known k l e = grind (arith, elements) steps 200000

-- what is run begins like the steps
pub part_begins : (steps : List Step) (n : ℕ) → KnownUpTo steps n → take n (run_part steps) ≡ take n steps
part_begins (x ∷ steps) (suc n) known = ap (take (suc n)) (part_one x steps (first_known x steps n known)) ∙ ap (λ w. x ∷ w) (part_begins steps n (behind x steps n known))
part_begins _ _ known = refl

-- and goes on with the next known step
pub part_at : (steps : List Step) (n : ℕ) (x : Step) → KnownUpTo steps n → slice_get steps n ≡ Some x → x ≢ NotKnown → slice_get (run_part steps) n ≡ Some x
part_at [] n x known at other = cc
part_at (y ∷ steps) zero x known at other = grind (arith, common_steps, part_one) steps 200000
part_at (y ∷ steps) (suc n) x known at other = ap (λ w. slice_get w (suc n)) (part_one y steps (first_known y steps n known)) ∙ part_at steps n x (behind y steps n known) at other

-- or ends at an unknown one
pub part_ends : (steps : List Step) (n : ℕ) → KnownUpTo steps n → slice_get steps n ≡ Some NotKnown → run_part steps ≡ take n steps
part_ends [] n known at = cc
part_ends (y ∷ steps) zero known at = let same : y ≡ NotKnown = cc in part_none y steps same
part_ends (y ∷ steps) (suc n) known at = part_one y steps (first_known y steps n known) ∙ ap (λ w. y ∷ w) (part_ends steps n (behind y steps n known) at)

-- all are run if no place has an unknown step
pub all_run : (steps : List Step) (n : ℕ) → length steps ≤ n → KnownUpTo steps n → run_part steps ≡ steps
all_run [] n l known = refl
all_run (x ∷ steps) zero l known = absurd (omega arith)
all_run (x ∷ steps) (suc n) l known = part_one x steps (first_known x steps n known) ∙ ap (λ w. x ∷ w) (all_run steps n (omega arith) (behind x steps n known))

-- an unknown step is not run
pub not_all_run : (steps : List Step) (n : ℕ) → slice_get steps n ≡ Some NotKnown → run_part steps ≢ steps
not_all_run steps n at e = unknown_and_known steps n at (all_known steps e)
  where
    unknown_and_known : (steps : List Step) (n : ℕ) → slice_get steps n ≡ Some NotKnown → AreKnown steps → ⊥
    unknown_and_known [] n e k = cc
    unknown_and_known (x ∷ steps) zero e k = k.0 (cc)
    unknown_and_known (x ∷ steps) (suc n) e k = unknown_and_known steps n e k.1

-- all are run, or the one behind those that are run is unknown
pub run_or_unknown : (steps : List Step) → (run_part steps ≡ steps) ⊎ (slice_get steps (length (run_part steps)) ≡ Some NotKnown)
run_or_unknown [] = inl refl
run_or_unknown (x ∷ steps) = grind (arith, common_steps, run_or_unknown steps, known_or_not, part_none, part_one) steps 200000

-- steps that reach something are all run: an unknown one has no expansion
none_stays : (place : Setting) (steps : List Step) → expand_from place None steps ≡ None
none_stays place [] = refl
none_stays place (step ∷ steps) = refl

expanded_run : (place : Setting) (steps : List Step) (so_far : Option Expanded) (x : Expanded) → expand_from place so_far steps ≡ Some x → run_part steps ≡ steps
expanded_run place [] so_far x e = refl
expanded_run place (step ∷ steps) None x e = cc
expanded_run place (NotKnown ∷ steps) (Some y) x e = let n = none_stays place steps in cc
expanded_run place (Named label ∷ steps) (Some y) x e = ap (λ (w : List Step). Named label ∷ w) (expanded_run place steps (expand_one place y (Named label)) x e)
expanded_run place (Saved n ∷ steps) (Some y) x e = ap (λ (w : List Step). Saved n ∷ w) (expanded_run place steps (expand_one place y (Saved n)) x e)
expanded_run place (Save ∷ steps) (Some y) x e = ap (λ (w : List Step). Save ∷ w) (expanded_run place steps (expand_one place y Save) x e)

pub reached_run : (place : Setting) (steps : List Step) (stack : List (List Symbol)) → Reaches place steps stack → run_part steps ≡ steps
reached_run place steps stack r = expanded_run place steps (Some (record { labels = []; saved = [] })) r.expanded r.expands

-- the law of the steps that are run
pub known_iff_run : (steps : List Step) → (run_part steps ≡ steps) ↔ KnownUpTo steps (length steps)
known_iff_run steps = (λ e k l at. not_all_run steps k at e, λ known. all_run steps (length steps) (omega arith) known)
