-- Tasks of the code and steps of a proof.
use Rattle.std.proofs.Common.{rules, ◌≡◌, ◌≢◌, ℕ, zero, suc, ◌+◌, ◌<◌, ◌≤◌, Option, Some, None, List, ◌∷◌, ◌++◌, length, take, drop, get_or, refl, sym, ◌∙◌, ap, subst, arith, add-zero, slice_get}
use Rattle.std.proofs.{Common.{MatchOption, map, []}, lemmas.{Grind.{common_steps, elements}, List.{length-take-le, take_more, take-append-drop, drop_more, take_all}}}
use Rattle.std.{proofs.lemmas.{List.Sums.{sum_by-cons, sum_by-append}, Option.{slice_get_within, get_or_from_slice_get, slice_get-get_or}}, specs.List.{AllZip}}
use Rattle.mm_machine.specs.Language.{Frame.{Symbol, Frame, LabelMeaning, Assertion, Setting, AreSameFrame, AreSamePairs}, Typing.{HasFrames}, Steps.{Cites}}
use Rattle.mm_machine.specs.Language.{Expansion.{Step, Named, Saved, Save, NotKnown}, Machine.{State, Turns}, Faults.{LabelFails, IsLowest}, Reaches.{Reaches, IsStepFault}, Run.{run_part, IsReached}}
use Rattle.mm_machine.specs.Language.{Lasting.{cited_frame, lasting_of}, RunLaws.{KnownUpTo}, NamedSteps.{meant, MeansUse, Pushes, RunSays, StopsAt, actions_mean, saves_by, saves_in}}
use Rattle.mm_machine.specs.declared.{ProofNumber.{ProofNumber}, stepping.{RunOutcome.{RunOutcome}, Task.{Task}}, named.{Cited.{Cited}, Use.{Use}}, machine.Machine.{Machine}}
use Rattle.mm_machine.specs.{declared.step.ProofStep.{ProofStep}, Code.{Citation.{IsLowestCiting}, MachineState.{state_of}, Ranges.{Saves}, Tasks.{HasState, MeansTask}}}
use Rattle.mm_machine.proofs.lemmas.{verdicts.{Moving.{takes_moved, frame_back, label_moved}, Part.{part_begins, part_at, part_ends, not_all_run}}, machine.Reaching.{Follows, follows_on, reached}}
use Rattle.mm_machine.proofs.lemmas.{machine.{Running.{faulty}, FlatLemmas.{mapped_or_get}, PushLemmas.{pushed_moves}}, lists.{Zips.{zip_at}, Members.{take_next}}}
use Rattle.mm_machine.specs.declared.stepping.Task.TheVariants as tasks
use Rattle.mm_machine.specs.declared.named.Use.TheVariants as uses

-- ---- one step

-- the lasting expressions, and the frames of the assertions that are cited
abbrev pub lasting : {S : Type 0} → (S → Symbol) → Machine S → List (List Symbol)
lasting means machine = map (λ h. h.expression) (lasting_of means machine)

abbrev pub frames : {S L : Type 0} → (S → Symbol) → (L → Symbol) → Machine S → List (Cited L) → List Frame
frames means listed machine cited = map (cited_frame listed (lasting_of means machine)) cited

-- what an assertion that is cited means
pub means_cite :
    (expressions : List (List Symbol)) (frames : List Frame) (place : Setting) (n : ℕ) (t : Task) (step : Step) → t ≡ tasks.Cite n → MeansTask expressions frames place t step →
    (label : List ℕ) × (kept frame : Frame) × (step ≡ Named label) × (slice_get frames n ≡ Some kept) × (place.resolve label ≡ Assertion frame) × AreSameFrame kept frame
means_cite expressions frames place n t step is m = grind (arith, elements) steps 200000

-- and a hypothesis
pub means_push :
    (expressions : List (List Symbol)) (frames : List Frame) (place : Setting) (n : ℕ) (t : Task) (step : Step) → t ≡ tasks.Push n → MeansTask expressions frames place t step →
    (label : List ℕ) × (e : List Symbol) × (step ≡ Named label) × (slice_get expressions n ≡ Some e) × Pushes (place.resolve label) e
means_push expressions frames place n t step is m = grind (arith, elements) steps 200000

-- what is put again
pub means_again : (expressions : List (List Symbol)) (frames : List Frame) (place : Setting) (n : ℕ) (t : Task) (step : Step) → t ≡ tasks.Again n → MeansTask expressions frames place t step → step ≡ Saved n
means_again expressions frames place n t step is m = grind (arith, elements) steps 200000

-- a save
pub means_keep : (expressions : List (List Symbol)) (frames : List Frame) (place : Setting) (t : Task) (step : Step) → t ≡ tasks.Keep → MeansTask expressions frames place t step → step ≡ Save
means_keep expressions frames place t step is m = grind (arith, elements) steps 200000

-- no task means an unknown step
pub means_known : (expressions : List (List Symbol)) (frames : List Frame) (place : Setting) (t : Task) (step : Step) → MeansTask expressions frames place t step → step ≢ NotKnown
means_known expressions frames place t step m e = grind (arith, elements) steps 200000

cites_moved : (active others : List (Symbol × Symbol)) (a b : Frame) (stack next : List (List Symbol)) → AreSamePairs active others → AreSameFrame a b → Cites active a stack next → Cites others b stack next
cites_moved active others a b stack next s f c = record { below = c.below; entries = c.entries; result = c.result; given = c.given; before = c.before; takes = takes_moved active others a b c.given c.entries c.result s f c.takes; after = c.after }

-- citing the assertion that is kept is a turn by its label
pub cite_turns :
    (active : List (Symbol × Symbol)) (place : Setting) (label : List ℕ) (kept frame : Frame) (stack : List (List Symbol)) (before after : State) (found : Option ProofNumber) →
    AreSamePairs active place.active → place.resolve label ≡ Assertion frame → AreSameFrame kept frame → stack ≡ before.stack → after.saved ≡ before.saved →
    MatchOption found (Cites active kept stack after.stack) (IsLowestCiting active kept stack) →
    MatchOption found (Turns place (Named label) before after) (IsLowest place (Named label) before.stack)
cite_turns active place label kept frame stack before after None pairs at same is saved c = search (rules, cites_moved) steps 500000
cite_turns active place label kept frame stack before after (Some number) pairs at same is saved c =
    let d = subst (λ w. IsLowestCiting active kept w number) is c in record {
      holds = subst (λ (r : LabelMeaning). LabelFails place.active r before.stack number) (sym at) (label_moved active place.active (Assertion kept) (Assertion frame) before.stack number pairs same d.0);
      lowest = λ other p. d.1 other (label_moved place.active active (Assertion frame) (Assertion kept) before.stack other
          (λ x y. ((pairs x y).1, (pairs x y).0)) (frame_back kept frame same) (subst (λ (r : LabelMeaning). LabelFails place.active r before.stack other) at p));
    }

-- ---- step after step

pub follows_more : (place : Setting) (steps : List Step) (k : ℕ) (s : Step) (before after : State) → slice_get steps k ≡ Some s → Follows place (take k steps) before → Turns place s before after → Follows place (take (k + 1) steps) after
follows_more place steps k s before after at f t =
    grind (arith, common_steps, take_more steps k s (slice_get_within steps k s at), get_or_from_slice_get steps k s s at, follows_on place (take k steps) s before after f t) steps 200000

fault_of : (place : Setting) → HasFrames place → (steps : List Step) (k : ℕ) (s : Step) (state : State) (number : ProofNumber) → slice_get steps k ≡ Some s
    → Follows place (take k steps) state → IsLowest place s state.stack number → IsStepFault place steps k number
fault_of place is steps k s state number at f low =
    let l = slice_get_within steps k s at in
    let whole : take k steps ++ s ∷ drop (k + 1) steps ≡ steps = ap (λ w. take k steps ++ w) (sym (drop_more steps k s l ∙ ap (λ w. w ∷ drop (k + 1) steps) (get_or_from_slice_get steps k s s at))) ∙ take-append-drop k steps in
    grind (arith, common_steps, faulty place is (take k steps) (drop (k + 1) steps) state s number f low) steps 200000

-- the next step is at fault
pub fault_here : (place : Setting) → HasFrames place → (steps : List Step) (k : ℕ) (s : Step) (state : State) (number : ProofNumber) → KnownUpTo steps k
    → slice_get steps k ≡ Some s → s ≢ NotKnown → Follows place (take k steps) state → IsLowest place s state.stack number →
    IsStepFault place (run_part steps) k number
fault_here place is steps k s state number known at other f low = search (rules, part_at steps k s known at other, part_begins steps k known, fault_of) steps 500000

-- or not known
pub unknown_here : (place : Setting) (steps : List Step) (k : ℕ) (state : State) → KnownUpTo steps k → slice_get steps k ≡ Some NotKnown → Follows place (take k steps) state →
    (k ≡ length (run_part steps)) × (run_part steps ≢ steps) × IsReached place steps
unknown_here place steps k state known at f = grind (arith, common_steps, length-take-le, not_all_run, part_ends, reached, slice_get_within) steps 200000

pub reached_all : (place : Setting) (steps : List Step) (k : ℕ) (state : State) → length steps ≤ k → Follows place (take k steps) state → Reaches place steps state.stack
reached_all place steps k state l f = subst (λ (w : List Step). Reaches place w state.stack) (take_all k steps l) (reached place (take k steps) state f)

-- ---- what a task makes of the machine

-- the machine has the state after a turn
abbrev pub TurnsTo : {S : Type 0} → (S → Symbol) → Machine S → Setting → Step → State → Type 0
TurnsTo means machine place step before = (after : State) × HasState means machine after × Turns place step before after

pub named_turns : (place : Setting) → HasFrames place → (label : List ℕ) (step : Step) (e : List Symbol) (before : State) → step ≡ Named label →
    Pushes (place.resolve label) e → Turns place step before (record before { stack = before.stack ++ e ∷ [] })
named_turns place is label step e before says pushes = rw says (pushed_moves place is label (place.resolve label) e before.stack refl pushes, refl)

pub pushed_turns :
    {S : Type 0} (means : S → Symbol) (place : Setting) (step : Step) (e : List Symbol) (before : State)
    (old new : Machine S) →
    Turns place step before (record before { stack = before.stack ++ e ∷ [] }) → HasState means old before →
    (state_of means new).stack ≡ (state_of means old).stack ++ e ∷ [] → (state_of means new).saved ≡ (state_of means old).saved → TurnsTo means new place step before
pushed_turns means place step e before old new turns state stack saved = grind (arith, common_steps) steps 200000

pub kept_turns :
    {S : Type 0} (means : S → Symbol) (place : Setting) (step : Step) (before : State) (old new : Machine S) →
    step ≡ Save → HasState means old before → Saves (state_of means old) (state_of means new) → TurnsTo means new place step before
kept_turns means place step before old new is state saves =
    let e = saves.1 in
    let after : State = record { stack = before.stack; saved = before.saved ++ e ∷ [] } in (
      after,
      record {
        stack = saves.3 ∙ state.stack;
        saved = saves.4 ∙ ap (λ w. w ++ e ∷ []) state.saved;
      },
      subst (λ (s : Step). Turns place s before after) (sym is) (saves.0, e, sym state.stack ∙ saves.2, refl, refl),
    )

pub cited_turns :
    {S : Type 0} (means : S → Symbol) (place : Setting) (label : List ℕ) (before after : State) (new : Machine S) (found : Option ProofNumber) →
    HasState means new after → MatchOption found (Turns place (Named label) before after) (IsLowest place (Named label) before.stack) →
    MatchOption found (TurnsTo means new place (Named label) before) (IsLowest place (Named label) before.stack)
cited_turns means place label before after new found has t = grind (arith, common_steps) steps 200000

-- ---- what the table's entries are used for

pub used_at :
    (expressions : List (List Symbol)) (frames : List Frame) (place : Setting) (all : List Use) (names : List Step) (k : ℕ) (used : Use) →
    slice_get all k ≡ Some used → AllZip (MeansUse expressions frames place) all names → MeansUse expressions frames place used (get_or names k NotKnown)
used_at expressions frames place all names k used at zip = search (rules, get_or_from_slice_get, zip_at) steps 200000

pub unused_at :
    (expressions : List (List Symbol)) (frames : List Frame) (place : Setting) (all : List Use) (names : List Step) (k : ℕ) →
    length all ≤ k → AllZip (MeansUse expressions frames place) all names → MeansUse expressions frames place uses.Nothing (get_or names k NotKnown)
unused_at expressions frames place [] [] k l zip = tt
unused_at expressions frames place (u ∷ all) (x ∷ names) zero l zip = absurd (omega arith)
unused_at expressions frames place (u ∷ all) (x ∷ names) (suc k) l zip = unused_at expressions frames place all names k (omega arith) zip.1
unused_at expressions frames place _ _ k l zip = absurd zip

pub push_means : (expressions : List (List Symbol)) (frames : List Frame) (place : Setting) (n : ℕ) (step : Step) → MeansUse expressions frames place (uses.Lasting n) step → MeansTask expressions frames place (tasks.Push n) step
push_means expressions frames place n step m = grind (arith, common_steps) steps 200000

pub cite_means : (expressions : List (List Symbol)) (frames : List Frame) (place : Setting) (n : ℕ) (step : Step) → MeansUse expressions frames place (uses.Assertion n) step → MeansTask expressions frames place (tasks.Cite n) step
cite_means expressions frames place n step m = grind (arith, common_steps) steps 200000

pub nothing_means : (expressions : List (List Symbol)) (frames : List Frame) (place : Setting) (step : Step) → MeansUse expressions frames place uses.Nothing step → step ≡ NotKnown
nothing_means expressions frames place step m = grind (arith, common_steps) steps 200000

-- ---- the code's steps

pub nothing_known : (steps : List Step) → KnownUpTo steps 0
nothing_known steps k l = absurd (omega arith)

-- what the step at a place means
pub action_at : (names : List Step) (steps : List ProofStep) (k : ℕ) (d : ProofStep) → k < length steps → slice_get (actions_mean names steps) k ≡ Some (meant names (get_or steps k d).action)
action_at names steps k d l = mapped_or_get (λ (step : ProofStep). meant names step.action) steps k d l

-- one more may save
pub saves_next : (steps : List ProofStep) (k : ℕ) (d : ProofStep) → k < length steps → saves_in (take (k + 1) steps) ≡ saves_in (take k steps) + saves_by (get_or steps k d).action
saves_next steps k d l = grind (arith, common_steps, add-zero, slice_get-get_or, sum_by-append, sum_by-cons, take_next) steps 200000

-- if steps stop, a run says so, whatever the statement is
pub stopped_says : (place : Setting) (steps : List Step) (statement : List Symbol) (outcome : RunOutcome) → StopsAt place steps outcome → RunSays place steps statement outcome
stopped_says place steps statement outcome s = grind (arith, common_steps) steps 200000
