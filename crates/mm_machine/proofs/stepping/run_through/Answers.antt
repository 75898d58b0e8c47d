use Rattle.std.proofs.{lemmas.{Grind.{common_steps}, List.{length-map}, Option.{slice_get-get_or}}, Common.{◌≡◌, refl, map, ◌≤◌, ◌<◌, ℕ, List, All, Some, length, get_or, sym, ◌∙◌, ap, subst, arith}}
use Rattle.std.specs.List.{AllZip}
use Rattle.mm_machine.specs.Language.{Reaches.{Reaches}, Frame.{Setting, Symbol}, Expansion.{Step}, NamedSteps.{AreUses, IsUseWithin, MeansUse, meant, IsSavedWithin, actions_mean}}
use Rattle.mm_machine.specs.{Language.{Lasting.{KeepsLasting, cited_frame, lasting_at}, CodeLists.{meant_pairs}, Machine.{nothing_yet}}, declared.{machine.Machine.{Machine}, named.Cited.{Cited}}}
use Rattle.mm_machine.{specs.{declared.{step.ProofStep.{ProofStep}, stepping.Task.{Task}}, Code.{Flat.{read}, Tasks.{MeansTask}}}, proofs.lemmas.machine.Reaching.{at_start}}
use Rattle.mm_machine.proofs.lemmas.machine.StepLemmas.{lasting, frames, nothing_known, follows_more, fault_here, unknown_here, reached_all, means_known, action_at, saves_next}
use Rattle.mm_machine.proofs.{lemmas.verdicts.Part.{all_run, known_more}, stepping.run_through.Goals.{In_ok-clear}}
use Rattle.mm_machine.specs.declared.step.Action.TheVariants as actions
use Rattle.mm_machine.proofs.stepping.run_through.Goals as goal

-- the step of a proof past its end
abbrev nowhere : ProofStep
nowhere = record { action = actions.Label 0; spot = record { word = 0; letter = 0 } }

-- what a task means, while the lasting expressions stay
task_kept :
    {S L : Type 0} (means : S → Symbol) (listed : L → Symbol) (old new : Machine S) (cited : List (Cited L)) (place : Setting) (task : Task) (step : Step) → KeepsLasting means old new →
    MeansTask (lasting means old) (frames means listed old cited) place task step → MeansTask (lasting means new) (frames means listed new cited) place task step
task_kept means listed old new cited place task step keeps all = grind (arith, common_steps) steps 200000

-- there are as many of them
as_many : {S : Type 0} (means : S → Symbol) (old new : Machine S) → KeepsLasting means old new → length old.lasting.patterns.items ≡ length new.lasting.patterns.items
as_many means old new keeps =
    sym (length-map old.lasting.patterns.items (lasting_at (map means old.symbols.items))) ∙ ap length (sym keeps) ∙ length-map new.lasting.patterns.items (lasting_at (map means new.symbols.items))

-- what the labels are used for, after the machine was cleared
at_clear : (g : _) (c : In_ok-clear g) (place : Setting) (names : List Step) → AreUses g.S.Symbol.means g.S.Listed.Symbol.means c.args.machine.now c.args.cited.now c.args.uses.now place names
    → AreUses g.S.Symbol.means g.S.Listed.Symbol.means c.clear.new.self c.args.cited.now c.args.uses.now place names
at_clear g c place names all =
    subst (λ w. AllZip (MeansUse (map (λ h. h.expression) w) (map (cited_frame g.S.Listed.Symbol.means w) c.args.cited.now) place) c.args.uses.now names) (sym c.in_ok-clear.ensures.lasting) all

pub loop-place-init : goal.loop-place-init
loop-place-init g c =
    let ensures = c.in_ok-clear.ensures in
    let new = c.clear.new.self in
    record {
      whole = ensures.whole;
      pairs = ensures.pairs (meant_pairs g.S.Listed.Symbol.means c.args.active.now.pairs.now);
      lasting = refl;
      count = sym (length-map new.saved.items (read (map g.S.Symbol.means new.symbols.items))) ∙ ap length ensures.saved;
      follows = λ place names is pairs all. (nothing_known (actions_mean names c.args.steps.now), nothing_yet, record { stack = ensures.stack; saved = ensures.saved }, at_start place);
    }

pub do_task-requires-clause-within : goal.do_task-requires-clause-within
do_task-requires-clause-within g c =
    let m = g.S.Symbol.means in
    let steps = c.args.steps.now in
    let k = c.loop-place.place in
    let now = c.loop-place.machine in
    let n = length now.saved.items in
    let cited = length c.args.cited.now in
    let many = as_many m c.args.machine.now now (c.loop-place.invariant.lasting ∙ c.in_ok-clear.ensures.lasting) in
    c.in-Some.ensures.within (length now.lasting.patterns.items) cited n (subst (λ (l : ℕ). All (IsUseWithin l cited) c.args.uses.now) many c.requires.within)
    (subst (λ (s : ℕ). IsSavedWithin s (get_or steps k nowhere).action) (sym c.loop-place.invariant.count)
    (c.requires.saved k (get_or steps k nowhere) (slice_get-get_or steps k nowhere (omega (arith, c.loop-place-test.true)))))

pub returns-in_default-clause-says : goal.returns-in_default-clause-says
returns-in_default-clause-says g c place names is pairs all =
    let m = g.S.Symbol.means in
    let old = c.args.machine.now in
    let k = c.loop-place.place in
    let f = c.loop-place.invariant.follows place names is pairs (at_clear g (goal.at.returns-in_default-clause-says g c).In_ok-clear place names all) in
    let means = c.in_default.ensures.means (lasting m old) (frames m g.S.Listed.Symbol.means old c.args.cited.now) place names all in
    let at = action_at names c.args.steps.now k nowhere (omega (arith, c.loop-place-test.true)) ∙ ap Some means in
    unknown_here place (actions_mean names c.args.steps.now) k f.1 f.0 at f.3

pub returns-in-Some-2-clause-says : goal.returns-in-Some-2-clause-says
returns-in-Some-2-clause-says g c place names is pairs all =
    let m = g.S.Symbol.means in
    let listed = g.S.Listed.Symbol.means in
    let start = c.clear.new.self in
    let cited = c.args.cited.now in
    let k = c.loop-place.place in
    let step = meant names (get_or c.args.steps.now k nowhere).action in
    let cleared = at_clear g (goal.at.returns-in-Some-2-clause-says g c).In_ok-clear place names all in
    let f = c.loop-place.invariant.follows place names is pairs cleared in
    let at = action_at names c.args.steps.now k nowhere (omega (arith, c.loop-place-test.true)) in
    let means = c.in-Some.ensures.means (lasting m start) (frames m listed start cited) place names cleared in
    let known = means_known (lasting m start) (frames m listed start cited) place c.in-Some.task step means in
    let turns = rw c.in-Some-2.is at c.in_ok-number.ensures.turns in
    fault_here place is (actions_mean names c.args.steps.now) k step f.1 c.in-Some-2.number f.0 at known f.3
    (turns place step f.1 is pairs f.2 (task_kept m listed start c.loop-place.machine cited place c.in-Some.task step c.loop-place.invariant.lasting means))

pub loop-place-preserved : goal.loop-place-preserved
loop-place-preserved g c =
    let m = g.S.Symbol.means in
    let listed = g.S.Listed.Symbol.means in
    let start = c.clear.new.self in
    let cited = c.args.cited.now in
    let k = c.loop-place.place in
    let within : k < length c.args.steps.now = omega (arith, c.loop-place-test.true) in
    let saves = rw c.in_default-2.is at c.in_ok-number.ensures.saves in
    record {
      whole = c.in_ok-number.ensures.whole;
      pairs = c.in_ok-number.ensures.pairs;
      lasting = c.in_ok-number.ensures.lasting ∙ c.loop-place.invariant.lasting;
      count = omega (arith, saves, c.in-Some.ensures.saves, c.loop-place.invariant.count, saves_next c.args.steps.now k nowhere within);
      follows = λ place names is pairs all.
          let steps = actions_mean names c.args.steps.now in
          let step = meant names (get_or c.args.steps.now k nowhere).action in
          let f = c.loop-place.invariant.follows place names is pairs all in
          let at = action_at names c.args.steps.now k nowhere within in
          let means = c.in-Some.ensures.means (lasting m start) (frames m listed start cited) place names all in
          let known = means_known (lasting m start) (frames m listed start cited) place c.in-Some.task step means in
          let kept = task_kept m listed start c.loop-place.machine cited place c.in-Some.task step c.loop-place.invariant.lasting means in
          let t = (rw c.in_default-2.is at c.in_ok-number.ensures.turns) place step f.1 is pairs f.2 kept in
          (known_more steps k step at known f.0, t.0, t.1, follows_more place steps k step f.1 t.0 at f.3 t.2);
    }

pub returns-clause-says : goal.returns-clause-says
returns-clause-says g c place names is pairs all =
    let steps = actions_mean names c.args.steps.now in
    let k = c.loop-place.place in
    let f = c.loop-place.invariant.follows place names is pairs (at_clear g (goal.at.returns-clause-says g c).In_ok-clear place names all) in
    let long : length steps ≤ k = omega (arith, c.loop-place-test.false, length-map c.args.steps.now (λ (step : ProofStep). meant names step.action)) in
    (all_run steps k long f.0, subst (λ w. Reaches place steps w) (sym f.2.stack) (reached_all place steps k f.1 long f.3))
