use Rattle.std.{specs.Prelude.{Result, Ok, Err, OnErr}, proofs.{Common.{arith, subst, ◌++◌}, lemmas.Grind.{common_steps}}}
use Rattle.mm_store.specs.{declared.walk.Step.{Step}, Language.{FilesView.{files_in, plain}, Keyless.{bare}}, Code.Steps.{IsStep}}
use Rattle.mm_store.proofs.lemmas.expansion.{BareLemmas.{hold_bare, bare_nothing, bare_items, bare_tells}, BudgetLemmas.{bare_few, walk_few}, TurnLemmas.{nothing_less, items_less}}
use Rattle.mm_store.proofs.lemmas.expansion.WalkLemmas.{since_first, since_nothing, since_items, since_tells, since_end}
use Rattle.mm_store.specs.declared.walk.Step.TheVariants as steps
use Rattle.mm_store.proofs.walk.Walk.next_missing.Goals as goal

pub loop-name-init : goal.loop-name-init
loop-name-init c top items is = since_first (bare (plain c.args.files.now)) top items c.args.self.now is

pub returns-in-End-clause-end : goal.returns-in-End-clause-end
returns-in-End-clause-end c top items is =
    let s : IsStep (files_in c.args.files.now) c.loop-name.self steps.End c.step.new.self = subst (λ (step : Step). IsStep (files_in c.args.files.now) c.loop-name.self step c.step.new.self) c.in-End.is c.in_ok-step.ensures.ok in
    grind (arith, common_steps, since_end (bare (plain c.args.files.now)) top items c.args.self.now c.loop-name.self s.0 (c.loop-name.invariant top items is)) steps 200000

pub returns-in-Missing-clause-found : goal.returns-in-Missing-clause-found
returns-in-Missing-clause-found c top items is =
    let view = c.args.files.now in
    let new = c.step.new.self in
    let now = c.loop-name.self in
    let s : IsStep (files_in view) now (steps.Missing c.in-Missing.name) new = subst (λ (step : Step). IsStep (files_in view) now step new) c.in-Missing.is c.in_ok-step.ensures.ok in
    since_tells (bare (plain view)) top items c.args.self.now now c.one_meaning.ensures.words c.one_division.ensures.units (hold_bare view c.hold_units.ensures) c.in-Missing.name.items new
    (bare_tells view now new c.in-Missing.name.items s) (c.loop-name.invariant top items is)

pub returns-in-Missing-clause-few : goal.returns-in-Missing-clause-few
returns-in-Missing-clause-few c top items is =
    let files = plain c.args.files.now in
    let found = returns-in-Missing-clause-found c top items is in
    omega (arith, walk_few (bare files) top (items ++ found.goes_on.more) c.step.new.self found.goes_on.is_walk, bare_few files, c.stay_small.ensures)

pub loop-name-smaller-in-Nothing : goal.loop-name-smaller-in-Nothing
loop-name-smaller-in-Nothing c =
    let files = files_in c.args.files.now in
    let new = c.step.new.self in
    let now = c.loop-name.self in
    nothing_less files now new (subst (λ (step : Step). IsStep files now step new) c.in-Nothing.is c.in_ok-step.ensures.ok)

pub loop-name-preserved-in-Nothing : goal.loop-name-preserved-in-Nothing
loop-name-preserved-in-Nothing c top items is =
    let view = c.args.files.now in
    let new = c.step.new.self in
    let now = c.loop-name.self in
    let s : IsStep (files_in view) now steps.Nothing new = subst (λ (step : Step). IsStep (files_in view) now step new) c.in-Nothing.is c.in_ok-step.ensures.ok in
    since_nothing (bare (plain view)) top items c.args.self.now now c.one_meaning.ensures.words c.one_division.ensures.units (hold_bare view c.hold_units.ensures) new
    (bare_nothing view now new s) (c.loop-name.invariant top items is)

pub loop-name-smaller : goal.loop-name-smaller
loop-name-smaller c =
    let files = files_in c.args.files.now in
    let new = c.step.new.self in
    let now = c.loop-name.self in
    items_less files now new c.in-Items.field-0 (subst (λ (step : Step). IsStep files now step new) c.in-Items.is c.in_ok-step.ensures.ok)

pub loop-name-preserved : goal.loop-name-preserved
loop-name-preserved c top items is =
    let view = c.args.files.now in
    let new = c.step.new.self in
    let now = c.loop-name.self in
    let t = bare_items view now new c.in-Items.field-0 (subst (λ (step : Step). IsStep (files_in view) now step new) c.in-Items.is c.in_ok-step.ensures.ok) in
    since_items (bare (plain view)) top items c.args.self.now now c.one_meaning.ensures.words c.one_division.ensures.units (hold_bare view c.hold_units.ensures) t.0 new t.1 (c.loop-name.invariant top items is) is

-- what holds anyway holds of an error
on_err : {T E P : Type 0} (result : Result T E) → P → OnErr result P
on_err (Ok value) p = tt
on_err (Err error) p = p

pub returns-in_err-step-clause-err : goal.returns-in_err-step-clause-err
returns-in_err-step-clause-err c = on_err c.from_residual.result (λ top items is. rw c.in_err-step.ensures.err (c.loop-name.invariant top items is))
