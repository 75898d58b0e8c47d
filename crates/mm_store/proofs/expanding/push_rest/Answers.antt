use Rattle.std.proofs.{Common.{arith, ◌∙◌, sym, ap, subst, Vec, Global}, lemmas.Grind.{common_steps}}
use Rattle.mm_store.specs.{declared.{item.Item.{Item}, walk.Step.{Step}}, Language.{FilesView.{files_in}, Walking.{IsWalk}}, Code.Steps.{IsStep}}
use Rattle.mm_store.proofs.lemmas.expansion.{TurnLemmas.{tells_less, nothing_less, items_less}, WalkStepLemmas.{walk_ends}, ItemLemmas.{spot_held, walk_items, walk_nothing, walk_tells}}
use Rattle.mm_store.proofs.expanding.push_rest.Goals.{in-Items+in_ok-push_items-in-Items, in-Nothing, in-Missing}
use Rattle.mm_store.specs.declared.walk.Step.TheVariants as steps
use Rattle.mm_store.proofs.expanding.push_rest.Goals as goal

pub returns-in-End : goal.returns-in-End
returns-in-End c top is =
    let s : IsStep (files_in c.args.files.now) c.loop-spot.walk steps.End c.step.new.self = subst (λ (step : Step). IsStep (files_in c.args.files.now) c.loop-spot.walk step c.step.new.self) c.in-End.is c.in_ok-step.ensures.ok in
    grind (arith, common_steps, walk_ends (files_in c.args.files.now) top c.loop-spot.items.items c.loop-spot.walk (c.loop-spot.invariant top is) s.0) steps 200000

pub parts-requires : goal.parts-requires
parts-requires c =
    let files = files_in c.args.files.now in
    let now = c.loop-spot.walk in
    let s : IsStep files now (steps.Items c.in-Items.spot) c.step.new.self = subst (λ (step : Step). IsStep files now step c.step.new.self) c.in-Items.is c.in_ok-step.ensures.ok in
    spot_held c.args.files.now now c.step.new.self c.in-Items.spot c.holds_pieces.ensures s

pub loop-spot-smaller : goal.loop-spot-smaller
loop-spot-smaller c =
    let files = files_in c.args.files.now in
    let now = c.loop-spot.walk in
    let new = c.step.new.self in
    elim c.match-branch-2.branch [
      | in-Items+in_ok-push_items-in-Items w ↦ items_less files now new w.in-Items.spot (subst (λ (step : Step). IsStep files now step new) w.in-Items.is c.in_ok-step.ensures.ok)
      | in-Nothing w ↦ nothing_less files now new (subst (λ (step : Step). IsStep files now step new) w.in-Nothing.is c.in_ok-step.ensures.ok)
      | in-Missing w ↦ tells_less files now new w.in-Missing.field-0.items (subst (λ (step : Step). IsStep files now step new) w.in-Missing.is c.in_ok-step.ensures.ok)
    ]

pub loop-spot-preserved : goal.loop-spot-preserved
loop-spot-preserved c top is =
    let view = c.args.files.now in
    let files = files_in view in
    let now = c.loop-spot.walk in
    let new = c.step.new.self in
    let items = c.loop-spot.items.items in
    let before = c.loop-spot.invariant top is in
    elim c.match-branch-2.branch [
      | in-Items+in_ok-push_items-in-Items w ↦
          let s : IsStep files now (steps.Items w.in-Items.spot) new = subst (λ (step : Step). IsStep files now step new) w.in-Items.is c.in_ok-step.ensures.ok in
          let after = walk_items c.one_meaning.ensures.words c.one_division.ensures.units view c.hold_units.ensures top items now new before w.in-Items.spot w.parts.result.now s w.parts.ensures in
          let e = ap (λ (items : Vec Item Global). items.items) w.items-is ∙ w.in_ok-push_items-in-Items.ensures in
          subst (λ l. IsWalk files top l new) (sym e) after
      | in-Nothing w ↦
          let s : IsStep files now steps.Nothing new = subst (λ (step : Step). IsStep files now step new) w.in-Nothing.is c.in_ok-step.ensures.ok in
          let after = walk_nothing c.one_meaning.ensures.words c.one_division.ensures.units view c.hold_units.ensures top items now new before s in
          subst (λ l. IsWalk files top l new) (sym (ap (λ (items : Vec Item Global). items.items) w.items-is)) after
      | in-Missing w ↦ grind (arith, walk_tells) steps 200000
    ]
