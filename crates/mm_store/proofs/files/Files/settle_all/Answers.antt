use Rattle.std.proofs.{Common.{arith, sym, ap, ◌∙◌, subst}, lemmas.Grind.{common_steps}}
use Rattle.mm_store.{specs.Language.Batches.{CanSettleAll, settled_all}, proofs.lemmas.edits.BatchLemmas.{settle_last, settle_others, settled_last}}
use Rattle.mm_store.proofs.lemmas.edits.SettleLemmas.{Stays, spent_stays, stays_same, stays_then}
use Rattle.mm_store.proofs.files.Files.settle_all.Goals as goal

pub loop-spent-init : goal.loop-spent-init
loop-spent-init c = grind (arith, common_steps, stays_same c.args.self.now) steps 200000

pub settle-requires : goal.settle-requires
settle-requires c = settle_last c.pop.new.self.items c.in-Some.spent c.loop-spent.self (subst (λ undos. CanSettleAll undos c.loop-spent.self) c.in-Some.ensures.items c.loop-spent.invariant.can)

pub loop-spent-preserved : goal.loop-spent-preserved
loop-spent-preserved c =
    let others = c.pop.new.self.items in
    let undo = c.in-Some.spent in
    let view = c.loop-spent.self in
    let can = subst (λ undos. CanSettleAll undos view) c.in-Some.ensures.items c.loop-spent.invariant.can in
    record {
      can = subst (CanSettleAll others) (sym c.settle.ensures.settled) (settle_others others undo view can);
      left = ap (settled_all others) c.settle.ensures.settled ∙ sym (settled_last others undo view) ∙ ap (λ undos. settled_all undos view) (sym c.in-Some.ensures.items) ∙ c.loop-spent.invariant.left;
      stays = stays_then c.args.self.now view c.settle.new.self c.loop-spent.invariant.stays
          (subst (Stays view) (sym c.settle.ensures.settled) (spent_stays view undo.action c.stand_once.ensures (settle_last others undo view can)));
    }
