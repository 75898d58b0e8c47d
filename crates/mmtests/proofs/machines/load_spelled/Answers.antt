use Rattle.std.proofs.{Common.{◌≡◌, ◌∙◌, [], ap, length, inl, inr, arith}, lemmas.List.{length-set}}
use Rattle.mm_machine.specs.Language.{Lasting.{lasting_of}, NumberedSymbols.{named_symbol}}
use Rattle.mmtests.proofs.SpelledLemmas.{items_more}
use Rattle.mmtests.proofs.machines.load_spelled.Goals as goal

pub make_places-requires : goal.make_places-requires
make_places-requires c = c.in_ok-widen.ensures.holds

pub loop-n-init : goal.loop-n-init
loop-n-init c =
    let none : lasting_of named_symbol c.widen.new.self ≡ [] = elim c.in_ok-widen.ensures.lasting [ inl same ↦ same ∙ c.requires.none | inr none ↦ none ] in
    record { holds = c.in_ok-make_places.ensures.holds; items = λ j l. absurd (omega (arith, l)); count = omega (arith, c.in_ok-make_places.ensures.count, ap length none) }

pub load-added-requires : goal.load-added-requires
load-added-requires c = record { holds = c.loop-n.invariant.holds; within = omega (arith, c.loop-n.invariant.count, c.loop-n-test.true) }

pub loop-n-preserved : goal.loop-n-preserved
loop-n-preserved c =
    let before = c.loop-n.invariant in
    let lasting = lasting_of named_symbol c.loop-n.machine in
    let more = c.in_ok-added.ensures.lasting in
    record {
      holds = c.in_ok-added.ensures.holds;
      items = rw more (items_more c.args.base.now lasting c.loop-n.n _ (omega (arith, before.count, c.loop-n-test.true))
          (rw (c.deref.ensures.value, ← c.in_ok-expression.ensures) c.loaded_of-loaded.ensures.item) before.items);
      count = ap length more ∙ length-set lasting c.loop-n.n _ ∙ before.count;
    }

pub returns-clause-items : goal.returns-clause-items
returns-clause-items c j l = c.loop-n.invariant.items j (omega (arith, l, c.loop-n-test.false))
