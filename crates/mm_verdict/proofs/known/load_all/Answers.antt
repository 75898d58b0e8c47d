use Rattle.std.proofs.{Common.{All, get_or, take, arith, inl, inr, sym, subst}, lemmas.List.{take_all, take_more, Elements.{All-push}}}
use Rattle.mm_machine.specs.{Language.{Lasting.{lasting_of}, NumberedSymbols.{by_code}}, declared.{machine.Machine.{Machine}, symbol.CodedSymbol.{CodedSymbol}}}
use Rattle.mm_verdict.{specs.Code.NamedItems.{HasItems, IsThere, KeepsItems}, proofs.lemmas.machine.{LoadedLemmas.{keeps_more, keeps_same, there_by, there_kept}, NamedLemmas.{named_within}}}
use Rattle.mm_verdict.proofs.known.load_all.Goals.{Joined-label, in-Inactive, in-Hypothesis+then-not-is_loaded+in_ok-load-in-Hypothesis, in-Hypothesis+else-not-is_loaded}
use Rattle.mm_frame.specs.declared.base.Resolved.TheVariants as answers
use Rattle.mm_verdict.proofs.known.load_all.Goals as goal

pub is_loaded-requires : goal.is_loaded-requires
is_loaded-requires c =
    let named = c.requires.labels c.loop-label.label-index (answers.Hypothesis 0) c.loop-label-test.true in
    record { holds = c.loop-label.invariant.items.holds; within = omega (arith, named_within c.args.base.now _ _ c.in-Hypothesis.number named c.in-Hypothesis.is, c.loop-label.invariant.keeps.count) }

pub load-requires : goal.load-requires
load-requires c =
    let named = c.requires.labels c.loop-label.label-index (answers.Hypothesis 0) c.loop-label-test.true in
    record {
      base = (named.view, named.base);
      items = c.loop-label.invariant.items;
      within = omega (arith, named_within c.args.base.now _ _ c.in-Hypothesis.number named c.in-Hypothesis.is, c.loop-label.invariant.keeps.count);
    }

-- the machine after one label
record Next (c : Joined-label) (machine : Machine CodedSymbol) : Type 0 where
  items : HasItems c.args.base.now machine
  there : IsThere c.args.base.now (lasting_of by_code machine) (get_or c.args.labels.now c.loop-label.label-index (answers.Hypothesis 0))
  keeps : KeepsItems c.args.base.now c.loop-label.machine machine

next : (c : Joined-label) → Next c c.match-label.machine
next c =
    let base = c.args.base.now in
    let before = c.loop-label.invariant in
    let label = get_or c.args.labels.now c.loop-label.label-index (answers.Hypothesis 0) in
    elim c.match-label.branch [
      | in-Inactive w ↦ subst (Next c) (sym w.machine-is) (record {
        items = before.items;
        there = elim w.in-Inactive.is [
          | inl e ↦ subst (IsThere base (lasting_of by_code c.loop-label.machine)) (sym e) tt
          | inr e ↦ subst (IsThere base (lasting_of by_code c.loop-label.machine)) (sym e) tt
        ];
        keeps = keeps_same base c.loop-label.machine;
      })
      | in-Hypothesis+then-not-is_loaded+in_ok-load-in-Hypothesis w ↦ let is = w.in_ok-load-in-Hypothesis.ensures in subst (Next c) (sym w.machine-is) (record {
        items = is.items;
        there = there_by base (lasting_of by_code w.load.new.machine) label w.in-Hypothesis.number w.in-Hypothesis.is is.loaded;
        keeps = is.keeps;
      })
      | in-Hypothesis+else-not-is_loaded w ↦ subst (Next c) (sym w.machine-is) (record {
        items = before.items;
        there = there_by base (lasting_of by_code c.loop-label.machine) label w.in-Hypothesis.number w.in-Hypothesis.is (before.items.loaded w.in-Hypothesis.number (w.is_loaded.ensures.0 w.if-not-is_loaded.false));
        keeps = keeps_same base c.loop-label.machine;
      })
    ]

pub loop-label-preserved : goal.loop-label-preserved
loop-label-preserved c =
    let base = c.args.base.now in
    let before = c.loop-label.invariant in
    let labels = c.args.labels.now in
    let k = c.loop-label.label-index in
    let is = next c in
    let P = IsThere base (lasting_of by_code c.match-label.machine) in
    record {
      items = is.items;
      there = subst (All P) (sym (take_more labels k (answers.Hypothesis 0) c.loop-label-test.true))
          (All-push P (take k labels) (get_or labels k (answers.Hypothesis 0)) (λ n d l. there_kept base c.loop-label.machine _ is.keeps _ (before.there n d l)) is.there);
      keeps = keeps_more base c.args.machine.now c.loop-label.machine _ before.keeps is.keeps;
    }

pub returns : goal.returns
returns c =
    let now = c.loop-label.invariant in
    record {
      items = now.items;
      there = subst (All (IsThere c.args.base.now (lasting_of by_code c.loop-label.machine))) (take_all c.loop-label.label-index c.args.labels.now c.loop-label-test.false) now.there;
      keeps = now.keeps;
    }
