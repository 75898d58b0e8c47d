use Rattle.std.proofs.{Common.{◌≡◌, ◌<◌, false, ℕ, [], List, All, length, arith, sym, ◌∙◌, subst}, lemmas.{Bool.{false≢true}, List.Elements.{All-cons, All-nil}}}
use Rattle.mm_frame.specs.Language.Base.{is_framed_at}
use Rattle.mm_machine.specs.{Language.{Lasting.{lasting_of}, NumberedSymbols.{by_code}}, declared.{machine.Machine.{Machine}, symbol.CodedSymbol.{CodedSymbol}}}
use Rattle.mm_verdict.{specs.{Language.Loaded.{HasHypotheses, HasItem}, Code.NamedItems.{HasItems, KeepsItems}}, proofs.lemmas.machine.LoadedLemmas.{hypotheses_cite_nothing, keeps_more, keeps_same}}
use Rattle.mm_verdict.proofs.known.load.Goals.{After-load_each-arg-3-1, in-Some+in_ok-load_each, in_default}
use Rattle.mm_verdict.proofs.known.load.Goals as goal

pub load_each-requires-clause-hypotheses : goal.load_each-requires-clause-hypotheses
load_each-requires-clause-hypotheses c k d l view is framed = absurd (false≢true (
    sym (subst (λ (ns : List ℕ). All (λ n. is_framed_at view n ≡ false) ns) (sym c.deref.ensures.value) (hypotheses_cite_nothing view c.args.number _ (c.in-Some.ensures.means view is)) k d l) ∙ framed
    ))

-- the machine with the hypotheses
record Ready (c : After-load_each-arg-3-1) (machine : Machine CodedSymbol) : Type 0 where
  items : HasItems c.args.base.now machine
  hypotheses : HasHypotheses c.args.base.now (lasting_of by_code machine) c.args.number
  keeps : KeepsItems c.args.base.now c.args.machine.now machine

ready : (c : After-load_each-arg-3-1) → Ready c c.match-frame.machine
ready c = elim c.match-frame.branch [
  | in-Some+in_ok-load_each w ↦ subst (Ready c) (sym w.machine-is) (record {
    items = w.in_ok-load_each.ensures.items;
    hypotheses = λ view is framed. subst (λ (ns : List ℕ). All (HasItem c.args.base.now (lasting_of by_code w.load_each.new.machine)) ns) (w.deref.ensures.value ∙ w.in-Some.ensures.numbers view is)
        (λ k d l. (w.in_ok-load_each.ensures.loaded k d l).0);
    keeps = w.in_ok-load_each.ensures.keeps;
  })
  | in_default w ↦ subst (Ready c) (sym w.machine-is) (record {
    items = c.requires.items;
    hypotheses = λ view is framed. absurd (false≢true (w.in_default.ensures.some view is ∙ framed));
    keeps = keeps_same c.args.base.now c.args.machine.now;
  })
]

pub load_each-requires-2 : goal.load_each-requires-2
load_each-requires-2 c =
    let is = ready c in
    let P : ℕ → Type 0 = λ n. n < length (lasting_of by_code c.match-frame.machine) in
    let Q = HasHypotheses c.args.base.now (lasting_of by_code c.match-frame.machine) in
    record {
      items = is.items;
      within = All-cons P c.args.number [] (omega (arith, c.requires.within, is.keeps.count)) (All-nil P);
      hypotheses = All-cons Q c.args.number [] is.hypotheses (All-nil Q);
    }

pub returns : goal.returns
returns c =
    let is = ready (goal.at.returns c).After-load_each-arg-3-1 in
    let after = c.in_ok-load_each-2.ensures in
    record {
      items = after.items;
      loaded = after.loaded 0 0 (omega arith);
      keeps = keeps_more c.args.base.now c.args.machine.now c.match-frame.machine c.load_each-2.new.machine is.keeps after.keeps;
    }
