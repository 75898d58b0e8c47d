use Rattle.std.proofs.{Common.{◌∙◌, ◌<◌, All, get_or, length, map, take, arith, sym, ap, subst}, lemmas.List.{length-set, take_all, take_more, Elements.{All-push}}}
use Rattle.mm_machine.specs.{Language.{Frame.{Mandatory}, Lasting.{lasting_of}, NumberedSymbols.{by_code, by_number}}, declared.{machine.Machine.{Machine}, symbol.CodedSymbol.{CodedSymbol}}}
use Rattle.mm_verdict.specs.{Language.Loaded.{HasHypotheses, HasItem, IsLoaded}, Code.NamedItems.{HasItems, KeepsItems}}
use Rattle.mm_verdict.proofs.lemmas.machine.LoadedLemmas.{AreLoaded, hypotheses_stay, item_set, item_stays, keeps_more, keeps_same, loaded_kept_by, loaded_set}
use Rattle.mm_verdict.proofs.known.load_each.Goals.{Joined-not-is_loaded, then-not-is_loaded+in_ok-load, else-not-is_loaded}
use Rattle.mm_verdict.proofs.known.load_each.Goals as goal

pub load-requires : goal.load-requires
load-requires c = record { holds = c.loop-k.invariant.items.holds; within = omega (arith, c.requires.within c.loop-k.k 0 c.loop-k-test.true, c.loop-k.invariant.keeps.count) }

-- the machine after one item
record Next (c : Joined-not-is_loaded) (machine : Machine CodedSymbol) : Type 0 where
  items : HasItems c.args.base.now machine
  loaded : IsLoaded c.args.base.now (lasting_of by_code machine) (get_or c.args.numbers.now c.loop-k.k 0)
  keeps : KeepsItems c.args.base.now c.loop-k.machine machine

next : (c : Joined-not-is_loaded) → Next c c.if-not-is_loaded.machine
next c = elim c.if-not-is_loaded.branch [
  | then-not-is_loaded+in_ok-load w ↦
      let base = c.args.base.now in
      let n = get_or c.args.numbers.now c.loop-k.k 0 in
      let lasting = lasting_of by_code c.loop-k.machine in
      let h : Mandatory = record { floating = w.loaded_of-loaded.result.0; expression = map by_number w.loaded_of-loaded.result.1.now } in
      let before = c.loop-k.invariant in
      let within : n < length lasting = omega (arith, c.requires.within c.loop-k.k 0 c.loop-k-test.true, before.keeps.count) in
      let is = w.loaded_of-loaded.ensures.item in
      let has : HasHypotheses base lasting n = λ view b framed k d l. before.keeps.stay _ (c.requires.hypotheses c.loop-k.k 0 c.loop-k-test.true view b framed k d l) in
      let same = sym w.in_ok-load.ensures.lasting in
      subst (Next c) (sym w.machine-is) (record {
        items = record { holds = w.in_ok-load.ensures.holds; loaded = subst (AreLoaded base) same (loaded_set base lasting n h within is has before.items.loaded) };
        loaded = subst (λ ls. IsLoaded base ls n) same (item_set base lasting n h within is, hypotheses_stay base lasting n h within is n has);
        keeps = record {
          count = ap length w.in_ok-load.ensures.lasting ∙ length-set lasting n h;
          stay = λ j there. subst (λ ls. HasItem base ls j) same (item_stays base lasting n h within is j there);
        };
      })
  | else-not-is_loaded w ↦ subst (Next c) (sym w.machine-is) (record {
    items = c.loop-k.invariant.items;
    loaded = c.loop-k.invariant.items.loaded _ (c.is_loaded.ensures.0 w.if-not-is_loaded.false);
    keeps = keeps_same c.args.base.now c.loop-k.machine;
  })
]

pub loop-k-preserved : goal.loop-k-preserved
loop-k-preserved c =
    let is = next c in
    let base = c.args.base.now in
    let before = c.loop-k.invariant in
    let numbers = c.args.numbers.now in
    let k = c.loop-k.k in
    let P = IsLoaded base (lasting_of by_code c.if-not-is_loaded.machine) in
    record {
      items = is.items;
      loaded = subst (All P) (sym (take_more numbers k 0 c.loop-k-test.true))
          (All-push P (take k numbers) (get_or numbers k 0) (λ n d l. loaded_kept_by base c.loop-k.machine _ is.keeps _ (before.loaded n d l)) is.loaded);
      keeps = keeps_more base c.args.machine.now c.loop-k.machine _ before.keeps is.keeps;
    }

pub returns : goal.returns
returns c =
    let now = c.loop-k.invariant in
    record {
      items = now.items;
      loaded = subst (All (IsLoaded c.args.base.now (lasting_of by_code c.loop-k.machine))) (take_all c.loop-k.k c.args.numbers.now c.loop-k-test.false) now.loaded;
      keeps = now.keeps;
    }
