use Rattle.std.{proofs.{lemmas.List.{take_all, take_more}, Common.{◌≡◌, [], ◌∷◌, ◌++◌, All, take, get_or, sym, ap, subst, arith}}, specs.List.{AllZip}}
use Rattle.mm_machine.specs.Language.{Lasting.{lasting_of}, NumberedSymbols.{by_code}}
use Rattle.mm_verdict.{specs.Code.NamedItems.{HasItems, IsThere, IsUseIn, IsUseOf}, proofs.lemmas.machine.{LoadedLemmas.{AreLoaded, loaded_places}, NamedLemmas.{named_up, names_of, uses_more}}}
use Rattle.mm_frame.specs.declared.base.Resolved.TheVariants as answers
use Rattle.mm_verdict.proofs.known.Known.name_all.Goals as goal

pub make_places-requires : goal.make_places-requires
make_places-requires c = c.requires.known.holds

pub load_all-requires : goal.load_all-requires
load_all-requires c =
    let code = c.args.base.now in
    let places = c.in_ok-make_places.ensures in
    record {
      items = record {
        holds = places.holds;
        loaded = subst (AreLoaded code) (sym places.lasting.1) (loaded_places code (lasting_of by_code c.args.self.now.machine) places.lasting.0 places.lasting.2 c.requires.known.loaded);
      };
      labels = λ k d l. named_up code c.args.i _ _ (omega (arith, places.count)) (c.requires.labels k d l);
    }

pub name-requires : goal.name-requires
name-requires c =
    let k = c.loop-label.label-index in
    record {
      entry = (c.args.i, c.requires.labels k (answers.Hypothesis 0) c.loop-label-test.true);
      there = c.loop-label.invariant.there k (answers.Hypothesis 0) c.loop-label-test.true;
      cited = c.loop-label.invariant.cited;
    }

pub loop-label-preserved : goal.loop-label-preserved
loop-label-preserved c =
    let code = c.args.base.now in
    let labels = c.args.labels.now in
    let k = c.loop-label.label-index in
    let before = c.loop-label.invariant in
    let old = c.loop-label.self in
    let new = c.name.new.self in
    let one = c.in_ok-used.ensures in
    let used = c.in_ok-used.used in
    let label = get_or labels k (answers.Hypothesis 0) in
    let front = take k labels in
    let lasting = lasting_of by_code old.machine in
    let same : lasting_of by_code new.machine ≡ lasting = ap (lasting_of by_code) one.machine in
    let stands = subst (λ ls. IsUseOf code ls new.cited.items used label) same one.stands in
    let more = uses_more code lasting old.cited.items new.cited.items one.stay old.uses.items front used label before.stand stands in
    record {
      of_base = subst (HasItems code) (sym one.machine) before.of_base;
      there = subst (λ ls. All (IsThere code ls) labels) (sym same) before.there;
      cited = one.cited;
      stand = rw (c.in_ok-push.ensures.items, take_more labels k (answers.Hypothesis 0) c.loop-label-test.true, one.uses)
          (subst (λ ls. AllZip (IsUseOf code ls new.cited.items) (old.uses.items ++ used ∷ []) (front ++ label ∷ [])) (sym same) more);
    }

pub returns : goal.returns
returns c =
    let known = c.loop-label.self in
    names_of c.args.base.now known c.args.labels.now c.loop-label.invariant.of_base c.loop-label.invariant.cited
    (subst (λ ls. AllZip (IsUseIn c.args.base.now known) known.uses.items ls) (take_all c.loop-label.label-index c.args.labels.now (omega (arith, c.loop-label-test.false))) c.loop-label.invariant.stand)
