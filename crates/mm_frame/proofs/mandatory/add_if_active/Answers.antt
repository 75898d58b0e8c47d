use Rattle.std.proofs.{Common.{ap, append-nil, cond, ◌++◌, ◌∷◌, [], ◌∙◌, sym, subst, filter}, lemmas.List.{map_push, Elements.{All-push}}}
use Rattle.mm_machine.specs.Language.{Frame.{Symbol}, NumberedSymbols.{IsPairNumbered, pair_of, symbol_of, ArePairsRead}, Names.{name_at}}
use Rattle.mm_frame.{specs.Language.{Framing.{active_pairs}, Answering.{are_paired}}, proofs.lemmas.names.NumberLemmas.{name_there}}
use Rattle.mm_frame.proofs.mandatory.add_if_active.Goals as goal

pub returns-in_ok-push-clause-pairs : goal.returns-in_ok-push-clause-pairs
returns-in_ok-push-clause-pairs c all before said reads m a b r =
    let x = c.args.first in
    let y = c.args.second in
    let told = c.in_ok-active.ensures.value all before (name_at all x.name) (name_at all y.name) reads m (name_there all x.name a) (name_there all y.name b) in
    subst (ArePairsRead all (said ++ filter (are_paired (active_pairs before)) ((symbol_of all x, symbol_of all y) ∷ []))) (sym c.in_ok-push.ensures.items)
    (let pair : Symbol × Symbol = (symbol_of all x, symbol_of all y) in
    record {
      pairs = map_push (pair_of all) c.args.pairs.now.items (x, y) ∙ ap (λ w. w ++ pair ∷ []) r.pairs
          ∙ sym (ap (λ c. said ++ cond c (pair ∷ []) []) (sym told ∙ c.if-active.true));
      numbered = All-push (IsPairNumbered all) c.args.pairs.now.items
          (x, y) r.numbered (a, b);
    })

pub returns-else-active-clause-pairs : goal.returns-else-active-clause-pairs
returns-else-active-clause-pairs c all before said reads m a b r =
    let x = c.args.first in
    let y = c.args.second in
    let told = c.in_ok-active.ensures.value all before (name_at all x.name) (name_at all y.name) reads m (name_there all x.name a) (name_there all y.name b) in
    subst (λ w. ArePairsRead all w c.args.pairs.now.items)
    (sym (append-nil said) ∙ sym (ap (λ c. said ++ cond c ((symbol_of all x, symbol_of all y) ∷ []) []) (sym told ∙ c.if-active.false))) r
