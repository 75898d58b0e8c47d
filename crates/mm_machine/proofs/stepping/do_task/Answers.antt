use Rattle.std.proofs.Common.{◌≡◌, ◌++◌, ◌∷◌, [], map, length, get_or, refl, sym, ◌∙◌, ap, subst, MatchOption, slice_get}
use Rattle.mm_machine.specs.Language.{Frame.{Frame, Mandatory, AreSameFrame}, Expansion.{Step}, Faults.{IsLowest}, Machine.{State}, CodeLists.{meant_pairs}, Lasting.{cited_frame, lasting_of}}
use Rattle.mm_machine.specs.{declared.{pattern.Entry.{Entry}, stepping.Task.{Task}}, Code.{Flat.{read}, MachineState.{state_of}, Tasks.{HasState, IsTaskWithin}}}
use Rattle.mm_machine.proofs.lemmas.machine.FlatLemmas.{mapped_at, mapped_or_get, unmapped}
use Rattle.mm_machine.proofs.lemmas.machine.StepLemmas.{lasting, frames, means_push, means_cite, means_again, means_keep, cite_turns, TurnsTo, pushed_turns, kept_turns, cited_turns, named_turns}
use Rattle.mm_machine.proofs.stepping.do_task.Goals as goal

pub returns-in_ok-push_lasting-in-Push-clause-turns : goal.returns-in_ok-push_lasting-in-Push-clause-turns
returns-in_ok-push_lasting-in-Push-clause-turns g c place step before is pairs state means =
    let m = g.S.Symbol.means in
    let old = c.args.machine.now in
    let ensures = c.in_ok-push_lasting-in-Push.ensures in
    let k = means_push (lasting m old) (frames m g.S.Listed.Symbol.means old c.args.cited.now) place c.in-Push.n c.args.task step c.in-Push.is means in
    let h = unmapped (λ (h : Mandatory). h.expression) (lasting_of m old) c.in-Push.n k.1 k.3 in
    let stack = subst (λ e. (state_of m c.push_lasting.new.self).stack ≡ (state_of m old).stack ++ e ∷ []) h.2 (ensures.stack h.0 h.1) in
    pushed_turns m place step k.1 before old c.push_lasting.new.self (named_turns place is k.0 step k.1 before k.2 k.4) state stack ensures.saved

pub returns-in_ok-found-in-Cite-clause-turns : goal.returns-in_ok-found-in-Cite-clause-turns
returns-in_ok-found-in-Cite-clause-turns g c place step before is pairs state means =
    let m = g.S.Symbol.means in
    let listed = g.S.Listed.Symbol.means in
    let old = c.args.machine.now in
    let new = c.cite.new.self in
    let n = c.in-Cite.n in
    let x = c.index-cited-n.result in
    let found = c.in_ok-found-in-Cite.found in
    let ensures = c.in_ok-found-in-Cite.ensures in
    let cited = c.args.cited.now in
    let after : State = record { stack = (state_of m new).stack; saved = before.saved } in
    let within = subst (λ (w : Task). IsTaskWithin (length old.lasting.patterns.items) (length cited) (length old.saved.items) w) c.in-Cite.is c.requires.within in
    let k = means_cite (lasting m old) (frames m listed old cited) place n c.args.task step c.in-Cite.is means in
    let frame = cited_frame listed (lasting_of m old) in
    let same = subst (λ (f : Frame). AreSameFrame f k.2) (mapped_at frame cited n x k.1 within c.index-cited-n.is k.4) k.6 in
    let has : HasState m new after = record { stack = refl; saved = ensures.saved ∙ state.saved } in
    subst (λ (s : Step). MatchOption found (TurnsTo m new place s before) (IsLowest place s before.stack)) (sym k.3)
    (cited_turns m place k.0 before after new found has
    (cite_turns (meant_pairs listed c.args.active.now.pairs.now) place k.0 (frame x) k.2 (state_of m old).stack before after found pairs k.5 same state.stack refl ensures.cites))

pub returns-in_ok-push_saved-in-Again-clause-turns : goal.returns-in_ok-push_saved-in-Again-clause-turns
returns-in_ok-push_saved-in-Again-clause-turns g c place step before is pairs state means =
    let m = g.S.Symbol.means in
    let old = c.args.machine.now in
    let n = c.in-Again.n in
    let ensures = c.in_ok-push_saved-in-Again.ensures in
    let d : Entry = record { start = 0; end = 0; floor = 0 } in
    let within = subst (λ (w : Task). IsTaskWithin (length old.lasting.patterns.items) (length c.args.cited.now) (length old.saved.items) w) c.in-Again.is c.requires.within in
    let symbols = map m old.symbols.items in
    let e = read symbols (get_or old.saved.items n d) in
    let at = mapped_or_get (read symbols) old.saved.items n d within in
    let saved = ap (λ w. slice_get w n) (sym state.saved) ∙ at in
    let says = means_again (lasting m old) (frames m g.S.Listed.Symbol.means old c.args.cited.now) place n c.args.task step c.in-Again.is means in
    pushed_turns m place step e before old c.push_saved.new.self (rw says (e, saved, refl, refl)) state (ensures.stack e at) ensures.saved

pub returns-then-branch-clause-turns : goal.returns-then-branch-clause-turns
returns-then-branch-clause-turns g c place step before is pairs state means =
    let m = g.S.Symbol.means in
    let old = c.args.machine.now in
    let says = means_keep (lasting m old) (frames m g.S.Listed.Symbol.means old c.args.cited.now) place c.args.task step c.in-Keep.is means in
    kept_turns m place step before old c.save.new.self says state (rw c.if-branch.true at c.in_ok-save-in-Keep.ensures.saves)
