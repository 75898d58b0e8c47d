use Rattle.std.{proofs.Common.{◌<◌, Some, None, length, sym, ap, ◌∙◌, subst, arith}, specs.Option.{option_map}}
use Rattle.mm_proof.specs.{mm_frame.Language.Base.{said_at, fault_at, is_sound_at}, mm_statement.Language.Item.{is_kind, Theorem}, mm_verdict.Language.VerdictAt.{IsVerdictAt}}
use Rattle.mm_keep.proofs.{CitedItems.{checked_at}, ToldLemmas.{read_at, stands_at}, FoundLemmas.{sound_none, no_theorem}}
use Rattle.mm_keep.proofs.answers.finding_of.Goals as goal

pub at_fault-requires-clause-read : goal.at_fault-requires-clause-read
at_fault-requires-clause-read c = let r = c.requires in read_at r.0 c.args.files.now c.args.base.now c.args.i c.item-item.result.now (r.1, r.2, r.4) c.item-item.ensures.found

pub at_fault-requires-clause-stands : goal.at_fault-requires-clause-stands
at_fault-requires-clause-stands c = let r = c.requires in stands_at r.0 c.args.files.now c.args.base.now c.args.i c.item-item.result.now (r.1, r.2, r.4) c.item-item.ensures.found

pub judged-requires : goal.judged-requires
judged-requires c =
    let r = c.requires in
    let k = checked_at r.1 c.args.checked.now c.args.i (Some c.in-Some-get.check.now) r.3 r.4 (sym c.get.ensures ∙ ap (option_map (λ one. one.now)) c.in-Some-get.is) in
    (r.0, r.1, r.2, r.4, k.0, subst (IsVerdictAt r.1 c.args.i) (sym c.verdict.ensures) k.1)

pub returns-in-Some-get : goal.returns-in-Some-get
returns-in-Some-get c names view is checked =
    let within : c.args.i < length view = omega (arith, c.requires.4, c.requires.3.count, checked.count) in
    let k = checked_at view c.args.checked.now c.args.i (Some c.in-Some-get.check.now) checked within (sym c.get.ensures ∙ ap (option_map (λ one. one.now)) c.in-Some-get.is) in
    c.judged.ensures names view is k.0 (subst (IsVerdictAt view c.args.i) (sym c.verdict.ensures) k.1)

pub returns-in-None : goal.returns-in-None
returns-in-None c names view is checked =
    let within : c.args.i < length view = omega (arith, c.requires.4, c.requires.3.count, checked.count) in
    let none = checked_at view c.args.checked.now c.args.i None checked within (sym c.get.ensures ∙ ap (option_map (λ one. one.now)) c.in-None.is) in
    let sound = sound_none c.fault.result (fault_at view c.args.i) (c.fault.ensures view (names, is.read_in.base)) (cc) in
    let kind = c.item-item.ensures.kind view (names, is.read_in.base) in
    let other = no_theorem (is_sound_at view c.args.i) (is_kind Theorem (said_at view c.args.i).kind) sound none in
    c.unproved.ensures c.args.files.now c.args.base.now.items view c.args.i sound (ap (is_kind Theorem) kind ∙ other) kind
