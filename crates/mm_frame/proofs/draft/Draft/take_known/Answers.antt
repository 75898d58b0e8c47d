use Rattle.std.proofs.{Common.{arith, sym}, lemmas.Grind.{common_steps}}
use Rattle.mm_frame.{specs.Language.Sound.{sound_items}, proofs.lemmas.{base.BaseLemmas.{kept_are_sound}, faults.FoundFaults.{no_fault_sound}, names.KnownSymbols.{known_symbols}}}
use Rattle.mm_frame.proofs.draft.Draft.take_known.Goals as goal

pub returns : goal.returns
returns c all said first d numbers_first numbers =
    let item = c.args.statement.now in
    let before = sound_items said in
    let right = c.if-not-is_sound_as_known.false in
    let expression = c.is_sound_as_known.ensures.expression right in
    let fault = c.is_sound_as_known.ensures.fault right before (kept_are_sound said) first.0.scope numbers_first in
    let sound = no_fault_sound before item (sym fault) in
    let known = known_symbols all c.args.self.now.passed.scope.tables before item c.args.symbols.now (kept_are_sound said) d.0.scope.knows numbers sound expression (c.is_sound_as_known.ensures.sorts right) in
    c.in_ok-add.ensures all said d fault (λ u. absurd (grind (arith, common_steps) steps 200000)) known
