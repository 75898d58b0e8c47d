use Rattle.std.proofs.{lemmas.Grind.{common_steps}, Common.{◌∙◌, sym, subst, List, [], arith}}
use Rattle.mm_store.{specs.{declared.item.Item.{Item}, Language.{FilesView.{files_in}, Walking.{IsWalk}}}, proofs.lemmas.{files.ViewLemmas.{number_plain}, expansion.WalkStepLemmas.{walk_begins}}}
use Rattle.mm_store.proofs.lemmas.expansion.{BudgetLemmas.{expansion_few, bytes_few}, NameLemmas.{expansion_names}, StandLemmas.{expansion_read, expansion_stands}}
use Rattle.mm_store.proofs.files.Files.statements.Goals as goal

pub returns-clause-items : goal.returns-clause-items
returns-clause-items c =
    let view = c.args.self.now in
    let top = c.args.top.now in
    let begun = c.in_ok-walk.ensures.ok in
    let is = walk_begins (files_in view) c.hold_units.ensures top begun.0 (sym (number_plain view top) ∙ begun.1) in
    let none = sym c.new-items.ensures.items in
    c.in_ok-push_rest.ensures top (subst (λ (items : List Item). IsWalk (files_in view) top items c.in_ok-walk.walk) none (subst (IsWalk (files_in view) top []) (sym begun.2) is))

pub returns-clause-read : goal.returns-clause-read
returns-clause-read c = expansion_read c.parts_are_texts.ensures c.args.self.now c.holds_pieces.ensures c.args.top.now c.push_rest.new.items.items (returns-clause-items c)

pub returns-clause-stand : goal.returns-clause-stand
returns-clause-stand c = expansion_stands c.parts_are_texts.ensures c.args.self.now c.args.top.now c.push_rest.new.items.items (returns-clause-items c)

pub returns-clause-missing : goal.returns-clause-missing
returns-clause-missing c =
    expansion_names c.one_meaning.ensures.words c.one_division.ensures.units c.words_stand_alone.ensures.statement c.args.self.now c.args.top.now c.push_rest.new.items.items c.hold_units.ensures (returns-clause-items c)

pub returns-clause-few : goal.returns-clause-few
returns-clause-few c = grind (arith, common_steps, expansion_few (files_in c.args.self.now) c.args.top.now c.push_rest.new.items.items (returns-clause-items c), bytes_few c.args.self.now) steps 200000

pub returns-clause-small : goal.returns-clause-small
returns-clause-small c = grind (arith, common_steps, returns-clause-few c) steps 200000
