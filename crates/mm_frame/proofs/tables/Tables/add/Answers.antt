use Rattle.std.proofs.{Common.{arith, [], refl, ap, sym}, lemmas.{Grind.{common_steps}, Result.{on_ok_weaker}}}
use Rattle.mm_statement.specs.Language.{Item.{Constants, Variables, Floating}, Statement.{kind_of}}
use Rattle.mm_frame.{specs.Code.KeptScope.{uses_numbers}, proofs.lemmas.scope.KnownLemmas.{knows_next, takes_sound_float, takes_label}}
use Rattle.mm_frame.proofs.tables.Tables.add.Goals as goal

pub returns-in-Constants : goal.returns-in-Constants
returns-in-Constants c =
    let item = c.args.statement.now in
    on_ok_weaker c.take_constants.result
    (λ d all before h l a k. knows_next all before item Constants c.args.number c.args.self.now c.take_constants.new.self c.in-Constants.ensures.kind h l k
    (record {
      names = (d all item.symbols k.distinct (a (ap uses_numbers (sym c.in-Constants.ensures.kind)))).names;
      labels =
          (d all item.symbols k.distinct (a (ap uses_numbers (sym c.in-Constants.ensures.kind)))).labels;
    }))
    c.take_constants.ensures

pub returns-in-Variables : goal.returns-in-Variables
returns-in-Variables c =
    let item = c.args.statement.now in
    on_ok_weaker c.take_variables.result
    (λ d all before h l a k. knows_next all before item Variables c.args.number c.args.self.now c.take_variables.new.self c.in-Variables.ensures.kind h l k
    (record {
      names = (d all item.symbols k.distinct (a (ap uses_numbers (sym c.in-Variables.ensures.kind)))).names;
      labels =
          (d all item.symbols k.distinct (a (ap uses_numbers (sym c.in-Variables.ensures.kind)))).labels;
    }))
    c.take_variables.ensures

pub returns-in-Floating : goal.returns-in-Floating
returns-in-Floating c =
    let item = c.args.statement.now in
    on_ok_weaker c.take_label.result
    (λ d all before h l a k. knows_next all before item Floating c.args.number c.args.self.now c.take_label.new.self c.in-Floating.ensures.kind h l k
    (takes_sound_float all before item c.args.number c.args.self.now c.take_float.new.self c.take_label.new.self (h before item [] refl) c.in-Floating.ensures.kind
    (c.take_float.ensures all item.symbols k.distinct (a (ap uses_numbers (sym c.in-Floating.ensures.kind)))) (d all)))
    c.take_label.ensures

pub returns-in-Essential : goal.returns-in-Essential
returns-in-Essential c =
    let item = c.args.statement.now in
    let new = c.take_label-in-Essential.new.self in
    on_ok_weaker c.take_label-in-Essential.result
    (λ d all before h l a k. knows_next all before item (kind_of c.kind.result) c.args.number c.args.self.now new c.kind.ensures.kind h l k (takes_label all c.kind.result item c.args.number c.args.self.now new c.in-Essential.is (d all)))
    c.take_label-in-Essential.ensures

pub returns-in-Disjoint : goal.returns-in-Disjoint
returns-in-Disjoint c all before h l a k =
    knows_next all before c.args.statement.now (kind_of c.kind.result) c.args.number c.args.self.now c.args.self.now c.kind.ensures.kind h l k
    (grind (arith, common_steps, c.in-Disjoint.is) steps 200000)
