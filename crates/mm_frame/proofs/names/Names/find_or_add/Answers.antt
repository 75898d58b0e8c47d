use Rattle.std.{proofs.{Common.{arith, sym, ap, ◌∙◌, is_some}, lemmas.Grind.{common_steps}}, specs.{Str.{bytes_eq}, List.{list_any}}}
use Rattle.mm_frame.proofs.lemmas.{lists.Members.{get_between}, names.NumberLemmas.{number_by_keys, any_by_keys, number_names, added_grows}}
use Rattle.mm_frame.proofs.names.Names.find_or_add.Goals as goal

pub returns-in-Some-clause-named : goal.returns-in-Some-clause-named
returns-in-Some-clause-named c =
    grind (arith, common_steps, number_names _ c.args.name.now c.in-Some.number (sym (number_by_keys c.args.name.now c.self.inside.names.keys) ∙ sym c.get_index_of.ensures.index ∙ c.in-Some.is)) steps 200000

pub add-requires : goal.add-requires
add-requires c = ap (list_any (bytes_eq c.args.name.now)) (sym c.self.view_is) ∙ any_by_keys c.args.name.now c.self.inside.names.keys ∙ sym c.get_index_of.ensures.found ∙ ap is_some c.in-None.is

pub returns-in-None-clause-named : goal.returns-in-None-clause-named
returns-in-None-clause-named c = grind (arith, common_steps, get_between, c.add.ensures.ok) steps 200000

pub returns-in-None-clause-grows : goal.returns-in-None-clause-grows
returns-in-None-clause-grows c = added_grows c.add.result c.args.self.now c.add.new.self c.args.name.now c.add.ensures.ok c.add.ensures.err
