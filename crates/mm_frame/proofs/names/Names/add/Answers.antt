use Rattle.std.{proofs.{Common.{arith, rules, ◌≡◌, ap, ◌∙◌, sym, map, ◌++◌, ◌∷◌, [], get_or, slice_get}, lemmas.{Grind.{common_steps}, List.{length-map}}}, specs.{Str.{bytes_eq}, List.{list_any}}}
use Rattle.mm_frame.proofs.{lemmas.{lists.Members.{get_join}, names.NumberLemmas.{inserted, any_by_keys}}, names.Names.add.Goals.{In_ok-insert}}
use Rattle.mm_frame.proofs.names.Names.add.Goals as goal

-- the names then
more : (c : In_ok-insert) → map (λ key. key.items) c.insert.new.self.keys ≡ c.args.self.now ++ c.args.name.now ∷ []
more c =
    let keys = c.self.inside.names.keys in
    let name = c.args.name.now in
    let is = c.self.view_is ∙ c.in_ok-make_places.ensures in
    let new = sym (any_by_keys name keys) ∙ ap (list_any (bytes_eq name)) is ∙ c.requires in
    ap (map (λ key. key.items)) c.in_ok-insert.ensures.keys ∙ inserted keys c.in_ok-key.key name c.in_ok-key.ensures.items new ∙ ap (λ names. names ++ name ∷ []) is

pub returns-clause-ok : goal.returns-clause-ok
returns-clause-ok c = grind (arith, common_steps, length-map c.self.inside.names.keys (λ key. key.items), more c) steps 200000

pub invariant_of-self-2 : goal.invariant_of-self-2
invariant_of-self-2 c = record {
  once = (search rules);
  found = λ k d l name coded same.
      let n = (get_or c.self.inside.found.items k d).number in
      let is = c.self.view_is ∙ c.in_ok-make_places.ensures in
      ap (λ names. slice_get names n) (more c)
      ∙ get_join c.args.self.now (c.args.name.now ∷ []) n name (ap (λ names. slice_get names n) (sym is) ∙ c.self.invariant.found k d l name coded same);
}
