use Rattle.std.{proofs.{lemmas.Grind.{common_steps}, Common.{◌≡◌, true, length, ◌∷◌, ◌++◌, [], ◌∙◌, ap, sym, subst, arith}}, specs.Option.{option_map}}
use Rattle.mm_frame.proofs.lemmas.{faults.FoundFaults.{kept_next}, base.{BaseLemmas.{rows_more, kept_are_sound, kept_count, sound_found_none, symbols_more, symbols_taken}, RowLemmas.{some_lent}}}
use Rattle.mm_frame.specs.{Language.{Base.{fault_by}, Sound.{sound_items}, Answering.{AreRows, IsLabelTold}}, Code.{KeptActiveItems.{AreActiveKept}, KeptDisjointRows.{KnowsPairs}}}
use Rattle.mm_frame.specs.Code.{KeptRows.{rows_of, fault_told}, KeptScope.{ScopeHolds, taken}}
use Rattle.mm_frame.proofs.passed.Passed.add_item.Goals as goal

pub returns : goal.returns
returns c all said d told numbers kept =
    let item = c.args.statement.now in
    let before = sound_items said in
    let found = c.args.fault.now in
    let flag = c.next-item.result.sound in
    let are_sound = kept_are_sound said in
    let none = sym c.next-item.ensures.sound in
    let is_sound = λ (t : flag ≡ true). sound_found_none (λ f. (f.word, f.number)) before item found told (none ∙ t) in
    let more = ap (λ b. before ++ taken b item ∷ []) (sym none) ∙ (grind (arith, common_steps, kept_next) steps 200000) in
    let symbols = c.args.symbols.now in
    let own = λ (t : flag ≡ true). kept.read (none ∙ t) in
    let kind = c.next-item.ensures.kind in
    let holds = c.in_ok-next.ensures all before are_sound d.scope is_sound numbers in
    let number : c.next-item.result.number ≡ length before = omega (arith, c.next-item.ensures.number, kept_count said, d.rows.count) in
    let pairs = c.in_ok-add_disjoint.ensures all before item d.scope.knows.distinct are_sound kind number (c.blocks-blocks.ensures ∙ d.scope.marks)
    (λ t. numbers (grind (arith, common_steps) steps 200000)) is_sound d.disjoint_rows in
    let added = c.in_ok-add_expression.ensures in
    let active = c.in_ok-add_item.ensures before item c.args.self.now.expressions symbols kind number (c.blocks-blocks-2.ensures ∙ holds.marks) d.symbols.count added d.active in
    record {
      scope = subst (λ w. ScopeHolds all w c.next.new.self) more holds;
      kept = c.in_ok-add.ensures.kept d.kept;
      rows = subst (AreRows IsLabelTold (said ++ item ∷ [])) (sym (c.in_ok-add.ensures.more d.kept))
          (rows_more IsLabelTold said item (rows_of c.args.self.now.rows) (option_map (λ label. label.now) c.label.result, fault_told c.told_fault.result) d.rows (record {
            label = c.label.ensures.label;
            labelled = some_lent (λ label. label.now) c.label.result ∙ c.label.ensures.some;
            fault = c.told_fault.ensures ∙ ap (λ k. fault_by k (option_map (λ f. (f.word, f.number)) found)) kind ∙ ap (fault_by item.kind) told;
          }));
      symbols =
          grind (arith, common_steps, symbols_more all before (taken flag item) c.args.self.now.expressions symbols d.symbols kept.numbered (symbols_taken all before item symbols flag own)) steps 200000;
      active = subst (λ w. AreActiveKept w c.add_expression.new.expressions c.add_item.new.self) more active;
      disjoint_rows = subst (λ w. KnowsPairs all w c.add_disjoint.new.pairs) more pairs;
    }
