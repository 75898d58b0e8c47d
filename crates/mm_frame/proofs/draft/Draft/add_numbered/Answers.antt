use Rattle.std.proofs.Common.{◌∙◌, is_none, sym, subst}
use Rattle.mm_frame.specs.{Language.Sound.{sound_items}, Code.{KeptSymbols.{AreSymbolsOf}, KeptTables.{Knows}, Numbers.{AreNameNumbers}}}
use Rattle.mm_frame.proofs.lemmas.base.BaseLemmas.{kept_are_sound, sound_found_none, none_found}
use Rattle.mm_frame.proofs.draft.Draft.add_numbered.Goals as goal

pub returns : goal.returns
returns c all said first d numbers_first numbers =
    let item = c.args.statement.now in
    let before = sound_items said in
    let found = c.in_ok-fault.fault in
    let are_sound = kept_are_sound said in
    let told = c.in_ok-fault.ensures before are_sound first.0.scope (subst (λ w. AreNameNumbers c.args.names.now w item.symbols) (sym c.deref.ensures.value) numbers_first) in
    let none = none_found found c.is_none-sound.result c.is_none-sound.ensures in
    let knows = subst (λ w. Knows all before w) (sym c.tables-tables.ensures) d.0.scope.knows in
    let kept_numbers = subst (λ w. AreNameNumbers all w item.symbols) (sym c.deref-2.ensures.value) numbers in
    c.in_ok-add.ensures all said d told (λ t. numbers) (subst (AreSymbolsOf all before item (is_none found)) (sym c.deref-3.ensures.value) (record {
      numbered = c.in_ok-keep_symbols.ensures.numbered all kept_numbers;
      read = λ t r. c.in_ok-keep_symbols.ensures.read all before are_sound knows kept_numbers (sym none ∙ t) (sound_found_none (λ f. (f.word, f.number)) before item found told t) r;
    }))
