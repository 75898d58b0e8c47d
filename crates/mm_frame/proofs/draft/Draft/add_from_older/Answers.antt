use Rattle.std.proofs.{Common.{◌≡◌, true, is_none, length, sym, subst, ◌∙◌}, lemmas.Result.{on_ok_weaker}}
use Rattle.mm_frame.{specs.{Language.{Base.{told_fault}, Sound.{fault, sound_items}}, Code.{KeptSymbols.{AreSymbolsOf}, Numbers.{AreNameNumbers}}}, proofs.lemmas.base.BaseLemmas.{none_told}}
use Rattle.mm_frame.proofs.draft.Draft.add_from_older.Goals as goal

pub returns : goal.returns
returns c = on_ok_weaker c.add_item.result (λ follows all base said next sound read symbols numbered numbers d.
    let item = c.args.statement.now in
    let before = sound_items said in
    let no_fault = none_told item.kind (fault before item) (sym (λ i. is_none (told_fault (sound_items (next.front i)) (next.here i))) ∙ sound) in
    let here : c.count-number.result ≡ length said = c.count-number.ensures ∙ d.0.rows.count in
    let kept : AreSymbolsOf all before item true c.args.symbols.now = record { numbered = numbered; read = λ t r. symbols } in (
      follows all said d.0 (sym no_fault) (λ t. subst (λ w. AreNameNumbers all w item.symbols) (sym c.deref.ensures.value) (numbers t)) kept,
      c.in_ok-add_from_older.ensures all base said item next here d.0.symbols (c.disjoints.ensures ∙ d.0.active.disjoints) d.1,
    )) c.add_item.ensures
