use Rattle.std.{proofs.{Common.{rules, refl, ◌≡◌, ◌∙◌, ℕ, List, Option, Some, None, All, IfSome, map, unwrap_or, sym, ap}, lemmas.Option.{same_Some}}, specs.{Borrow.{Bor}, Option.{option_map}}}
use Rattle.mm_frame.specs.Language.{Base.{before, said_at}, Framing.{expression}}
use Rattle.mm_machine.specs.Language.{Frame.{Symbol}, Names.{AreDistinct}, NumberedSymbols.{IsNumbered, all_by_number, symbols_of}, Numbering.{unnaming}, RunLaws.{NumbersNameSymbols}}
use Rattle.mm_machine.specs.declared.symbol.NumberedSymbol.{NumberedSymbol}
use Rattle.mm_verdict.proofs.assertion.loaded_of.Goals as goal

abbrev Kept : Type 0
Kept = Bor (List NumberedSymbol)

-- what is found is answered
answered : NumbersNameSymbols → (names : List (List ℕ)) (e : List Symbol) (found : Option Kept) (none : Kept) → AreDistinct names → option_map (λ (s : Kept). symbols_of names s.now) found ≡ Some e →
    IfSome found (λ s. All (IsNumbered names) s.now) → all_by_number (unwrap_or found none).now ≡ map (unnaming names) e
answered same names e None none distinct is numbered = cc
answered same names e (Some s) none distinct is numbered = sym (same names distinct s.now numbered) ∙ ap (map (unnaming names)) (same_Some (symbols_of names s.now) e is)

-- nothing that is found is answered by no symbols
no_symbols : {X : Type 0} (f : Kept → X) (found : Option Kept) (none : Kept) → option_map f found ≡ None → unwrap_or found none ≡ none
no_symbols f None none is = refl
no_symbols f (Some s) none is = search (rules, is)

pub returns : goal.returns
returns c = record {
  item = λ names view is shown. (
      let n = c.args.number in
      let told = rw shown at (c.expression.ensures.symbols names view is) in
      let symbols : all_by_number c.unwrap_or-symbols.result.now ≡ map (unnaming names) (expression (before view n) (said_at view n)) =
      rw c.unwrap_or-symbols.ensures (answered c.numbers_name_symbols.ensures names (expression (before view n) (said_at view n)) c.expression.result _ is.distinct told (c.expression.ensures.numbered names view is)) in
      let floating = c.is_floating.ensures view (names, is) in
      λ i. record { floating = floating i; expression = symbols i });
  floating = c.is_floating.ensures;
  none = λ view is shown. ap (λ (s : Kept). s.now) (c.unwrap_or-symbols.ensures
      ∙ no_symbols (λ (s : Kept). symbols_of is.0 s.now) c.expression.result _ (rw shown at (c.expression.ensures.symbols is.0 view is.1)));
}
