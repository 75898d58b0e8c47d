use Rattle.std.proofs.{Common.{◌≡◌, ◌∙◌, ℕ, List, ap, sym, subst, map, All}, lemmas.Simd.{map-map}}
use Rattle.mm_frame.specs.Language.Base.{hypothesis_at, frame_at}
use Rattle.mm_machine.specs.Language.{Frame.{AreSamePairs}, Renaming.{renamed_mandatory}, CodeLists.{meant_pairs}, Lasting.{lasting_or}, Numbering.{unnaming}, NumberedSymbols.{by_number}}
use Rattle.mm_machine.specs.declared.symbol.NumberedSymbol.{NumberedSymbol}
use Rattle.mm_verdict.{specs.{Code.NumberedBase.{numbered_hypothesis, numbered_frame}, Language.Loaded.{HasItem}}, proofs.lemmas.base.FrameLemmas.{frame_moved, shown_framed}}
use Rattle.mm_verdict.proofs.lemmas.lists.Every.{map_alike}
use Rattle.mm_verdict.proofs.assertion.cited_of.Goals as goal

pub returns-clause-has : goal.returns-clause-has
returns-clause-has c lasting loaded =
    let numbers = rw c.unwrap-frame.ensures at (c.frame.ensures.numbers c.requires.0 c.requires.1) in
    record {
      expression = loaded.0;
      hypotheses = subst (λ (ns : List ℕ). All (HasItem c.args.base.now lasting) ns) (sym (c.deref.ensures.value ∙ numbers)) (loaded.1 c.requires.0 c.requires.1 c.requires.2);
    }

pub returns-clause-same : goal.returns-clause-same
returns-clause-same c lasting has names view is framed =
    let n = c.args.number in
    let means = rw c.unwrap-frame.ensures at (c.frame.ensures.means view (names, is)) in
    let renamed = renamed_mandatory (unnaming names) in
    let hypotheses = subst (λ (ns : List ℕ). All (HasItem c.args.base.now lasting) ns) c.deref.ensures.value has.hypotheses in
    let there : All (λ m. lasting_or lasting m ≡ numbered_hypothesis names view m) c.unwrap-frame.result.now.hypotheses.items = λ k d l. (hypotheses k d l).1 names view is (means.each k d l).1 in
    record {
      expression = ap (λ h. h.expression) (has.expression.1 names view is (shown_framed view n framed));
      hypotheses = ap (map (lasting_or lasting)) c.deref.ensures.value ∙ map_alike (lasting_or lasting) (numbered_hypothesis names view) _ there
          ∙ sym (map-map renamed (hypothesis_at view) _) ∙ ap (map renamed) means.are;
      pairs = subst (λ (ps : List (NumberedSymbol × NumberedSymbol)). AreSamePairs (meant_pairs by_number ps) (numbered_frame names view n).pairs) (sym c.deref-2.ensures.value)
          (c.numbers_keep_pairs.ensures names is.distinct _ (frame_at view n).pairs (rw c.unwrap-frame.ensures at (c.frame.ensures.numbered names view is)) (rw c.unwrap-frame.ensures at (c.frame.ensures.pairs names view is)));
    }

pub returns-clause-frame : goal.returns-clause-frame
returns-clause-frame c lasting has =
    let view = c.requires.0 in
    let names = c.requires.1.0 in
    let is = c.requires.1.1 in
    let n = c.args.number in
    let same = returns-clause-same c lasting has names view is c.requires.2 in
    record {
      expression = has.expression.0;
      hypotheses = λ k d l. (has.hypotheses k d l).0;
      frame = frame_moved _ (numbered_frame names view n) same (c.numbers_keep_frames.ensures names (frame_at view n) (c.assertions_have_frames.ensures.floats view n c.requires.2));
    }
