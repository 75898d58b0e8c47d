-- Frames and settings whose symbols are renamed.
use Rattle.std.proofs.lemmas.{Grind.{common_steps}, List.{length-map, get_or-map, Elements.{All-map}}, Option.{slice_get-map}}
use Rattle.std.proofs.Common.{◌≡◌, ◌≢◌, ℕ, true, List, map, get_or, refl, sym, ap, ◌∙◌, subst, subst₂, arith, slice_get, All, AllPairs}
use Rattle.mm_machine.specs.Language.{Frame.{Symbol, Mandatory, Frame, LabelMeaning, Assertion, Setting, ArePair, AreSamePairs}, Typing.{IsTyped, IsTyping, IsFrame, HasFrames}}
use Rattle.mm_machine.specs.Language.{Renaming.{IsRenaming, renamed_pair, renamed_pairs, renamed_mandatory, renamed_frame, renamed_meaning, renamed_setting}, Names.{AreDistinct}}
use Rattle.mm_machine.specs.Language.{NumberedSymbols.{kept_pairs, IsPairNumbered, by_number}, Expansion.{Step}, CodeLists.{meant_pairs}, NamedSteps.{RunSays}, Numbering.{naming, unnaming}}
use Rattle.mm_machine.{specs.declared.{symbol.NumberedSymbol.{NumberedSymbol}, stepping.RunOutcome.{RunOutcome}}, proofs.lemmas.renaming.NumberingLemmas.{naming_is_renaming, pairs_numbered}}
use Rattle.mm_machine.proofs.lemmas.renaming.RenamingLemmas.{map_back, contains_map, contains_back, pair_there, pair_back, renaming_back, mandatory_there, has_there, has_back, setting_back}
use Rattle.mm_machine.proofs.lemmas.renaming.RenamingLemmas.{run_renamed}

-- a symbol after another renamed
second_own : (f : Symbol → Symbol) (g : Symbol → Symbol) → ((s : Symbol) → g (f s) ≡ s) → (xs ys : List Symbol) → slice_get (map f xs) 1 ≡ slice_get (map f ys) 1 → slice_get xs 1 ≡ slice_get ys 1
second_own f g e xs ys same = grind (arith, common_steps, map_back f g e xs, slice_get-map g (map f xs) 1, slice_get-map g (map f ys) 1, map_back f g e ys) steps 200000

module _ (to back : Symbol → Symbol) (is : IsRenaming to back) where
  typed_renamed : (hs : List Mandatory) (v : Symbol) → IsTyped hs v → IsTyped (map (renamed_mandatory to) hs) (to v)
  typed_renamed hs v t = (to t.0, is.kinds t.0 ∙ t.1, contains_map (renamed_mandatory to) hs _ t.2)

  once_renamed :
      (hs : List Mandatory) → AllPairs (λ (h g : Mandatory). h.floating ≡ true → g.floating ≡ true → slice_get h.expression 1 ≢ slice_get g.expression 1) hs →
      AllPairs (λ (h g : Mandatory). h.floating ≡ true → g.floating ≡ true → slice_get h.expression 1 ≢ slice_get g.expression 1) (map (renamed_mandatory to) hs)
  once_renamed hs once i j d less within = (
      let long = length-map hs (renamed_mandatory to) in
      let own = renamed_mandatory back d in
      let at = get_or-map (renamed_mandatory to) hs i own d (omega arith) in
      let behind = get_or-map (renamed_mandatory to) hs j own d (omega arith) in
      let apart = once i j own less (omega arith) in
      subst₂ (λ (h g : Mandatory). h.floating ≡ true → g.floating ≡ true → slice_get h.expression 1 ≢ slice_get g.expression 1) (sym at) (sym behind)
      (λ f g e. apart f g (second_own to back is.there (get_or hs i own).expression (get_or hs j own).expression e)))

  -- a frame stays one
  frame_renamed : (frame : Frame) → IsFrame frame → IsFrame (renamed_frame to frame)
  frame_renamed frame f =
      let inverse = renaming_back to back is in
      let hs = frame.hypotheses in
      record {
        expression_typed = λ v h. subst (IsTyped (map (renamed_mandatory to) hs)) (is.again v) (typed_renamed hs (back v) (f.expression_typed (back v) (has_back to back is frame.expression v h)));
        hypotheses_typed = λ h c v w.
            subst (IsTyped (map (renamed_mandatory to) hs)) (is.again v)
            (typed_renamed hs (back v) (f.hypotheses_typed (renamed_mandatory back h)
            (contains_back (renamed_mandatory to) (renamed_mandatory back) (mandatory_there to back is) hs h c) (back v) (has_there back to inverse h.expression v w)));
        pairs_typed = All-map (λ pair. (pair.0.variable ≡ true) × (pair.1.variable ≡ true) × IsTyped (map (renamed_mandatory to) hs) pair.0 × IsTyped (map (renamed_mandatory to) hs) pair.1) (renamed_pair to) frame.pairs
            (λ k d l. (let pair = get_or frame.pairs k d in let t = f.pairs_typed k d l in
            (is.kinds pair.0 ∙ t.0, is.kinds pair.1 ∙ t.1, typed_renamed hs pair.0 t.2, typed_renamed hs pair.1 t.3)));
        typings = All-map (λ (h : Mandatory). h.floating ≡ true → IsTyping h.expression) (renamed_mandatory to) hs
            (λ k d l floating. (let t = f.typings k d l floating in (to t.0, to t.1, ap (map to) t.2, is.kinds t.0 ∙ t.3, is.kinds t.1 ∙ t.4)));
        typed_once = once_renamed hs f.typed_once;
      }

  meaning_framed : (r : LabelMeaning) (frame : Frame) → ((other : Frame) → r ≡ Assertion other → IsFrame other) → renamed_meaning to r ≡ Assertion frame → IsFrame frame
  meaning_framed (Assertion other) frame is_frame same = let here : renamed_frame to other ≡ frame = cc in subst IsFrame here (frame_renamed other (is_frame other refl))
  meaning_framed _ frame is_frame same = cc

  frames_renamed : (place : Setting) → HasFrames place → HasFrames (renamed_setting to place)
  frames_renamed place has label frame at = meaning_framed (place.resolve label) frame (has label) at

  -- the same pairs
  pairs_renamed : (pairs others : List (Symbol × Symbol)) → AreSamePairs pairs others → AreSamePairs (renamed_pairs to pairs) (renamed_pairs to others)
  pairs_renamed pairs others same x y = (one pairs others (λ u v. (same u v).0), one others pairs (λ u v. (same u v).1))
    where
      one : (ps qs : List (Symbol × Symbol)) → ((u v : Symbol) → ArePair ps u v → ArePair qs u v) → ArePair (renamed_pairs to ps) x y → ArePair (renamed_pairs to qs) x y
      one ps qs each are = subst₂ (ArePair (renamed_pairs to qs)) (is.again x) (is.again y) (pair_there to qs (back x) (back y) (each (back x) (back y) (pair_back to back is.there ps x y are)))

-- numbers in place of names
module _ (names : List (List ℕ)) where
  by_numbers : IsRenaming (unnaming names) (naming names)
  by_numbers = renaming_back (naming names) (unnaming names) (naming_is_renaming names)

  pub pairs_by_number : AreDistinct names → (pairs : List (NumberedSymbol × NumberedSymbol)) (others : List (Symbol × Symbol)) → All (IsPairNumbered names) pairs →
      AreSamePairs (kept_pairs names pairs) others → AreSamePairs (meant_pairs by_number pairs) (renamed_pairs (unnaming names) others)
  pairs_by_number distinct pairs others all same =
      subst (λ (ps : List (Symbol × Symbol)). AreSamePairs ps (renamed_pairs (unnaming names) others)) (pairs_numbered names distinct pairs all)
      (pairs_renamed (unnaming names) (naming names) by_numbers (kept_pairs names pairs) others same)

  pub frame_by_number : (frame : Frame) → IsFrame frame → IsFrame (renamed_frame (unnaming names) frame)
  frame_by_number frame is = frame_renamed (unnaming names) (naming names) by_numbers frame is

  pub frames_by_number : (place : Setting) → HasFrames place → HasFrames (renamed_setting (unnaming names) place)
  frames_by_number place has = frames_renamed (unnaming names) (naming names) by_numbers place has

  -- what a run says by numbers, it says by names
  pub run_named : (place : Setting) (steps : List Step) (statement : List Symbol) (outcome : RunOutcome) →
      RunSays (renamed_setting (unnaming names) place) steps (map (unnaming names) statement) outcome → RunSays place steps statement outcome
  run_named place steps statement outcome says =
      subst₂ (λ (p : Setting) (e : List Symbol). RunSays p steps e outcome) (setting_back (unnaming names) (naming names) by_numbers place)
      (map_back (unnaming names) (naming names) by_numbers.there statement)
      (run_renamed (naming names) (unnaming names) (naming_is_renaming names) (renamed_setting (unnaming names) place) steps (map (unnaming names) statement)
      outcome says)
