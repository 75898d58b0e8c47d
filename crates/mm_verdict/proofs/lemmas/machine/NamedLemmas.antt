-- What the labels of a proof name, by what a machine has loaded.
use Rattle.std.proofs.lemmas.{Grind.{common_steps}, List.{length-map, Elements.{All-nil, All-cons}}, Option.{slice_get-get_or, slice_get-map, slice_get_within}}
use Rattle.std.{proofs.Common.{◌≡◌, ℕ, ◌≤◌, ◌<◌, ◌⊎◌, inl, inr, true, Some, List, [], ◌∷◌, ◌++◌, length, map, sym, ◌∙◌, ap, subst, arith, slice_get, All}, specs.{List.{AllZip}, Option.{option_map}}}
use Rattle.mm_verdict.specs.Code.NamedItems.{AreCited, AreKnownOf, AreNamesOf, HasItems, IsNamedBy, IsUseIn, IsUseOf, TakesNothing}
use Rattle.mm_verdict.specs.{Code.NumberedBase.{numbered_frame, numbered_hypothesis, numbered_setting}, Language.{DecodedSteps.{AreEntries, IsEntry, entry_step, entry_steps}, Loaded.{HasItem}}}
use Rattle.mm_verdict.{specs.declared.known.Known.{Known}, proofs.lemmas.{base.FrameLemmas.{shown_framed}, machine.LoadedLemmas.{AreLoaded}}}
use Rattle.mm_frame.specs.{declared.base.{Base.{Base}, Resolved.{Resolved}}, Language.{Base.{BaseView, is_framed_at, is_shown_at}, Answering.{IsBase, IsBaseBy}}}
use Rattle.mm_machine.specs.Language.{Frame.{Symbol, Mandatory, LabelMeaning, Assertion}, Keys.{key_by_number}, Renaming.{renamed_meaning}, Numbering.{unnaming}}
use Rattle.mm_machine.specs.Language.{NamedSteps.{IsUseWithin, MeansUse, Pushes}, Lasting.{HoldsLasting, cited_frame, lasting_at, lasting_of}, NumberedSymbols.{by_code, by_number}}
use Rattle.mm_machine.specs.declared.{machine.Machine.{Machine}, named.{Cited.{Cited}, Use.{Use}}, symbol.{CodedSymbol.{CodedSymbol}, NumberedSymbol.{NumberedSymbol}}}
use Rattle.mm_frame.specs.declared.base.Resolved.TheVariants as answers
use Rattle.mm_machine.specs.declared.named.Use.TheVariants as uses

-- ---- entries of a table

pub named_by : (code : Base) (view : BaseView) (i : ℕ) → IsBase view code → (labels : List Resolved) → AreEntries view i labels → All (IsNamedBy code i) labels
named_by code view i base [] entries = All-nil (IsNamedBy code i)
named_by code view i base (l ∷ labels) entries =
    All-cons (IsNamedBy code i) l labels (record { view = view; i = i; base = base; within = omega arith; entry = entries.0 }) (named_by code view i base labels entries.1)

-- up to a number that is not lower
pub named_up : (code : Base) (i n : ℕ) (label : Resolved) → i ≤ n → IsNamedBy code i label → IsNamedBy code n label
named_up code i n label l is = record { view = is.view; i = is.i; base = is.base; within = (let w = is.within in omega (arith, l, w)); entry = is.entry }

-- the number of an item that it names
pub named_within : (code : Base) (n : ℕ) (label : Resolved) (j : ℕ) → IsNamedBy code n label → (label ≡ answers.Hypothesis j) ⊎ (label ≡ answers.Assertion j) → j < n
named_within code n label j is (inl e) = let entry = subst (IsEntry is.view is.i) e is.entry in let l = entry.0.earlier in let up = is.within in omega (arith, l, up)
named_within code n label j is (inr e) = let entry = subst (IsEntry is.view is.i) e is.entry in let l = entry.0.earlier in let up = is.within in omega (arith, l, up)

-- ---- all uses

abbrev Assertions : Type 0
Assertions = List (Cited NumberedSymbol)

-- each assertion is at the same place in the other list
abbrev Stay : Assertions → Assertions → Type 0
Stay old new = (n : ℕ) (c : Cited NumberedSymbol) → slice_get old n ≡ Some c → slice_get new n ≡ Some c

one_stays : (code : Base) (lasting : List Mandatory) (old new : Assertions) → Stay old new → (u : Use) (l : Resolved) → IsUseOf code lasting old u l → IsUseOf code lasting new u l
one_stays code lasting old new stay (uses.Lasting n) (answers.Hypothesis j) s = s
one_stays code lasting old new stay (uses.Lasting n) (answers.Assertion j) s = s
one_stays code lasting old new stay (uses.Assertion n) (answers.Assertion j) s = (s.0, stay n s.0 s.1, s.2)
one_stays code lasting old new stay uses.Nothing answers.Inactive s = tt
one_stays code lasting old new stay uses.Nothing answers.Unknown s = tt
one_stays code lasting old new stay _ _ s = absurd s

-- with one more
pub uses_more : (code : Base) (lasting : List Mandatory) (old new : Assertions) → Stay old new → (all : List Use) (labels : List Resolved) (u : Use) (l : Resolved) →
    AllZip (IsUseOf code lasting old) all labels → IsUseOf code lasting new u l → AllZip (IsUseOf code lasting new) (all ++ u ∷ []) (labels ++ l ∷ [])
uses_more code lasting old new stay [] [] u l z s = (s, tt)
uses_more code lasting old new stay (v ∷ all) (m ∷ labels) u l z s = (one_stays code lasting old new stay v m z.0, uses_more code lasting old new stay all labels u l z.1 s)
uses_more code lasting old new stay _ _ u l z s = absurd z

-- they are in range
one_within : (code : Base) (lasting : List Mandatory) (cited : Assertions) (u : Use) (l : Resolved) → IsUseOf code lasting cited u l → IsUseWithin (length lasting) (length cited) u
one_within code lasting cited (uses.Lasting n) (answers.Hypothesis j) s = s.1.0
one_within code lasting cited (uses.Lasting n) (answers.Assertion j) s = s.1.0
one_within code lasting cited (uses.Assertion n) (answers.Assertion j) s = slice_get_within cited n s.0 s.1
one_within code lasting cited uses.Nothing answers.Inactive s = tt
one_within code lasting cited uses.Nothing answers.Unknown s = tt
one_within code lasting cited _ _ s = absurd s

uses_within : (code : Base) (lasting : List Mandatory) (cited : Assertions) (all : List Use) (labels : List Resolved) → AllZip (IsUseOf code lasting cited) all labels → All (IsUseWithin (length lasting) (length cited)) all
uses_within code lasting cited [] labels z = All-nil (IsUseWithin (length lasting) (length cited))
uses_within code lasting cited (u ∷ all) [] z = absurd z
uses_within code lasting cited (u ∷ all) (l ∷ labels) z =
    All-cons (IsUseWithin (length lasting) (length cited)) u all (one_within code lasting cited u l z.0) (uses_within code lasting cited all labels z.1)

-- what an assertion that takes nothing pushes
nothing_pushed : (code : Base) (j : ℕ) → TakesNothing code j → (names : List (List ℕ)) (view : BaseView) → IsBaseBy names view code → is_framed_at view j ≡ true → (e : List Symbol) →
    e ≡ (numbered_hypothesis names view j).expression → Pushes (Assertion (numbered_frame names view j)) e
nothing_pushed code j takes names view base framed e is = let t = takes names view base framed in (t.0, sym is, rw is t.1)

module _ (code : Base) (lasting : List Mandatory) (cited : Assertions) (names : List (List ℕ)) (view : BaseView) (base : IsBaseBy names view code) where
  -- the expression that a use pushes
  pushed : (n j : ℕ) → n ≡ j → HasItem code lasting n → is_shown_at view j ≡ true →
      (e : List Symbol) × (slice_get (map (λ h. h.expression) lasting) n ≡ Some e) × (e ≡ (numbered_hypothesis names view j).expression)
  pushed n j same has shown = grind (arith, common_steps, slice_get-get_or, slice_get-map) steps 200000

  -- and they mean what the entries mean
  one_means : (i : ℕ) (u : Use) (l : Resolved) → IsUseOf code lasting cited u l → IsEntry view i l →
      MeansUse (map (λ h. h.expression) lasting) (map (cited_frame by_number lasting) cited) (numbered_setting names view i) u (entry_step view l)
  one_means i (uses.Lasting n) (answers.Hypothesis j) s e =
      let h = pushed n j s.0 s.1 e.0.carrier.shown in
      (h.0, h.1, subst (λ (m : LabelMeaning). Pushes m h.0) (sym (ap (renamed_meaning (unnaming names)) e.1)) (sym h.2))
  one_means i (uses.Lasting n) (answers.Assertion j) s e =
      let h = pushed n j s.0 s.1 (shown_framed view j e.1) in
      (h.0, h.1, subst (λ (m : LabelMeaning). Pushes m h.0) (sym (ap (renamed_meaning (unnaming names)) e.2)) (nothing_pushed code j s.2 names view base e.1 h.0 h.2))
  one_means i (uses.Assertion n) (answers.Assertion j) s e =
      let frame = cited_frame by_number lasting in
      (frame s.0, numbered_frame names view j, slice_get-map frame cited n ∙ ap (option_map frame) s.1, ap (renamed_meaning (unnaming names)) e.2, s.2 names view base e.1)
  one_means i uses.Nothing answers.Inactive s e = tt
  one_means i uses.Nothing answers.Unknown s e = tt
  one_means i _ _ s e = absurd s

  uses_mean : (i : ℕ) (all : List Use) (labels : List Resolved) → AllZip (IsUseOf code lasting cited) all labels → AreEntries view i labels →
      AllZip (MeansUse (map (λ h. h.expression) lasting) (map (cited_frame by_number lasting) cited) (numbered_setting names view i)) all (entry_steps view labels)
  uses_mean i [] [] z e = tt
  uses_mean i (u ∷ all) (l ∷ labels) z e = (one_means i u l z.0 e.0, uses_mean i all labels z.1 e.1)
  uses_mean i _ _ z e = absurd z

-- what is known names the labels
pub names_of : (code : Base) (known : Known) (labels : List Resolved) → AreKnownOf code known → AreCited code known → AllZip (IsUseIn code known) known.uses.items labels → AreNamesOf code labels known
names_of code known labels is cited stand = record {
  of_base = is;
  cited = cited;
  within = subst (λ n. All (IsUseWithin n (length known.cited.items)) known.uses.items) (length-map known.machine.lasting.patterns.items (lasting_at (map by_code known.machine.symbols.items)))
      (uses_within code (lasting_of by_code known.machine) known.cited.items known.uses.items labels stand);
  means = λ names view base i entries. uses_mean code (lasting_of by_code known.machine) known.cited.items names view base i known.uses.items labels stand entries;
}

-- what is known stays if the lasting expressions stay
pub ran : (code : Base) (old new : Machine CodedSymbol) → HasItems code old → HoldsLasting by_code key_by_number new → lasting_of by_code new ≡ lasting_of by_code old → HasItems code new
ran code old new is holds same = record { holds = holds; loaded = subst (AreLoaded code) (sym same) is.loaded }
