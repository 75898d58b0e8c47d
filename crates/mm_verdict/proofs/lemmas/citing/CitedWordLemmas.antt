-- The words that the code gives are those that cite.
use Rattle.std.proofs.Common.{rules, arith, ◌≡◌, ℕ, zero, suc, ◌+◌, Bool, true, false, not, ◌&&◌, List, [], ◌∷◌, ◌++◌, length, map, drop, refl, sym, ap, ◌∙◌, inl, inr, filter, bytes_eq, codes, nat_eq}
use Rattle.std.proofs.{Common.{slice_get, slice_index_or}, lemmas.{Grind.{common_steps}, Bool.{cases_Bool, Decides.{nat_tests}}, Slice.Eq.{bytes_eq-Decides}}}
use Rattle.std.specs.List.{list_any, enumerate_from, before_first}
use Rattle.mm_frame.specs.{Language.Base.{BaseView, is_shown_at}, declared.base.Resolved.{Resolved}}
use Rattle.mm_verdict.specs.Language.{BaseLabels.{NoLabelTwice, label_at, setting_at}, Citing.{first_of_each, means_assertion, names_assertion, is_cited, cited_words}}
use Rattle.mm_verdict.specs.Language.{DecodedSteps.{entry_step, entry_steps, IsEntry, AreEntries, labels_at, word_step, label_table}, Decoding.{is_close, is_compressed}}
use Rattle.mm_verdict.{specs.Code.Cited.{cited_item, item_named, is_item, names_item, without, item_cites}, proofs.lemmas.views.SameCites.{other_label}}
use Rattle.mm_machine.specs.{Language.{NamedSteps.{meant}, Expansion.{Step, Named, NotKnown}}, declared.step.{Action.{Action}, ProofStep.{ProofStep}}}
use Rattle.mm_frame.specs.declared.base.Resolved.TheVariants as answers
use Rattle.mm_machine.specs.declared.step.Action.TheVariants as actions

abbrev Words : Type 0
Words = List (ℕ × List ℕ)

-- the words whose labels pass, each label once
abbrev told : (List ℕ → Bool) → Words → List ℕ
told P words = map (λ (w : ℕ × List ℕ). w.0) (filter (λ (w : ℕ × List ℕ). P w.1) (first_of_each words))

-- the labels that pass, without this one
abbrev less : (List ℕ → Bool) → List ℕ → List ℕ → Bool
less P label other = P other && not (bytes_eq label other)

both : {X : Type 0} (P Q : X → Bool) (xs : List X) → filter P (filter Q xs) ≡ filter (λ x. P x && Q x) xs
both P Q [] = refl
both P Q (x ∷ xs) = grind (arith, common_steps, cases_Bool (Q x), cases_Bool (P x), both P Q xs) steps 200000

alike : {X : Type 0} (P Q : X → Bool) (xs : List X) → ((x : X) → P x ≡ Q x) → filter P xs ≡ filter Q xs
alike P Q [] same = refl
alike P Q (x ∷ xs) same = rw (same x, alike P Q xs same) refl

told_yes : (P : List ℕ → Bool) (n : ℕ) (label : List ℕ) (words : Words) → P label ≡ true → told P ((n, label) ∷ words) ≡ n ∷ told (less P label) words
told_yes P n label words e = rw e (ap (λ (w : Words). n ∷ map (λ (w : ℕ × List ℕ). w.0) w) (both (λ (w : ℕ × List ℕ). P w.1) (λ (w : ℕ × List ℕ). not (bytes_eq label w.1)) (first_of_each words)))

told_no : (P : List ℕ → Bool) (n : ℕ) (label : List ℕ) (words : Words) → P label ≡ false → told P ((n, label) ∷ words) ≡ told P words
told_no P n label words e = grind (arith, common_steps, both, alike, bytes_eq-Decides, cases_Bool) steps 200000

module _ (view : BaseView) where
  -- the words are those of the entries, from word n on
  abbrev Aligned : ℕ → Words → List Resolved → Type 0
  Aligned n words [] = words ≡ []
  Aligned n words (answers.Assertion j ∷ labels) = (rest : Words) × (words ≡ (n, label_at view j) ∷ rest) × Aligned (n + 1) rest labels
  Aligned n words (answers.Hypothesis j ∷ labels) = (rest : Words) × (words ≡ (n, label_at view j) ∷ rest) × Aligned (n + 1) rest labels
  Aligned n words (_ ∷ labels) = Aligned (n + 1) words labels

  -- the test of labels is that of items
  abbrev Agrees : (List ℕ → Bool) → (ℕ → Bool) → List Resolved → Type 0
  Agrees P S [] = Unit {0}
  Agrees P S (answers.Assertion j ∷ labels) = (is_shown_at view j ≡ true) × (P (label_at view j) ≡ S j) × Agrees P S labels
  Agrees P S (answers.Hypothesis j ∷ labels) = (P (label_at view j) ≡ false) × Agrees P S labels
  Agrees P S (_ ∷ labels) = Agrees P S labels

  own_eq : NoLabelTwice view → (j k : ℕ) → is_shown_at view j ≡ true → is_shown_at view k ≡ true → bytes_eq (label_at view j) (label_at view k) ≡ nat_eq j k
  own_eq own j k s t = search (rules, bytes_eq-Decides (label_at view j) (label_at view k), nat_tests) steps 200000

  agrees_less : NoLabelTwice view → (P : List ℕ → Bool) (S : ℕ → Bool) (j : ℕ) (labels : List Resolved) → is_shown_at view j ≡ true → Agrees P S labels → Agrees (less P (label_at view j)) (without S j) labels
  agrees_less own P S j [] s a = tt
  agrees_less own P S j (answers.Assertion i ∷ labels) s a = (a.0, rw (a.1, own_eq own j i s a.0) refl, agrees_less own P S j labels s a.2)
  agrees_less own P S j (answers.Hypothesis i ∷ labels) s a = (rw a.0 refl, agrees_less own P S j labels s a.1)
  agrees_less own P S j (_ ∷ labels) s a = agrees_less own P S j labels s a

  -- the words of the entries
  told_items : NoLabelTwice view → (P : List ℕ → Bool) (S : ℕ → Bool) (n : ℕ) (words : Words) (labels : List Resolved) → Aligned n words labels → Agrees P S labels → told P words ≡ item_cites S n labels
  told_items own P S n words [] e a = ap (told P) e
  told_items own P S n words (answers.Assertion j ∷ labels) e a = elim (cases_Bool (S j)) [
    | inl f ↦ rw f (ap (told P) e.1 ∙ told_yes P n (label_at view j) e.0 (a.1 ∙ f) ∙ ap (◌∷◌ n) (told_items own (less P (label_at view j)) (without S j) (n + 1) e.0 labels e.2 (agrees_less own P S j labels a.0 a.2)))
    | inr f ↦ rw f (ap (told P) e.1 ∙ told_no P n (label_at view j) e.0 (a.1 ∙ f) ∙ told_items own P S (n + 1) e.0 labels e.2 a.2)
  ]
  told_items own P S n words (answers.Hypothesis j ∷ labels) e a = ap (told P) e.1 ∙ told_no P n (label_at view j) e.0 a.0 ∙ told_items own P S (n + 1) e.0 labels e.2 a.1
  told_items own P S n words (_ ∷ labels) e a = told_items own P S (n + 1) words labels e a

  first_is : (s t : Step) (ss ts : List Step) → s ∷ ss ≡ t ∷ ts → (s ≡ t) × (ss ≡ ts)
  first_is s t ss ts e = (cc, cc)

  aligned_label : (n : ℕ) (word : List ℕ) (words : Words) (label : Resolved) (labels : List Resolved) → entry_step view label ≡ Named word → Aligned (n + 1) words labels → Aligned n ((n, word) ∷ words) (label ∷ labels)
  aligned_label n word words (answers.Assertion j) labels f rest = let g : label_at view j ≡ word = cc in (words, ap (λ (w : List ℕ). (n, w) ∷ words) (sym g), rest)
  aligned_label n word words (answers.Hypothesis j) labels f rest = let g : label_at view j ≡ word = cc in (words, ap (λ (w : List ℕ). (n, w) ∷ words) (sym g), rest)
  aligned_label n word words _ labels f rest = cc

  -- the words of a list of labels
  aligned_list : (n : ℕ) (labels : List Resolved) (listed : List (List ℕ)) → entry_steps view labels ≡ map Named listed → Aligned n (enumerate_from n listed) labels
  aligned_list n [] [] e = refl
  aligned_list n (label ∷ labels) (word ∷ listed) e =
      let p = first_is (entry_step view label) (Named word) (entry_steps view labels) (map Named listed) e in
      aligned_label n word (enumerate_from (n + 1) listed) label labels p.0 (aligned_list (n + 1) labels listed p.1)
  aligned_list n _ _ e = cc

  -- the words of a normal proof
  abbrev known : ℕ → List (List ℕ) → Words
  known n words = filter (λ (w : ℕ × List ℕ). not (bytes_eq w.1 (codes "?"))) (enumerate_from n words)

  aligned_unknown : (n : ℕ) (words : Words) (label : Resolved) (labels : List Resolved) → entry_step view label ≡ NotKnown → Aligned (n + 1) words labels → Aligned n words (label ∷ labels)
  aligned_unknown n words answers.Inactive labels e rest = rest
  aligned_unknown n words answers.Unknown labels e rest = rest
  aligned_unknown n words _ labels e rest = cc

  aligned_words : (n : ℕ) (labels : List Resolved) (words : List (List ℕ)) → entry_steps view labels ≡ map word_step words → Aligned n (known n words) labels
  aligned_words n [] [] e = refl
  aligned_words n (label ∷ labels) (word ∷ words) e =
      let p = first_is (entry_step view label) (word_step word) (entry_steps view labels) (map word_step words) e in
      elim (cases_Bool (bytes_eq word (codes "?"))) [
        | inl f ↦ let g : entry_step view label ≡ NotKnown = rw f at p.0 in rw f (aligned_unknown n (known (n + 1) words) label labels g (aligned_words (n + 1) labels words p.1))
        | inr f ↦ let g : entry_step view label ≡ Named word = rw f at p.0 in rw f (aligned_label n word (known (n + 1) words) label labels g (aligned_words (n + 1) labels words p.1))
      ]
  aligned_words n _ _ e = cc

  eq_turned : (j k : ℕ) → nat_eq j k ≡ nat_eq k j
  eq_turned j k = grind (arith, nat_tests)

  -- an entry is of no assertion
  entry_none : (i j : ℕ) → IsEntry view i (answers.Hypothesis j) → means_assertion ((setting_at view i).resolve (label_at view j)) ≡ false
  entry_none i j h = rw h.1 refl

  entry_some : (i j : ℕ) → IsEntry view i (answers.Assertion j) → means_assertion ((setting_at view i).resolve (label_at view j)) ≡ true
  entry_some i j h = rw h.2 refl

  -- a step names the label of an assertion exactly when its entry is that assertion
  label_named :
      NoLabelTwice view → (i j : ℕ) (labels : List Resolved) (k : ℕ) → AreEntries view i labels → is_shown_at view j ≡ true →
      means_assertion ((setting_at view i).resolve (label_at view j)) ≡ true →
      names_assertion (label_at view j) (slice_index_or (entry_steps view labels) k NotKnown) ≡ is_item (cited_item (slice_get labels k)) j
  label_named own i j [] k all s a = refl
  label_named own i j (answers.Assertion m ∷ labels) zero all s a = own_eq own j m s all.0.0.carrier.shown ∙ eq_turned j m
  label_named own i j (answers.Hypothesis m ∷ labels) zero all s a = other_label (setting_at view i) (setting_at view i) (setting_at view i) (label_at view j) (label_at view m) a (entry_none i m all.0)
  label_named own i j (_ ∷ labels) zero all s a = refl
  label_named own i j (label ∷ labels) (suc k) all s a = label_named own i j labels k all.1 s a

  action_named :
      NoLabelTwice view → (i j : ℕ) (labels : List Resolved) (action : Action) → AreEntries view i labels → is_shown_at view j ≡ true →
      means_assertion ((setting_at view i).resolve (label_at view j)) ≡ true →
      names_assertion (label_at view j) (meant (entry_steps view labels) action) ≡ is_item (item_named labels action) j
  action_named own i j labels (actions.Label k) all s a = label_named own i j labels k all s a
  action_named own i j labels _ all s a = refl

  any_named :
      NoLabelTwice view → (i j : ℕ) (labels : List Resolved) (steps : List ProofStep) → AreEntries view i labels → is_shown_at view j ≡ true →
      means_assertion ((setting_at view i).resolve (label_at view j)) ≡ true →
      list_any (names_assertion (label_at view j)) (map (λ (step : ProofStep). meant (entry_steps view labels) step.action) steps) ≡ list_any (names_item labels j) steps
  any_named own i j labels [] all s a = refl
  any_named own i j labels (step ∷ steps) all s a = rw (action_named own i j labels step.action all s a, any_named own i j labels steps all s a) refl

  agree :
      NoLabelTwice view → (i : ℕ) (labels : List Resolved) (steps : List ProofStep) (entries : List Resolved) → AreEntries view i labels →
      AreEntries view i entries →
      Agrees (is_cited (setting_at view i) (map (λ (step : ProofStep). meant (entry_steps view labels) step.action) steps)) (λ j. list_any (names_item labels j) steps) entries
  agree own i labels steps [] all some = tt
  agree own i labels steps (answers.Assertion j ∷ entries) all some = (
    some.0.0.carrier.shown,
    rw (entry_some i j some.0)
        (any_named own i j labels steps all some.0.0.carrier.shown (entry_some i j some.0)),
    agree own i labels steps entries all some.1,
  )
  agree own i labels steps (answers.Hypothesis j ∷ entries) all some = (rw (entry_none i j some.0) refl, agree own i labels steps entries all some.1)
  agree own i labels steps (_ ∷ entries) all some = agree own i labels steps entries all some.1

  behind_steps : (numbers : List ℕ) (labels : List Resolved) (listed : List (List ℕ)) → entry_steps view labels ≡ map Named (labels_at view numbers ++ listed) → entry_steps view (drop (length numbers) labels) ≡ map Named listed
  behind_steps [] labels listed e = e
  behind_steps (j ∷ numbers) [] listed e = cc
  behind_steps (j ∷ numbers) (label ∷ labels) listed e = behind_steps numbers labels listed (first_is (entry_step view label) (Named (label_at view j)) (entry_steps view labels) (map Named (labels_at view numbers ++ listed)) e).1

  behind_entries : (i n : ℕ) (labels : List Resolved) → AreEntries view i labels → AreEntries view i (drop n labels)
  behind_entries i zero labels all = all
  behind_entries i (suc n) [] all = tt
  behind_entries i (suc n) (label ∷ labels) all = behind_entries i n labels all.1

  -- a compressed proof
  pub cites_compressed :
      NoLabelTwice view → (i : ℕ) (numbers : List ℕ) (words : List (List ℕ)) (labels : List Resolved) (steps : List ProofStep) → is_compressed words ≡ true →
      AreEntries view i labels → entry_steps view labels ≡ label_table (labels_at view numbers) words →
      item_cites (λ j. list_any (names_item labels j) steps) 1 (drop (length numbers) labels) ≡ cited_words (setting_at view i) words (map (λ (step : ProofStep). meant (entry_steps view labels) step.action) steps)
  cites_compressed own i numbers words labels steps is all table =
      let P = is_cited (setting_at view i) (map (λ (step : ProofStep). meant (entry_steps view labels) step.action) steps) in
      let listed = before_first is_close (drop 1 words) in
      let entries = behind_steps numbers labels listed (rw is at table) in
      let a = agree own i labels steps (drop (length numbers) labels) all (behind_entries i (length numbers) labels all) in
      rw is (sym (told_items own P (λ j. list_any (names_item labels j) steps) 1 (enumerate_from 1 listed) (drop (length numbers) labels) (aligned_list 1 (drop (length numbers) labels) listed entries) a))

  -- a normal proof
  pub cites_normal :
      NoLabelTwice view → (i : ℕ) (mandatory words : List (List ℕ)) (labels : List Resolved) (steps : List ProofStep) → is_compressed words ≡ false →
      AreEntries view i labels → entry_steps view labels ≡ label_table mandatory words →
      item_cites (λ j. list_any (names_item labels j) steps) 0 (drop 0 labels) ≡ cited_words (setting_at view i) words (map (λ (step : ProofStep). meant (entry_steps view labels) step.action) steps)
  cites_normal own i mandatory words labels steps is all table =
      let P = is_cited (setting_at view i) (map (λ (step : ProofStep). meant (entry_steps view labels) step.action) steps) in
      let a = agree own i labels steps labels all all in
      rw is (sym (told_items own P (λ j. list_any (names_item labels j) steps) 0 (known 0 words) labels (aligned_words 0 labels words (rw is at table)) a))
