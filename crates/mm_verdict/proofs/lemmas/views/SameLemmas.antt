-- Proofs that mean the same decode to the same.
use Rattle.std.proofs.Common.{rules, ◌==◌, arith, ◌≡◌, ℕ, zero, suc, ◌+◌, false, not, cond, Option, Some, None, Result, Ok, Err, List, [], ◌∷◌, ◌++◌, map, refl, inl, inr, ◌⊎◌, slice_get, filter}
use Rattle.std.{proofs.{Common.{bytes_eq, codes, length}, lemmas.{Grind.{common_steps}, Bool.{cases_Bool}}}, specs.{Option.{ok_or, option_map_or}, Result.{result_and}}}
use Rattle.std.specs.List.{AllZip, AllByRecursion, range_with_len, before_first}
use Rattle.mm_machine.specs.{declared.{ProofNumber.{ProofNumber, TheVariants.{P05, P06}}, Spot.{Spot}}, Language.Frame.{LabelMeaning, Hypothesis, Assertion, Inactive, Unknown, Setting, AreSamePairs}}
use Rattle.mm_machine.specs.Language.{Expansion.{Step, Named, Saved, NotKnown}, SameProof.{AreSameMeaning, IsSameStep, IsSameDecoding}}
use Rattle.mm_verdict.{proofs.lemmas.decoding.OrderLemmas.{decoded}, specs.Language.Letters.{Letter, Group}}
use Rattle.mm_verdict.specs.Language.Decoding.{Steps, read_first, in_order, usable, read_label, read_word, readings_of_words, nameable, without_digits, read_letter, readings_of_groups, is_close}
use Rattle.mm_verdict.specs.Language.{Decoding.{compressed_steps, steps_in, word_spot, decoding}, Citing.{means_assertion}, SameToDecode.{IsSameHypothesis, IsSameLabel, AreSameToDecode}}

module _ (p q : Setting) where
  -- the same label, or two that are of no assertion
  abbrev pub IsLike : Step → Step → Type 0
  IsLike (Named a) (Named b) = (a ≡ b) ⊎ ((means_assertion (p.resolve a) ≡ false) × (means_assertion (q.resolve b) ≡ false))
  IsLike _ _ = Unit {0}

  -- the same step, by a like label
  abbrev pub IsBoth : Step → Step → Type 0
  IsBoth s t = IsSameStep p q s t × IsLike s t

  abbrev pub AreSame : Steps → Steps → Type 0
  AreSame (Ok steps) (Ok others) = AllZip (λ s t. IsBoth s.0 t.0 × (s.1 ≡ t.1)) steps others
  AreSame (Err fault) (Err same) = fault ≡ same
  AreSame _ _ = ⊥

  abbrev IsSameResult : Result Step ProofNumber → Result Step ProofNumber → Type 0
  IsSameResult (Ok s) (Ok t) = IsBoth s t
  IsSameResult (Err n) (Err m) = n ≡ m
  IsSameResult _ _ = ⊥

  with_same : (spot : Spot) (s t : Step) (rest others : Steps) → IsBoth s t → AreSame rest others → AreSame (read_first spot (Ok s) rest) (read_first spot (Ok t) others)
  with_same spot s t (Ok rest) (Ok others) e all = ((e, refl), all)
  with_same spot s t (Err fault) (Err same) e all = all
  with_same spot s t _ _ e all = absurd all

  first_same : (spot : Spot) (r o : Result Step ProofNumber) (rest others : Steps) → IsSameResult r o → AreSame rest others → AreSame (read_first spot r rest) (read_first spot o others)
  first_same spot (Ok s) (Ok t) rest others e all = with_same spot s t rest others e all
  first_same spot (Err n) (Err m) rest others e all = λ i. record { number = e i; spot = spot }
  first_same spot _ _ rest others e all = absurd e

  usable_same : (a : List ℕ) (r o : LabelMeaning) → p.resolve a ≡ r → q.resolve a ≡ o → AreSameMeaning r o → IsSameResult (usable a r) (usable a o)
  usable_same a (Hypothesis e) (Hypothesis f) m n s = (rw (m, n) s, inl refl)
  usable_same a (Assertion e) (Assertion f) m n s = (rw (m, n) s, inl refl)
  usable_same a Inactive Inactive m n s = refl
  usable_same a Unknown Unknown m n s = refl
  usable_same a _ _ m n s = absurd s

  label_same : (label : List ℕ) → IsSameLabel p q label → IsSameResult (read_label p label) (read_label q label)
  label_same label s = usable_same label (p.resolve label) (q.resolve label) refl refl s

  list_same : (n : ℕ) (labels : List (List ℕ)) → AllByRecursion (IsSameLabel p q) labels → AreSame (in_order (readings_of_words (read_label p) n labels)) (in_order (readings_of_words (read_label q) n labels))
  list_same n [] all = tt
  list_same n (label ∷ labels) all = first_same (word_spot n) (read_label p label) (read_label q label) _ _ (label_same label all.0) (list_same (n + 1) labels all.1)

  words_same : (n : ℕ) (words : List (List ℕ)) → AllByRecursion (IsSameLabel p q) (filter (λ word. not (bytes_eq word (codes "?"))) words) →
      AreSame (in_order (readings_of_words (read_word p) n words)) (in_order (readings_of_words (read_word q) n words))
  words_same n [] all = tt
  words_same n (word ∷ words) all = elim (cases_Bool (bytes_eq word (codes "?"))) [
    | inl e ↦ rw e (with_same (word_spot n) NotKnown NotKnown _ _ (tt, tt) (words_same (n + 1) words (rw e at all)))
    | inr e ↦ let some = rw e at all in rw e (first_same (word_spot n) (read_label p word) (read_label q word) _ _ (label_same word some.0) (words_same (n + 1) words some.1))
  ]

  abbrev IsSameOption : Option Step → Option Step → Type 0
  IsSameOption (Some s) (Some t) = IsBoth s t
  IsSameOption None None = Unit {0}
  IsSameOption _ _ = ⊥

  saved_same : (from saves k : ℕ) → IsSameOption (slice_get (map Saved (range_with_len from saves)) k) (slice_get (map Saved (range_with_len from saves)) k)
  saved_same from zero k = tt
  saved_same from (suc saves) zero = (refl, tt)
  saved_same from (suc saves) (suc k) = saved_same (from + 1) saves k

  named_at : (labels others : List Step) (saves k : ℕ) → AllZip IsBoth labels others → IsSameOption (slice_get (nameable labels saves) k) (slice_get (nameable others saves) k)
  named_at [] [] saves k all = saved_same 0 saves k
  named_at (l ∷ labels) (o ∷ others) saves zero all = all.0
  named_at (l ∷ labels) (o ∷ others) saves (suc k) all = named_at labels others saves k all.1
  named_at _ _ saves k all = absurd all

  named_same : (s t : Option Step) → IsSameOption s t → IsSameResult (ok_or s P06) (ok_or t P06)
  named_same (Some s) (Some t) e = e
  named_same None None e = refl
  named_same _ _ e = absurd e

  alone_same : (digits : List Letter) (step : Step) → IsBoth step step → IsSameResult (without_digits digits step) (without_digits digits step)
  alone_same [] step e = e
  alone_same (d ∷ digits) step e = refl

  letter_same : (labels others : List Step) (saves : ℕ) (digits : List Letter) (byte : ℕ) → AllZip IsBoth labels others → IsSameResult (read_letter (nameable labels saves) digits byte) (read_letter (nameable others saves) digits byte)
  letter_same labels others saves digits byte all = grind (arith, common_steps, alone_same, named_at, named_same) steps 200000

  group_same : (labels others : List Step) (saves : ℕ) (digits : List Letter) (last : Option Letter) → AllZip IsBoth labels others →
      IsSameResult (option_map_or (λ (letter : Letter). read_letter (nameable labels saves) digits letter.byte) last (Err P05)) (option_map_or (λ (letter : Letter). read_letter (nameable others saves) digits letter.byte) last (Err P05))
  group_same labels others saves digits (Some letter) all = letter_same labels others saves digits letter.byte all
  group_same labels others saves digits None all = refl

  groups_same : (labels others : List Step) (close : Spot) (saves : ℕ) (gs : List Group) → AllZip IsBoth labels others → AreSame (in_order (readings_of_groups labels close saves gs)) (in_order (readings_of_groups others close saves gs))
  groups_same labels others close saves [] all = tt
  groups_same labels others close saves (g ∷ gs) all =
      search (rules, groups_same labels others close (cond (option_map_or (λ (letter : Letter). letter.byte == 90) g.last false) (saves + 1) saves) gs all, first_same, group_same)

  hypothesis_both : (a b : List ℕ) → IsSameHypothesis p q a b → IsBoth (Named a) (Named b)
  hypothesis_both a b h = (rw (h.1, h.2) refl, inr (rw h.1 refl, rw h.2 refl))

  named_all : (mandatory others listed : List (List ℕ)) → AllZip (IsSameHypothesis p q) mandatory others → AllByRecursion (IsSameLabel p q) listed → AllZip IsBoth (map Named (mandatory ++ listed)) (map Named (others ++ listed))
  named_all [] [] [] h all = tt
  named_all [] [] (label ∷ listed) h all = ((all.0, inl refl), named_all [] [] listed h all.1)
  named_all (m ∷ mandatory) (o ∷ others) listed h all = (hypothesis_both m o h.0, named_all mandatory others listed h.1 all)
  named_all _ _ listed h all = absurd h

  read_same : (list others some more : Steps) → AreSame list others → AreSame some more → AreSame (result_and list some) (result_and others more)
  read_same (Ok list) (Ok others) some more e all = all
  read_same (Err fault) (Err same) some more e all = e
  read_same _ _ some more e all = absurd e

  compressed_same : (mandatory others words : List (List ℕ)) (close : Spot) → AllZip (IsSameHypothesis p q) mandatory others
      → AllByRecursion (IsSameLabel p q) (before_first is_close words) → AreSame (compressed_steps p mandatory words close)
      (compressed_steps q others words close)
  compressed_same mandatory others words close h all = grind (arith, common_steps, groups_same, list_same, named_all, read_same) steps 200000

  pub steps_same : (mandatory others words : List (List ℕ)) (close : Spot) → AreSameToDecode p q mandatory others words → AreSame (steps_in p mandatory words close) (steps_in q others words close)
  steps_same mandatory others words close s = grind (arith, common_steps, compressed_same, words_same) steps 200000

  only_steps : (steps others : List (Step × Spot)) → AllZip (λ s t. IsBoth s.0 t.0 × (s.1 ≡ t.1)) steps others → AllZip (IsSameStep p q) (map (λ (s : Step × Spot). s.0) steps) (map (λ (s : Step × Spot). s.0) others)
  only_steps [] [] all = tt
  only_steps (s ∷ steps) (o ∷ others) all = (all.0.0.0, only_steps steps others all.1)
  only_steps _ _ all = absurd all

  only_spots : (steps others : List (Step × Spot)) → AllZip (λ s t. IsBoth s.0 t.0 × (s.1 ≡ t.1)) steps others → map (λ (s : Step × Spot). s.1) steps ≡ map (λ (s : Step × Spot). s.1) others
  only_spots [] [] all = refl
  only_spots (s ∷ steps) (o ∷ others) all = rw (all.0.1, only_spots steps others all.1) refl
  only_spots _ _ all = absurd all

  decoded_same : (close : Spot) (s t : Steps) → AreSamePairs p.active q.active → AreSame s t → IsSameDecoding p q (decoded close s) (decoded close t)
  decoded_same close (Ok steps) (Ok others) a all = record { active = a; steps = only_steps steps others all; spots = only_spots steps others all; close = refl }
  decoded_same close (Err fault) (Err same) a all = all
  decoded_same close _ _ a all = absurd all

  pub decodes_same : (mandatory others words : List (List ℕ)) → AreSameToDecode p q mandatory others words → IsSameDecoding p q (decoding p mandatory words) (decoding q others words)
  decodes_same mandatory others words s =
      let close = word_spot (length words) in
      decoded_same close (steps_in p mandatory words close) (steps_in q others words close) s.active (steps_same mandatory others words close s)
