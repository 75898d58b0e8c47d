-- Proofs that mean the same cite by the same words.
use Rattle.std.proofs.lemmas.{Grind.{common_steps}, Bool.{cases_Bool, false≢true}, Slice.Eq.{bytes_eq-Decides}}
use Rattle.std.proofs.Common.{arith, ◌≡◌, ℕ, ◌+◌, Bool, true, false, not, Ok, Err, List, [], ◌∷◌, length, map, drop, refl, ap, inl, inr, filter, bytes_eq, codes}
use Rattle.std.specs.List.{AllZip, AllByRecursion, list_any, enumerate_from, before_first}
use Rattle.mm_verdict.proofs.lemmas.{decoding.OrderLemmas.{decoded}, views.SameLemmas.{IsBoth, AreSame, steps_same}, lists.Every.{kept_all}}
use Rattle.mm_verdict.specs.Language.{Citing.{label_words, first_of_each, means_assertion, names_assertion, is_cited, cites}, Decoding.{Steps, is_close, is_compressed, word_spot, steps_in, decoding}}
use Rattle.mm_verdict.specs.Language.SameToDecode.{IsSameLabel, labels_named, AreSameToDecode}
use Rattle.mm_machine.specs.Language.{Frame.{LabelMeaning, Hypothesis, Assertion, Inactive, Unknown, Setting}, Expansion.{Step, Named, Saved, Save, NotKnown}, SameProof.{AreSameMeaning}}
use Rattle.mm_machine.specs.declared.Spot.{Spot}

-- the same test keeps the same elements
filter_same : {X : Type 0} (f g : X → Bool) (xs : List X) → AllByRecursion (λ x. f x ≡ g x) xs → filter f xs ≡ filter g xs
filter_same f g [] all = refl
filter_same f g (x ∷ xs) all = rw (all.0, filter_same f g xs all.1) refl

pub firsts_all : (P : ℕ × List ℕ → Type 0) (words : List (ℕ × List ℕ)) → AllByRecursion P words → AllByRecursion P (first_of_each words)
firsts_all P [] all = tt
firsts_all P (word ∷ words) all = (all.0, kept_all P (λ other. not (bytes_eq word.1 other.1)) (first_of_each words) (firsts_all P words all.1))

numbered_all : (P : List ℕ → Type 0) (n : ℕ) (words : List (List ℕ)) → AllByRecursion P words → AllByRecursion (λ (w : ℕ × List ℕ). P w.1) (enumerate_from n words)
numbered_all P n [] all = tt
numbered_all P n (word ∷ words) all = (all.0, numbered_all P (n + 1) words all.1)

labels_all : (P : List ℕ → Type 0) (f : List ℕ → Bool) (n : ℕ) (words : List (List ℕ)) → AllByRecursion P (filter f words) → AllByRecursion (λ (w : ℕ × List ℕ). P w.1) (filter (λ w. f w.1) (enumerate_from n words))
labels_all P f n [] all = tt
labels_all P f n (word ∷ words) all = elim (cases_Bool (f word)) [
  | inl e ↦ let some = rw e at all in rw e (some.0, labels_all P f (n + 1) words some.1)
  | inr e ↦ rw e (labels_all P f (n + 1) words (rw e at all))
]

words_all : (P : List ℕ → Type 0) (words : List (List ℕ)) → AllByRecursion P (labels_named words) → AllByRecursion (λ (w : ℕ × List ℕ). P w.1) (label_words words)
words_all P words all = elim (cases_Bool (is_compressed words)) [
  | inl e ↦ rw e (numbered_all P 1 (before_first is_close (drop 1 words)) (rw e at all))
  | inr e ↦ rw e (labels_all P (λ word. not (bytes_eq word (codes "?"))) 0 words (rw e at all))
]

module _ (p q : Setting) where
  assertion_same : (r o : LabelMeaning) → AreSameMeaning r o → means_assertion r ≡ means_assertion o
  assertion_same (Hypothesis e) (Hypothesis f) s = refl
  assertion_same (Assertion e) (Assertion f) s = refl
  assertion_same Inactive Inactive s = refl
  assertion_same Unknown Unknown s = refl
  assertion_same _ _ s = absurd s

  -- a label of no assertion is not this one, which is of one
  pub other_label : (place : Setting) (label a : List ℕ) → means_assertion (place.resolve label) ≡ true → means_assertion (place.resolve a) ≡ false → bytes_eq label a ≡ false
  other_label place label a is other = grind (arith, common_steps, bytes_eq-Decides, false≢true) steps 200000

  name_same : (label : List ℕ) (s t : Step) → means_assertion (p.resolve label) ≡ true → means_assertion (q.resolve label) ≡ true → IsBoth p q s t → names_assertion label s ≡ names_assertion label t
  name_same label (Named a) (Named b) f g both = grind (arith, common_steps, other_label) steps 200000
  name_same label (Saved n) (Saved m) f g both = refl
  name_same label Save Save f g both = refl
  name_same label NotKnown NotKnown f g both = refl
  name_same label _ _ f g both = absurd both.0

  any_same :
      (label : List ℕ) (steps others : List (Step × Spot)) → means_assertion (p.resolve label) ≡ true → means_assertion (q.resolve label) ≡ true →
      AllZip (λ s t. IsBoth p q s.0 t.0 × (s.1 ≡ t.1)) steps others →
      list_any (names_assertion label) (map (λ (s : Step × Spot). s.0) steps) ≡ list_any (names_assertion label) (map (λ (s : Step × Spot). s.0) others)
  any_same label [] [] f g all = refl
  any_same label (s ∷ steps) (t ∷ others) f g all = rw (name_same label s.0 t.0 f g all.0.0, any_same label steps others f g all.1) refl
  any_same label _ _ f g all = absurd all

  cited_same : (label : List ℕ) (steps others : List (Step × Spot)) → AllZip (λ s t. IsBoth p q s.0 t.0 × (s.1 ≡ t.1)) steps others → IsSameLabel p q label
      → is_cited p (map (λ (s : Step × Spot). s.0) steps) label ≡ is_cited q (map (λ (s : Step × Spot). s.0) others) label
  cited_same label steps others all s = grind (arith, common_steps, any_same, assertion_same) steps 200000

  each_same :
      (words : List (ℕ × List ℕ)) (steps others : List (Step × Spot)) → AllZip (λ s t. IsBoth p q s.0 t.0 × (s.1 ≡ t.1)) steps others →
      AllByRecursion (λ (w : ℕ × List ℕ). IsSameLabel p q w.1) words →
      AllByRecursion (λ (w : ℕ × List ℕ). is_cited p (map (λ (s : Step × Spot). s.0) steps) w.1 ≡ is_cited q (map (λ (s : Step × Spot). s.0) others) w.1) words
  each_same [] steps others all s = tt
  each_same (word ∷ words) steps others all s = (cited_same word.1 steps others all s.0, each_same words steps others all s.1)

  cites_on : (words : List (List ℕ)) (close : Spot) (s t : Steps) → AreSame p q s t → AllByRecursion (λ (w : ℕ × List ℕ). IsSameLabel p q w.1) (label_words words) → cites p words (decoded close s) ≡ cites q words (decoded close t)
  cites_on words close (Ok steps) (Ok others) all s = ap (map (λ (w : ℕ × List ℕ). w.0)) (filter_same _ _ (first_of_each (label_words words))
      (each_same (first_of_each (label_words words)) steps others all (firsts_all (λ w. IsSameLabel p q w.1) (label_words words) s)))
  cites_on words close (Err fault) (Err same) all s = refl
  cites_on words close _ _ all s = absurd all

  pub cites_same : (mandatory others words : List (List ℕ)) → AreSameToDecode p q mandatory others words → cites p words (decoding p mandatory words) ≡ cites q words (decoding q others words)
  cites_same mandatory others words s =
      let close = word_spot (length words) in
      cites_on words close (steps_in p mandatory words close) (steps_in q others words close) (steps_same p q mandatory others words close s) (words_all (IsSameLabel p q) words s.labels)
