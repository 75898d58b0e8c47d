-- The list of labels as the code reads it.
use Rattle.std.proofs.lemmas.{Grind.{elements, common_steps}, List.{append-nil, map-append, drop_more}, Simd.{map-map}}
use Rattle.std.proofs.Common.{arith, ◌≡◌, ℕ, ◌+◌, ◌<◌, ◌≤◌, true, false, Ok, Err, List, [], ◌∷◌, ◌++◌, length, map, drop, get_or, refl, sym, ap, ◌∙◌, subst, append_assoc}
use Rattle.std.{proofs.Math.ListN.{drop_of_length-le}, specs.List.{before_first}}
use Rattle.mm_machine.specs.{Language.Expansion.{Step, Named}, declared.{step.ProofStep.{ProofStep}, ProofNumber.TheVariants.{P03}}}
use Rattle.mm_frame.specs.{Language.Base.{BaseView}, declared.base.Resolved.{Resolved}}
use Rattle.mm_verdict.specs.Language.{BaseLabels.{label_at, setting_at, AreActive}, Decoding.{read_label, is_close, compressed_steps, word_spot}}
use Rattle.mm_verdict.specs.{Language.DecodedSteps.{labels_at, entry_step, entry_steps, IsEntry, AreEntries}, Code.Coded.{TellsSteps, meant_steps, letters_give}}
use Rattle.mm_verdict.specs.{Code.{Labels.{Lists, IsListed, TellsWord, BeginsTable}, Left.{AreLeft}, LeftToRight.{list_on}}, declared.undecoded.Undecoded.{Undecoded}}
use Rattle.mm_verdict.proofs.lemmas.{decoding.{ListLemmas.{list_is, word_is, none_more}, ReadOnLemmas.{before_close}, SureLemmas.{usable_is}}, lists.Every.{joined, mapped}}
use Rattle.mm_frame.specs.declared.base.Resolved.TheVariants as answers
use Rattle.mm_verdict.specs.declared.undecoded.Undecoded.TheVariants as errors

-- before the first label
pub starts : (view : BaseView) (i : ℕ) (mandatory words : List (List ℕ)) (labels : List Resolved) → entry_steps view labels ≡ map Named mandatory → AreEntries view i labels → Lists view i mandatory words 1 labels
starts view i mandatory words labels e all = grind (arith, common_steps, append-nil mandatory, list_is (setting_at view i) mandatory (word_spot (length words)) (drop 1 words)) steps 200000

module _ (view : BaseView) (i : ℕ) (mandatory words : List (List ℕ)) (n : ℕ) (labels : List Resolved) (lists : Lists view i mandatory words n labels) where
  -- the words after the first, by the one at n
  by_next : (word : List ℕ) → n < length words → word ≡ get_or words n [] → drop 1 words ≡ lists.listed ++ word ∷ drop (n + 1) words
  by_next word less is = grind (arith, elements, drop_more words n [] less) steps 200000

  -- what the words from there on give, by the first of them
  by_word : (word : List ℕ) → n < length words → word ≡ get_or words n [] → compressed_steps (setting_at view i) mandatory (drop 1 words)
      (word_spot (length words)) ≡ list_on (setting_at view i) mandatory (word_spot (length words)) lists.listed n (word ∷ drop (n + 1) words)
  by_word word less is = grind (arith, elements, drop_more words n [] less) steps 200000

  -- at the `)`
  pub ends : (word : List ℕ) → n < length words → word ≡ get_or words n [] → is_close word ≡ true → IsListed view i mandatory words n labels
  ends word less is close =
      grind (arith, common_steps, before_close lists.listed (drop (n + 1) words) lists.open_yet, by_next word less is, by_word word less is, word_is word close) steps 200000

  -- at a label that can be used
  pub goes_on : (word : List ℕ) (meaning : Resolved) → n < length words → word ≡ get_or words n [] → is_close word ≡ false
      → read_label (setting_at view i) word ≡ Ok (entry_step view meaning) → IsEntry view i meaning → Lists view i mandatory words (n + 1)
      (labels ++ meaning ∷ [])
  goes_on word meaning less is other read entry =
      let named = (usable_is word ((setting_at view i).resolve word) (entry_step view meaning) read).0 in
      record {
        listed = lists.listed ++ word ∷ [];
        labels_are = map-append (entry_step view) labels (meaning ∷ []) ∙ rw (lists.labels_are, named, ← append_assoc) (sym (map-append Named (mandatory ++ lists.listed) (word ∷ [])));
        entries = joined (IsEntry view i) labels (meaning ∷ []) lists.entries (entry, tt);
        before = by_next word less is ∙ sym (append_assoc lists.listed (word ∷ []) (drop (n + 1) words));
        open_yet = none_more lists.listed word lists.open_yet other;
        rest = by_word word less is ∙ rw (other, read) refl;
      }

  -- at a label that cannot be used
  pub fails : (word : List ℕ) (e : Undecoded) → n < length words → word ≡ get_or words n [] → is_close word ≡ false
      → TellsWord e n (read_label (setting_at view i) word) → TellsSteps e (compressed_steps (setting_at view i) mandatory (drop 1 words)
      (word_spot (length words)))
  fails word (errors.Fault fault) less is other tells = by_word word less is ∙ rw (other, tells.0, tells.1) refl
  fails word errors.Memory less is other tells = tt

  -- at the end
  pub stops : length words ≤ n → compressed_steps (setting_at view i) mandatory (drop 1 words) (word_spot (length words)) ≡ Err (record { number = P03; spot = word_spot (length words) })
  stops past = lists.rest ∙ ap (list_on (setting_at view i) mandatory (word_spot (length words)) lists.listed n) (drop_of_length-le words past)

-- the mandatory hypotheses as entries
pub hypothesis_steps : (view : BaseView) (numbers : List ℕ) → entry_steps view (map answers.Hypothesis numbers) ≡ map Named (labels_at view numbers)
hypothesis_steps view numbers = map-map (entry_step view) answers.Hypothesis numbers ∙ sym (map-map Named (label_at view) numbers)

-- after the `(`, with the mandatory hypotheses as entries
pub list_begins : (view : BaseView) (i : ℕ) (numbers : List ℕ) (words behind : List (List ℕ)) (labels : List Resolved)
    → labels ≡ map answers.Hypothesis numbers → AreActive view i numbers → AreLeft words behind 1 → BeginsTable view i (labels_at view numbers) words behind
    labels
list_begins view i numbers words behind labels e active left = grind (arith, common_steps, hypothesis_steps, mapped) steps 200000

-- the letters after the list
pub compressed_ok :
    (view : BaseView) (i : ℕ) (mandatory words : List (List ℕ)) (n : ℕ) (labels : List Resolved) (steps : List ProofStep) →
    IsListed view i mandatory words n labels → letters_give (entry_steps view labels) words (n + 1) ≡ Ok (meant_steps (entry_steps view labels) steps) →
    compressed_steps (setting_at view i) mandatory (drop 1 words) (word_spot (length words)) ≡ Ok (meant_steps (entry_steps view labels) steps)
compressed_ok view i mandatory words n labels steps listed e = listed.rest ∙ ap (λ (names : List Step). letters_give names words (n + 1)) (sym listed.labels_are) ∙ e

pub compressed_err :
    (view : BaseView) (i : ℕ) (mandatory words : List (List ℕ)) (n : ℕ) (labels : List Resolved) (e : Undecoded) → IsListed view i mandatory words n labels →
    TellsSteps e (letters_give (entry_steps view labels) words (n + 1)) →
    TellsSteps e (compressed_steps (setting_at view i) mandatory (drop 1 words) (word_spot (length words)))
compressed_err view i mandatory words n labels e listed tells = subst (TellsSteps e) (sym (listed.rest ∙ ap (λ (names : List Step). letters_give names words (n + 1)) (sym listed.labels_are))) tells

-- the table of a compressed proof
pub compressed_table : (view : BaseView) (i : ℕ) (mandatory words : List (List ℕ)) (n : ℕ) (labels : List Resolved) → IsListed view i mandatory words n labels → entry_steps view labels ≡ map Named (mandatory ++ before_first is_close (drop 1 words))
compressed_table view i mandatory words n labels listed = listed.labels_are ∙ ap (λ (w : List (List ℕ)). map Named (mandatory ++ w)) (sym listed.whole)
