-- A normal proof as the code reads it.
use Rattle.std.proofs.Common.{rules, ◌≡◌, ℕ, ◌+◌, ◌<◌, ◌≤◌, Result, Ok, List, [], ◌∷◌, ◌++◌, length, map, drop, get_or, refl, sym, ap, ◌∙◌, append_assoc, arith, bytes_eq, codes}
use Rattle.std.proofs.{lemmas.{Grind.{common_steps}, List.{append-nil, map-append, length-append, length-map, map_more, take_all, drop_more}, Bool.{cases_Bool}}, Math.ListN.{drop_of_length-le}}
use Rattle.mm_machine.specs.{Language.{Frame.{Setting}, Expansion.{Step}, NamedSteps.{meant}}, declared.{Spot.{Spot}, ProofNumber.{ProofNumber}, step.{Action.{Action}, ProofStep.{ProofStep}}}}
use Rattle.mm_frame.specs.{Language.Base.{BaseView}, declared.base.Resolved.{Resolved}}
use Rattle.mm_verdict.specs.Language.{BaseLabels.{setting_at}, DecodedSteps.{entry_step, entry_steps, IsEntry, word_step}, Decoding.{read_first, in_order, readings_of_words, read_word, word_spot}}
use Rattle.mm_verdict.specs.{Code.{Coded.{TellsSteps, meant_steps}, Labels.{TellsWord, Normal}, LeftToRight.{with_steps}}, declared.undecoded.Undecoded.{Undecoded}}
use Rattle.mm_verdict.proofs.lemmas.{decoding.{SureLemmas.{usable_is}, ReaderLemmas.{with_one, meant_more}}, lists.Every.{joined}}
use Rattle.mm_verdict.specs.declared.undecoded.Undecoded.TheVariants as errors

count_more : (labels : List Resolved) (n : ℕ) (meaning : Resolved) → length labels ≡ n → length (labels ++ meaning ∷ []) ≡ n + 1
count_more labels n meaning e = omega (arith, length-append labels (meaning ∷ []))

is_word : (place : Setting) (word : List ℕ) (step : Step) → read_word place word ≡ Ok step → word_step word ≡ step
is_word place word step e = grind (arith, common_steps, cases_Bool (bytes_eq word (codes "?")), place.resolve word, usable_is) steps 200000

names_more : (view : BaseView) (labels : List Resolved) (meaning : Resolved) (more : List Step) → entry_steps view (labels ++ meaning ∷ []) ++ more ≡ entry_steps view labels ++ entry_step view meaning ∷ more
names_more view labels meaning more = ap (λ (w : List Step). w ++ more) (map-append (entry_step view) labels (meaning ∷ [])) ∙ append_assoc (entry_steps view labels) (entry_step view meaning ∷ []) more

module _ (view : BaseView) (i : ℕ) (words : List (List ℕ)) (n : ℕ) (labels : List Resolved) (steps : List ProofStep) (normal : Normal view i words n labels steps) where
  -- what the words from there on give, by the first of them
  by_word :
      (word : List ℕ) (more : List Step) → n < length words → word ≡ get_or words n [] →
      with_steps (meant_steps (entry_steps view labels ++ more) steps) (read_first (word_spot n) (read_word (setting_at view i) word)
      (in_order (readings_of_words (read_word (setting_at view i)) (n + 1) (drop (n + 1) words)))) ≡ in_order (readings_of_words (read_word (setting_at view i)) 0 words)
  by_word word more less is = search (rules, drop_more words n [] less)

  -- one more word
  pub word_on :
      (word : List ℕ) (meaning : Resolved) (action : Action) → n < length words → word ≡ get_or words n [] →
      read_word (setting_at view i) word ≡ Ok (entry_step view meaning) →
      ((before after : List Step) → length before ≡ n → meant (before ++ entry_step view meaning ∷ after) action ≡ entry_step view meaning) →
      IsEntry view i meaning → Normal view i words (n + 1) (labels ++ meaning ∷ []) (steps ++ record { action = action; spot = word_spot n } ∷ [])
  word_on word meaning action less is read acts entry = record {
    count = count_more labels n meaning normal.count;
    entries = joined (IsEntry view i) labels (meaning ∷ []) normal.entries (entry, tt);
    table = map-append (entry_step view) labels (meaning ∷ []) ∙ rw (normal.table, ← is_word (setting_at view i) word (entry_step view meaning) read, is) (sym (map_more word_step words n [] less));
    rest = λ more.
        let names = entry_steps view labels ++ entry_step view meaning ∷ more in
        let behind = in_order (readings_of_words (read_word (setting_at view i)) (n + 1) (drop (n + 1) words)) in
        let said : meant names action ≡ entry_step view meaning = acts (entry_steps view labels) more (length-map labels (entry_step view) ∙ normal.count) in
        ap (λ (w : List Step). with_steps (meant_steps w (steps ++ record { action = action; spot = word_spot n } ∷ [])) behind) (names_more view labels meaning more)
        ∙ ap (λ (w : List (Step × Spot)). with_steps w behind) (meant_more names steps action (word_spot n))
        ∙ ap (λ (w : Step). with_steps (meant_steps names steps ++ (w, word_spot n) ∷ []) behind) said
        ∙ with_one (meant_steps names steps) (entry_step view meaning) (word_spot n) behind
        ∙ ap (λ (w : Result Step ProofNumber). with_steps (meant_steps names steps) (read_first (word_spot n) w behind)) (sym read)
        ∙ by_word word (entry_step view meaning ∷ more) less is;
  }

  -- a word that is a fault
  pub word_fails : (word : List ℕ) (e : Undecoded) → n < length words → word ≡ get_or words n [] → TellsWord e n (read_word (setting_at view i) word) → TellsSteps e (in_order (readings_of_words (read_word (setting_at view i)) 0 words))
  word_fails word (errors.Fault fault) less is tells = sym (by_word word [] less is) ∙ rw (tells.0, tells.1) refl
  word_fails word errors.Memory less is tells = tt

  -- the table at the end
  pub table_is : length words ≤ n → entry_steps view labels ≡ map word_step words
  table_is past = normal.table ∙ ap (map word_step) (take_all n words past)

  -- at the end
  pub finishes : length words ≤ n → in_order (readings_of_words (read_word (setting_at view i)) 0 words) ≡ Ok (meant_steps (entry_steps view labels) steps)
  finishes past =
      sym (normal.rest [])
      ∙ ap (λ (w : List (List ℕ)). with_steps (meant_steps (entry_steps view labels ++ []) steps) (in_order (readings_of_words (read_word (setting_at view i)) n w))) (drop_of_length-le words past)
      ∙ ap (λ (w : List Step). Ok (meant_steps w steps ++ [])) (append-nil (entry_steps view labels))
      ∙ ap Ok (append-nil (meant_steps (entry_steps view labels) steps))
