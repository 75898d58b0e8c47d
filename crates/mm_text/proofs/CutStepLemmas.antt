-- What the steps of `cut` do to what its loop keeps.
use Rattle.std.proofs.{Common.{[], ◌≡◌, ℕ, ◌+◌, ◌-◌, ◌≤◌, Bool, List, ◌∷◌, ◌++◌, length, take, drop, None, Ok, Err, sym, ap, ◌∙◌, subst, arith, slice_range}, lemmas.Grind.{common_steps}}
use Rattle.std.{proofs.lemmas.List.{take_rest}, specs.List.{prefix_len}}
use Rattle.mm_text.specs.{declared.{grammar.Grammar.{Grammar}, word.Word.{Word}, fault.{TextError.{TextError}, TextNumber.{TextNumber, TheVariants.{T07, T08}}}}, Language.Run.{is_white}}
use Rattle.mm_text.specs.Language.{Reading.{AreWords, LiesIn, first_bad}, Unit.{token_of}, Cut.{ended, IsCut, IsFirstFaultAt, IsCutError}}
use Rattle.mm_text.specs.Code.{Grammar.{phase_of, first_behind, blocks_behind, TakesUnit, GrammarTakes, EndsWith}, Reader.{runs_at, TakesWord}}
use Rattle.mm_text.proofs.CutLemmas.{Progress, word_lies, units_fault, unit_end, block_end, cut_end, progress_more, progress_piece}
use Rattle.mm_text.specs.declared.fault.TextError.TheVariants as errors
use Rattle.mm_text.specs.Code.UnitReading as m

step_refused : (step : m.UnitStep) (number : TextNumber) → phase_of step ≡ Err number → step ≡ Err number
step_refused step number e = grind (arith, common_steps) steps 200000

-- what is kept with a grammar
abbrev pub Keeps : List ℕ → List (List ℕ) → ℕ → ℕ → Grammar → Type 0
Keeps text pieces from at g = Progress text pieces from at g.phase g.first g.blocks.items

module _ (text : List ℕ) (pieces : List (List ℕ)) (from at : ℕ) (g : Grammar) (h : Keeps text pieces from at g) where
  -- the fault of units that end
  pub ends_fault : (number : TextNumber) (place : ℕ) → first_bad text ≡ None → AreWords (runs_at text at) [] → EndsWith g number place → IsFirstFaultAt text number place
  ends_fault T07 place allowed none e = subst (λ (n : ℕ). IsFirstFaultAt text T07 n) (sym e.1) (unit_end text pieces from at g.phase g.first g.blocks.items h allowed none e.0)
  ends_fault T08 place allowed none e = block_end text pieces from at g.phase g.first g.blocks.items h e.1 place allowed none e.0 e.2
  ends_fault _ place allowed none e = absurd e

  pub ends_cut : first_bad text ≡ None → AreWords (runs_at text at) [] → (g.phase ≡ m.Begin) × (g.blocks.items ≡ []) → IsCut text pieces (ended (drop from text))
  ends_cut allowed none whole = cut_end text pieces from at g.phase g.first g.blocks.items h allowed none whole.0 whole.1

  module _ (word : Word) (to : ℕ) (taken : TakesWord text at word to) where
    pub lies : (from ≤ word.start) × LiesIn text word
    lies = word_lies text pieces from at g.phase g.first g.blocks.items h word to taken

    pub from_before : (white : ℕ) → from ≤ word.end + white
    from_before white = let place = lies in omega (arith, place.0, taken.some)

    module _ (could : Bool) (new : Grammar) (label : could ≡ m.could_label (token_of text word)) where
      told : phase_of (m.next g.phase (length g.blocks.items) word.kind could) ≡ phase_of (m.next g.phase (length g.blocks.items) word.kind (m.could_label (token_of text word)))
      told = ap (λ (b : Bool). phase_of (m.next g.phase (length g.blocks.items) word.kind b)) label

      pub refused : (e : TextError) → first_bad text ≡ None → GrammarTakes g word could (Err e) new → IsCutError text e
      refused errors.Memory allowed fails = tt
      refused (errors.Fault fault) allowed fails =
          subst (λ (n : ℕ). IsFirstFaultAt text fault.number n) (sym fails.at) (units_fault text pieces from at g.phase g.first g.blocks.items h word to taken fault.number allowed
          (step_refused (m.next g.phase (length g.blocks.items) word.kind (m.could_label (token_of text word))) fault.number (sym told ∙ fails.number)))

      module _ (takes : TakesUnit g word could new) where
        step : (depth : ℕ) × (m.next g.phase (length g.blocks.items) word.kind (m.could_label (token_of text word)) ≡ Ok (m.phase_state new.phase depth))
        step = grind (arith, common_steps) steps 200000

        kept : (pieces : List (List ℕ)) (from : ℕ) → Progress text pieces from to new.phase (first_behind g.phase g.first word.start) (blocks_behind word.kind g.blocks.items word.start) → Keeps text pieces from to new
        kept pieces from p = grind (arith, common_steps) steps 200000

        -- a word inside a unit
        pub keeps_more : ¬ ((new.phase ≡ m.Begin) × (new.blocks.items ≡ [])) → Keeps text pieces from to new
        keeps_more on = kept pieces from (progress_more text pieces from at g.phase g.first g.blocks.items h word to taken new.phase step.0 step.1 (λ whole. on (whole.0, takes.blocks ∙ whole.1)))

        -- a word that ends a unit
        pub keeps_piece : first_bad text ≡ None → to ≤ length text → (new.phase ≡ m.Begin) × (new.blocks.items ≡ []) → (white : ℕ) → white ≡ prefix_len is_white (take (length text - word.end) (drop word.end text))
            → (all : List (List ℕ)) → all ≡ pieces ++ ended (slice_range text from (word.end + white)) ∷ [] → Keeps text all (word.end + white) to new
        keeps_piece allowed most whole white is all joined =
            subst (λ (ps : List (List ℕ)). Keeps text ps (word.end + white) to new) (sym joined)
            (subst (λ (n : ℕ). Keeps text (pieces ++ ended (slice_range text from n) ∷ []) n to new)
            (grind (arith, common_steps, take_rest text word.end) steps 200000)
            (kept (pieces ++ ended (slice_range text from (to + prefix_len is_white (drop to text))) ∷ []) (to + prefix_len is_white (drop to text))
            (progress_piece text pieces from at g.phase g.first g.blocks.items h word to taken new.phase step.0 step.1 allowed most whole.0
            (sym takes.blocks ∙ whole.1))))
