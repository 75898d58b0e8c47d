-- The laws of readings.
use Rattle.std.proofs.{Common.{[], arith, ◌≡◌, ◌⊎◌, ℕ, List, ◌++◌, append-nil, sym, ◌∙◌, subst, inl, inr}, lemmas.Grind.{common_steps}}
use Rattle.mm_script.specs.Language.Script.{Done, CutShort, command_bytes, entries_bytes, IsCutShort, IsLongestReading, LacksFeed}
use Rattle.mm_script.specs.Language.ReadingLaws.{CommandsLeaveNothing, OneReading, OneEnd, ReadingGoesOn, OneReadSoFar}
use Rattle.mm_script.proofs.{ScriptLemmas.{blank_no, goes_on, one_reading, one_so_far, reading_unended}, JoinLemmas.{reading_done}}

pub readings : OneReading
readings = one_reading

-- nothing is not cut short
not_cut : ¬ IsCutShort []
not_cut cut = blank_no cut.command cut.missing [] cut.good (cut.is ∙ sym (append-nil (command_bytes cut.command)))

pub ends : OneEnd
ends rest Done CutShort f g = absurd (not_cut (subst IsCutShort f g))
ends rest CutShort Done f g = absurd (not_cut (subst IsCutShort g f))
ends rest a b f g = grind (arith, common_steps) steps 200000

pub so_far : OneReadSoFar
so_far = one_so_far

pub later : ReadingGoesOn
later bytes more entries all rest left r q = let w = goes_on bytes more entries all rest left r q in (w.0, sym w.1)

pub done : CommandsLeaveNothing
done script entries d = by d.joined
  where
    by : (script ≡ entries_bytes entries ++ []) ⊎ (LacksFeed script entries × (◌≡◌ {A = List ℕ} [] [])) → IsLongestReading script entries []
    by (inl e) = reading_done script entries (record { good = d.good; joined = e })
    by (inr l) = reading_unended script entries d.good l.0
