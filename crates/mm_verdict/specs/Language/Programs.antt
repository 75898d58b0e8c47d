-- A proof as the machine runs it: what its labels name, and its steps, with numbers in place of the names of symbols.
use Rattle.std.specs.Prelude.{◌≡◌, ℕ, Ok, List}
use Rattle.mm_frame.specs.Language.Base.{BaseView}
use Rattle.mm_machine.specs.Language.Expansion.{Step}
use Rattle.mm_machine.specs.Language.NamedSteps.{AreUses, actions_mean}
use Rattle.mm_machine.specs.Language.NumberedSymbols.{by_code, by_number}
use Rattle.mm_machine.specs.Language.Numbering.{unnaming}
use Rattle.mm_machine.specs.Language.Renaming.{renamed_setting}
use Rattle.mm_machine.specs.Language.Verdict.{Decoded}
use Rattle.mm_verdict.specs.Language.BaseLabels.{setting_at}
use Rattle.mm_verdict.specs.Language.VerdictAt.{decoding_at}
use Rattle.mm_verdict.specs.declared.program.Program.{Program}

-- the steps are those that the proof of item i decodes to, and its labels have their meanings there, by the numbers of names
pub record IsProgramAt (names : List (List ℕ)) (view : BaseView) (i : ℕ) (program : Program) : Type 0 where
  pub labels : List Step
  pub decoded : Decoded
  pub decodes : decoding_at view i ≡ Ok decoded
  pub steps : decoded.steps ≡ actions_mean labels program.steps.items
  pub uses : AreUses by_code by_number program.known.machine program.known.cited.items program.known.uses.items
      (renamed_setting (unnaming names) (setting_at view i)) labels
