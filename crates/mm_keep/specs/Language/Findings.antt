-- What the findings of the code report, and what its tally counts.
use Rattle.std.specs.Prelude.{◌<◌, List, length}
use Rattle.mm_keep.specs.Language.Told.{Told, Quiet, AnAxiom, Proved, Incomplete, Wrong, Fault, Counts}
use Rattle.mm_keep.specs.declared.finding.Finding.{Finding}
use Rattle.mm_keep.specs.declared.finding.Finding.TheVariants as code
use Rattle.mm_keep.specs.declared.tally.Tally.{Tally}

-- what a finding reports
abbrev pub told : Finding → Told
told code.Quiet = Quiet
told code.Axiom = AnAxiom
told code.Proved = Proved
told (code.Incomplete at) = Incomplete at
told (code.Wrong number at) = Wrong number at
told (code.Fault number at word) = Fault number (record { at = at; word = word.now })

-- what a tally counts
abbrev pub counted : Tally → Counts
counted tally = record {
  axioms = tally.axioms;
  theorems = tally.theorems;
  proved = tally.proved;
  incomplete = tally.incomplete;
  wrong = tally.wrong;
  faults = tally.faults;
}

-- few enough are reported that one more can be counted
abbrev pub AreFew : List Told → Type 0
AreFew all = length all < 4294967295
