-- The worked examples of loading, from those of mm_statement and mm_text.
use Rattle.std.proofs.{Common.{◌≡◌, Some, [], refl, sym, inl, arith, codes, subst}, lemmas.{Bool.{false≢true}, Option.{same_Some}, Slice.Eq.{bytes_eq-Decides}}}
use Rattle.mm_report.specs.mm_text.{declared.fault.TextNumber.TheVariants.{T06}, Language.Examples.{MissesEnd}}
use Rattle.mm_report.specs.mm_statement.Language.Examples.{looped, looped_items, looped_names, LoopGivesNine, LoopIsCut}
use Rattle.mmkeep.specs.Language.{Loading.{GivesFiles}, LoadingExamples.{two_texts, FaultStops, HasFaultThere, LoopIsLoaded, OpensKnown}}
use Rattle.mmkeep.specs.declared.adding.FileError.TheVariants as errors

pub loop_is_loaded : LoopGivesNine → LoopIsCut → LoopIsLoaded
loop_is_loaded nine cut =
    let given : GivesFiles two_texts looped_names looped = (
      _,
      _,
      record { file = _; last = refl; is_name = refl; is_cut = cut.0 },
      (_, _, record { file = _; last = refl; is_name = refl; is_cut = cut.1.0 }, ([], [], refl, refl, refl), refl),
      refl,
    ) in
    record { items = looped_items; database = nine.0; given = subst (λ names. GivesFiles two_texts names looped) (sym nine.1) given }

pub has_fault_there : MissesEnd → HasFaultThere
has_fault_there misses = record { at = 5; is_first = misses; is_line = refl; is_column = refl }

pub fault_stops : MissesEnd → FaultStops
fault_stops misses = inl (errors.Text (record { line = 1; column = 6 }) T06, (λ (e : errors.Text (record { line = 1; column = 6 }) T06 ≡ errors.Memory). cc), has_fault_there misses)

pub opens_known : OpensKnown
opens_known = (refl, other, refl, (λ (e : 2 ≡ 12). omega (arith, e)), tt, (λ none. none), tt, tt)
  where
    other : Some (codes "$c b $.") ≡ Some (codes "$c a $.") → ⊥
    other same = false≢true ((bytes_eq-Decides (codes "$c b $.") (codes "$c a $.")).1 (same_Some (codes "$c b $.") (codes "$c a $.") same))
