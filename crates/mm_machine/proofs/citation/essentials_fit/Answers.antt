use Rattle.std.proofs.{Common.{◌-◌, ◌≡◌, Bool, not, refl, true, false, List, map, length, get_or, sym, ◌∙◌, subst, arith}, lemmas.Bool.{false≢true}}
use Rattle.mm_machine.specs.{Language.{Substitution.{substituted}, Lasting.{lasting_at, pattern_symbols}}, Code.{Flat.{read}, Citation.{OtherEssential}}}
use Rattle.mm_machine.specs.{Code.Filling.{IsFillable, entries_of, frame_taking, pattern_filled}, declared.{slots.Slot.{Slot}, pattern.Entry.{Entry}}}
use Rattle.mm_machine.proofs.lemmas.{machine.{FlatLemmas.{mapped_or_get}, EntryFaults.{none_more, none_all}, TakenLemmas.{taken_count, taken_typed, typed_fillable, typed_filled}}, lists.Zips.{any_at}}
use Rattle.mm_machine.proofs.citation.essentials_fit.Goals.{then-not-hypothesis+else-not-fits, else-not-hypothesis}
use Rattle.mm_machine.proofs.citation.essentials_fit.Goals as goal

-- what is not so
is_false : (b : Bool) → not b ≡ true → b ≡ false
is_false true e = absurd (false≢true e)
is_false false e = refl

is_true : (b : Bool) → not b ≡ false → b ≡ true
is_true true e = refl
is_true false e = absurd (false≢true (sym e))

pub fits-requires-clause-fillable : goal.fits-requires-clause-fillable
fits-requires-clause-fillable g c =
    let m = g.S.Symbol.means in
    let taken = c.args.taken.now in
    let h = c.hypothesis_at-hypothesis in
    let is = c.requires.taken in
    subst (λ (w : List Slot). IsFillable c.args.given.now (length taken.symbols.now - 4) w h.result) (sym c.deref.ensures.value)
    (typed_fillable m g.S.Listed.Symbol.means g.S.Kept.key_of taken is c.args.given.now c.requires.given h.result h.ensures.pattern
    (taken_typed m g.S.Listed.Symbol.means g.S.Kept.key_of taken is c.loop-place.place (lasting_at (map m taken.symbols.now) h.result) h.ensures.is) (length taken.symbols.now - 4) is.within (omega (arith, is.below)))

pub returns-then-not-fits : goal.returns-then-not-fits
returns-then-not-fits g c gives all =
    let m = g.S.Symbol.means in
    let listed = g.S.Listed.Symbol.means in
    let taken = c.args.taken.now in
    let n = c.loop-place.place in
    let none_there : Entry = record { start = 0; end = 0; floor = 0 } in
    let symbols = map m taken.symbols.now in
    let h = c.hypothesis_at-hypothesis in
    let is = c.requires.taken in
    let x = lasting_at symbols h.result in
    let filled_is = subst (λ (w : List Slot). pattern_filled symbols c.args.given.now w h.result ≡ substituted gives (pattern_symbols symbols h.result)) (sym c.deref.ensures.value)
    (typed_filled m listed g.S.Kept.key_of taken is c.args.given.now c.requires.given h.result h.ensures.pattern (taken_typed m listed g.S.Kept.key_of taken is n x h.ensures.is) gives all) in
    any_at (OtherEssential gives) (frame_taking m listed taken).hypotheses (entries_of m taken) n x (read symbols (get_or taken.entries.now n none_there)) h.ensures.is
    (mapped_or_get (read symbols) taken.entries.now n none_there c.loop-place-test.true)
    (is_false h.result.floating c.if-not-hypothesis.true, λ e. false≢true (sym c.if-not-fits.true ∙ c.fits.ensures.1 (filled_is ∙ e)))

pub loop-place-preserved : goal.loop-place-preserved
loop-place-preserved g c gives all =
    let m = g.S.Symbol.means in
    let listed = g.S.Listed.Symbol.means in
    let taken = c.args.taken.now in
    let n = c.loop-place.place in
    let none_there : Entry = record { start = 0; end = 0; floor = 0 } in
    let symbols = map m taken.symbols.now in
    let h = c.hypothesis_at-hypothesis in
    let is = c.requires.taken in
    let x = lasting_at symbols h.result in
    let more = none_more (OtherEssential gives) (frame_taking m listed taken).hypotheses (entries_of m taken) n x (read symbols (get_or taken.entries.now n none_there)) h.ensures.is
    (mapped_or_get (read symbols) taken.entries.now n none_there c.loop-place-test.true) in
    elim c.if-not-hypothesis.branch [
      | then-not-hypothesis+else-not-fits w ↦
          let filled_is = subst (λ (s : List Slot). pattern_filled symbols c.args.given.now s h.result ≡ substituted gives (pattern_symbols symbols h.result)) (sym w.deref.ensures.value)
          (typed_filled m listed g.S.Kept.key_of taken is c.args.given.now c.requires.given h.result h.ensures.pattern (taken_typed m listed g.S.Kept.key_of taken is n x h.ensures.is) gives all) in
          more (λ r. r.1 (sym filled_is ∙ w.fits.ensures.0 w.if-not-fits.false)) (c.loop-place.invariant gives all)
      | else-not-hypothesis w ↦ more (λ r. false≢true (sym r.0 ∙ is_true h.result.floating w.if-not-hypothesis.false)) (c.loop-place.invariant gives all)
    ]

pub returns : goal.returns
returns g c gives all =
    let m = g.S.Symbol.means in
    let listed = g.S.Listed.Symbol.means in
    let taken = c.args.taken.now in
    none_all (OtherEssential gives) (frame_taking m listed taken).hypotheses (entries_of m taken) c.loop-place.place
    (omega (arith, taken_count m listed g.S.Kept.key_of taken c.requires.taken, c.loop-place-test.false)) (c.loop-place.invariant gives all)
