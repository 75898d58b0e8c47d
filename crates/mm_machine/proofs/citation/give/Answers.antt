use Rattle.std.proofs.{Common.{◌≡◌, ◌<◌, ◌+◌, ◌-◌, ℕ, true, false, Some, List, map, length, length-set, get_or, sym, ◌∙◌, ap, subst, arith, slice_get}, lemmas.Grind.{common_steps}}
use Rattle.std.proofs.{lemmas.{Bool.{false≢true}, List.Elements.{All-contains}, Option.{same_Some, slice_get_within, slice_get-get_or}}, Math.Decide.{ℕ_discrete}}
use Rattle.mm_machine.specs.{Language.{Frame.{Symbol, Mandatory}, Lasting.{lasting_at}}, Code.{Flat.{IsEntryWithin, read}, Citation.{AreGiven, OtherTypecode}}}
use Rattle.mm_machine.{specs.{Code.Filling.{entries_of, frame_taking, variables_of}, declared.pattern.{Entry.{Entry}, Given.{Given}}}, proofs.lemmas.machine.FlatLemmas.{mapped_or_get}}
use Rattle.mm_machine.proofs.lemmas.machine.{EntryFaults.{NoneUpTo, none_more, none_all}, Given.{gives_more, gives_still}, TakenLemmas.{taken_count, taken_some, taken_typing, taken_variable}}
use Rattle.mm_machine.proofs.lemmas.lists.{Members.{contains_at}, Zips.{any_at}}
use Rattle.mm_machine.proofs.citation.give.Goals.{then-hypothesis+else-not-has_typecode, else-hypothesis+then-place-first, else-hypothesis+else-place-first}
use Rattle.mm_machine.proofs.citation.give.Goals as goal

-- one place more, at which there is a `$f`
floating_more :
    (hs : List Mandatory) (n first : ℕ) (x : Mandatory) → slice_get hs n ≡ Some x → x.floating ≡ true
    → ((k : ℕ) (h : Mandatory) → k < n → k < first → slice_get hs k ≡ Some h → h.floating ≡ true)
    → (k : ℕ) (h : Mandatory) → k < n + 1 → k < first → slice_get hs k ≡ Some h → h.floating ≡ true
floating_more hs n first x here is all k h l m at = grind (arith, common_steps, same_Some) steps 200000

-- one place more, at which there is a `$e`
not_more : (hs : List Mandatory) (es : List (List Symbol)) (n : ℕ) (x : Mandatory) → slice_get hs n ≡ Some x → x.floating ≡ false → NoneUpTo OtherTypecode hs es n → NoneUpTo OtherTypecode hs es (n + 1)
not_more hs es n x here is none k l at = by_case (ℕ_discrete k n)
  where
    by_case : Dec (k ≡ n) → ⊥
    by_case (yes e) = false≢true (sym is ∙ ap (λ (w : Mandatory). w.floating) (same_Some x at.x (sym here ∙ sym (ap (slice_get hs) e) ∙ at.first)) ∙ at.holds.0)
    by_case (no o) = none k (omega arith) at

pub returns-then-not-has_typecode-clause-gives : goal.returns-then-not-has_typecode-clause-gives
returns-then-not-has_typecode-clause-gives g c =
    let m = g.S.Symbol.means in
    let taken = c.args.taken.now in
    let n = c.loop-place.place in
    let e : Entry = get_or taken.entries.now n (record { start = 0; end = 0; floor = 0 }) in
    let symbols = map m taken.symbols.now in
    any_at OtherTypecode (frame_taking m g.S.Listed.Symbol.means taken).hypotheses (entries_of m taken) n (lasting_at symbols c.hypothesis_at-hypothesis.result) (read symbols e)
    c.hypothesis_at-hypothesis.ensures.is (mapped_or_get (read symbols) taken.entries.now n (record { start = 0; end = 0; floor = 0 }) c.loop-place-test.true)
    (c.if-hypothesis.true, λ e. false≢true (sym c.if-not-has_typecode.true ∙ c.has_typecode.ensures.1 e))

pub variable_of-variable-requires-clause-typing : goal.variable_of-variable-requires-clause-typing
variable_of-variable-requires-clause-typing g c =
    let symbols = map g.S.Symbol.means c.args.taken.now.symbols.now in
    taken_typing g.S.Symbol.means g.S.Listed.Symbol.means g.S.Kept.key_of c.args.taken.now c.requires.taken c.loop-place.place (lasting_at symbols c.hypothesis_at-hypothesis.result)
    c.hypothesis_at-hypothesis.ensures.is c.if-hypothesis.true

pub overflow_add-given : goal.overflow_add-given
overflow_add-given g c =
    let m = g.S.Symbol.means in
    let taken = c.args.taken.now in
    let n = c.loop-place.place in
    let e : Entry = get_or taken.entries.now n (record { start = 0; end = 0; floor = 0 }) in
    let some = taken_some m g.S.Listed.Symbol.means g.S.Kept.key_of taken c.requires.taken n (lasting_at (map m taken.symbols.now) c.hypothesis_at-hypothesis.result) (map m taken.symbols.now) e
    c.hypothesis_at-hypothesis.ensures.is c.if-hypothesis.true (c.has_typecode.ensures.0 c.if-not-has_typecode.false) in
    let within = All-contains (IsEntryWithin (length taken.symbols.now - 4)) taken.entries.now e c.requires.taken.within
    (contains_at taken.entries.now n e (slice_get-get_or taken.entries.now n (record { start = 0; end = 0; floor = 0 }) c.loop-place-test.true)) in
    omega (arith, some, within.1, c.requires.taken.below, c.type_inv.taken.0.0.1)

pub bounds-given-variable : goal.bounds-given-variable
bounds-given-variable g c =
    let m = g.S.Symbol.means in
    let taken = c.args.taken.now in
    let number = c.variable_of-variable.result in
    let v = taken_variable m g.S.Listed.Symbol.means g.S.Kept.key_of taken c.requires.taken c.loop-place.place (lasting_at (map m taken.symbols.now) c.hypothesis_at-hypothesis.result) number
    c.hypothesis_at-hypothesis.ensures.is c.if-hypothesis.true c.variable_of-variable.ensures in
    omega (arith, slice_get_within (variables_of m taken) number v.0 v.2, c.requires.given, c.loop-place.invariant.count)

pub offset_bounds-given-variable : goal.offset_bounds-given-variable
offset_bounds-given-variable g c = grind (arith, common_steps, bounds-given-variable g c) steps 200000

pub loop-place-preserved : goal.loop-place-preserved
loop-place-preserved g c =
    let m = g.S.Symbol.means in
    let listed = g.S.Listed.Symbol.means in
    let taken = c.args.taken.now in
    let n = c.loop-place.place in
    let none_there : Entry = record { start = 0; end = 0; floor = 0 } in
    let e = get_or taken.entries.now n none_there in
    let symbols = map m taken.symbols.now in
    let hs = (frame_taking m listed taken).hypotheses in
    let es = entries_of m taken in
    let x = lasting_at symbols c.hypothesis_at-hypothesis.result in
    let here = c.hypothesis_at-hypothesis.ensures.is in
    let was = c.loop-place.invariant in
    elim c.if-hypothesis.branch [
      | then-hypothesis+else-not-has_typecode w ↦
          let is = c.requires.taken in
          let floating = w.if-hypothesis.true in
          let same = w.has_typecode.ensures.0 w.if-not-has_typecode.false in
          let number = w.variable_of-variable.result in
          let v = taken_variable m listed g.S.Kept.key_of taken is n x number here floating w.variable_of-variable.ensures in
          let put : Given = record { start = e.start + 1; end = e.end; place = n } in
          let within : number < length c.loop-place.given = omega (arith, slice_get_within (variables_of m taken) number v.0 v.2, c.requires.given, was.count) in
          record {
            none = none_more OtherTypecode hs es n x (read symbols e) here (mapped_or_get (read symbols) taken.entries.now n none_there c.loop-place-test.true) (λ r. r.1 same) was.none;
            floating = λ k y l o at. floating_more hs n c.loop-place.first x here floating was.floating k y l (omega (arith, w.first-is)) at;
            count = ap length w.given-is ∙ length-set c.loop-place.given number put ∙ was.count;
            gives = subst (λ w. AreGiven (variables_of m taken) hs taken.entries.now w (n + 1)) (sym w.given-is)
                (gives_more (variables_of m taken) hs taken.entries.now c.loop-place.given n x here was.gives number v.0 e is.cited.frame.typed_once is.numbered.once within v.1 v.2
                (slice_get-get_or taken.entries.now n none_there c.loop-place-test.true) (taken_some m listed g.S.Kept.key_of taken is n x symbols e here floating same));
          }
      | else-hypothesis+then-place-first w ↦ record {
        none = not_more hs es n x here w.if-hypothesis.false was.none;
        floating = λ k y l o at. was.floating k y (omega (arith, w.first-is, o)) (omega (arith, w.first-is, o, w.if-place-first.true)) at;
        count = ap length w.given-is ∙ was.count;
        gives = subst (λ w. AreGiven (variables_of m taken) hs taken.entries.now w (n + 1)) (sym w.given-is)
            (gives_still (variables_of m taken) hs taken.entries.now c.loop-place.given n x here was.gives w.if-hypothesis.false);
      }
      | else-hypothesis+else-place-first w ↦ record {
        none = not_more hs es n x here w.if-hypothesis.false was.none;
        floating = λ k y l o at. was.floating k y (omega (arith, w.first-is, w.if-place-first.false)) (omega (arith, w.first-is)) at;
        count = ap length w.given-is ∙ was.count;
        gives = subst (λ w. AreGiven (variables_of m taken) hs taken.entries.now w (n + 1)) (sym w.given-is)
            (gives_still (variables_of m taken) hs taken.entries.now c.loop-place.given n x here was.gives w.if-hypothesis.false);
      }
    ]

pub returns-clause-gives : goal.returns-clause-gives
returns-clause-gives g c =
    let m = g.S.Symbol.means in
    let listed = g.S.Listed.Symbol.means in
    let taken = c.args.taken.now in
    let hs = (frame_taking m listed taken).hypotheses in
    let was = c.loop-place.invariant in
    let count = taken_count m listed g.S.Kept.key_of taken c.requires.taken in
    let long = c.loop-place-test.false in (
      none_all OtherTypecode hs (entries_of m taken) c.loop-place.place (omega (arith, count, long)) was.none,
      λ k h l at. was.floating k h (let w = slice_get_within hs k h at in omega (arith, count, long, w)) l at,
      λ k h v n l. was.gives k h v n (omega (arith, l, long)),
    )
