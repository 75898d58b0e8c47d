-- The variables of entries, gathered as sets of numbers.
use Rattle.std.proofs.Common.{◌≡◌, ℕ, ◌+◌, ◌-◌, ◌<◌, Bool, true, Some, List, [], ◌∷◌, ◌++◌, length, take, drop, refl, sym, ◌∙◌, ap, subst, arith, inl, inr, ◌⊎◌, append_assoc, length-append, slice_get}
use Rattle.std.proofs.{Common.{Contains}, lemmas.{Grind.{common_steps}, Bool.{false≢true}, Option.{slice_get_within, same_Some}, List.{drop_all, take_all, take_rest, take-append-drop}}}
use Rattle.std.proofs.lemmas.List.Elements.{Contains-append_cases, Contains-append_left, Contains-append_right}
use Rattle.mm_machine.specs.{Language.Frame.{Symbol, Mandatory}, declared.{pattern.Entry.{Entry}, sets.Chunk.{Chunk}}}
use Rattle.mm_machine.{specs.Code.PairClause.{AreNumbersOf, GathersOne, GathersSymbols, GathersEntry, Gathers, IsIn, set_of}, proofs.lemmas.machine.ApartLemmas.{front_at, last_at, range_kept}}
use Rattle.mm_machine.proofs.lemmas.lists.Members.{pushed, take_next}

-- ---- more variables

-- a number of the variables names the same one among more of them
pub still_at : (all more : List Symbol) (n : ℕ) (v : Symbol) → slice_get all n ≡ Some v → slice_get (all ++ more) n ≡ Some v
still_at all more n v at = front_at all more n (slice_get_within all n v at) ∙ at

-- so a set has the same variables
pub set_stays : (all more : List Symbol) (set : List Chunk) (v : Symbol) → AreNumbersOf all set → IsIn (all ++ more) set v → IsIn all set v
set_stays all more set v numbers i = (i.0, i.1, sym (front_at all more i.0 (numbers i.0 i.1)) ∙ i.2)

pub set_still : (all more : List Symbol) (set : List Chunk) (v : Symbol) → IsIn all set v → IsIn (all ++ more) set v
set_still all more set v i = (i.0, i.1, still_at all more i.0 v i.2)

pub numbers_still : (all more : List Symbol) (set : List Chunk) → AreNumbersOf all set → AreNumbersOf (all ++ more) set
numbers_still all more set numbers n h = omega (arith, numbers n h, length-append all more)

-- more and more
pub grown_twice : (first second third more later : List Symbol) → second ≡ first ++ more → third ≡ second ++ later → (rest : List Symbol) × (third ≡ first ++ rest)
grown_twice first second third more later e f = (more ++ later, f ∙ ap (λ w. w ++ later) e ∙ append_assoc first more later)

-- ---- the symbols of an entry

-- one symbol more
pub gathered_more : (symbols all : List Symbol) (more : List Symbol) (front before after : List Chunk) (n : ℕ) (s : Symbol) → slice_get symbols n ≡ Some s
    → GathersOne (length front) s (all ++ more) before after → GathersSymbols (take n symbols) all front before
    → GathersSymbols (take (n + 1) symbols) (all ++ more) front after
gathered_more symbols all more front before after n s at (inl a) f =
    rw a.1 (record {
      kept = f.kept;
      long = f.long;
      numbers = numbers_still all more (drop (length front) before) f.numbers;
      same = λ v.
          let p = pushed (take n symbols) s v in
          rw (take_next symbols n s at) (
            λ h. elim (p.0 h.0) [
              | inl c ↦ set_still all more (drop (length front) before) v ((f.same v).0 (c, h.1))
              | inr e ↦ absurd (false≢true (sym a.0 ∙ ap (λ (w : Symbol). w.variable) e ∙ h.1))
            ],
            λ i. (let h = (f.same v).1 (set_stays all more (drop (length front) before) v f.numbers i) in (p.1 (inl h.0), h.1)),
          );
    })
gathered_more symbols all more front before after n s at (inr a) f =
    let added = a.3 in
    let xs = drop (length front) before in
    let ys = drop (length front) after in
    let number_at : slice_get (all ++ more) a.1 ≡ Some s = a.2 in
    record {
      kept = added.kept ∙ f.kept;
      long = added.long;
      numbers = λ k h. elim ((added.same k).0 h) [
        | inl o ↦ omega (arith, f.numbers k o, length-append all more)
        | inr e ↦ omega (arith, e, slice_get_within (all ++ more) a.1 s number_at)
      ];
      same = λ v.
          let p = pushed (take n symbols) s v in
          rw (take_next symbols n s at) (
            λ h. elim (p.0 h.0) [
              | inl c ↦ (let i = set_still all more xs v ((f.same v).0 (c, h.1)) in (i.0, (added.same i.0).1 (inl i.1), i.2))
              | inr e ↦ (a.1, (added.same a.1).1 (inr refl), number_at ∙ ap Some e)
            ],
            λ i. elim ((added.same i.0).0 i.1) [
              | inl o ↦ (let h = (f.same v).1 (set_stays all more xs v f.numbers (i.0, o, i.2)) in (p.1 (inl h.0), h.1))
              | inr e ↦ (let is = same_Some s v (sym number_at ∙ ap (slice_get (all ++ more)) (sym e) ∙ i.2) in (p.1 (inr is), subst (λ (w : Symbol). w.variable ≡ true) is a.0))
            ],
          );
    }

-- none yet
pub gathered_none : (all : List Symbol) (front : List Chunk) → GathersSymbols [] all front front
gathered_none all front = grind (arith, common_steps, drop_all (length front) front (omega arith), take_all (length front) front (omega arith)) steps 200000

-- ---- the entries

-- one entry, by what was gathered of it
pub entry_gathered : (xs e all : List Symbol) (before after : List Chunk) (start end : ℕ) (floating : Bool) (spans more : List Entry) → xs ≡ drop 1 e
    → GathersSymbols xs all before after → start ≡ length before → end ≡ length after
    → more ≡ spans ++ record { start = start; end = end; floor = start } ∷ [] → GathersEntry floating e all before after spans more
entry_gathered xs e all before after start end floating spans more is f a b c = record {
  span = record { start = start; end = end; floor = start };
  start = a;
  end = b;
  added = c;
  kept = f.kept;
  long = f.long;
  numbers = f.numbers;
  same = λ _ v. rw (sym is) (f.same v);
}

set_last : (before after : List Chunk) (s : Entry) → s.start ≡ length before → s.end ≡ length after → set_of after s ≡ drop (length before) after
set_last before after s a b = grind (arith, common_steps, take_rest) steps 200000

-- what is in part of some chunks
pub part_of : (chunks : List Chunk) (s : Entry) (w : Chunk) → Contains (set_of chunks s) w → Contains chunks w
part_of chunks s w c =
    let rest = drop s.start chunks in
    let n = s.end - s.start in
    let d = subst (λ ys. Contains ys w) (take-append-drop n rest) (Contains-append_left (take n rest) (drop n rest) w c) in
    subst (λ ys. Contains ys w) (take-append-drop s.start chunks) (Contains-append_right (take s.start chunks) rest w d)

pub gathers_step : (hypotheses : List Mandatory) (es : List (List Symbol)) (all more : List Symbol) (before after : List Chunk) (spans later : List Entry) (n : ℕ)
    (h : Mandatory) (e : List Symbol) → slice_get hypotheses n ≡ Some h → slice_get es n ≡ Some e →
    GathersEntry h.floating e (all ++ more) before after spans later → Gathers hypotheses es all before spans n → Gathers hypotheses es (all ++ more) after later (n + 1)
gathers_step hypotheses es all more before after spans later n h e at_h at_e a f = record {
  count = ap length a.added ∙ length-append spans (a.span ∷ []) ∙ ap (λ k. k + 1) f.count;
  within = grind (arith, common_steps, at_or_before) steps 200000;
  numbers = λ k i.
      let whole : after ≡ before ++ drop (length before) after = sym (take-append-drop (length before) after) ∙ ap (λ w. w ++ drop (length before) after) a.kept in
      elim (Contains-append_cases before (drop (length before) after) i.0 (subst (λ w. Contains w i.0) whole i.1)) [
        | inl c ↦ omega (arith, f.numbers k (i.0, c, i.2), length-append all more)
        | inr c ↦ a.numbers k (i.0, c, i.2)
      ];
  right = λ k s g d at_s at_g floating at_d v. elim (at_or_before k s at_s) [
    | inl b ↦
        let was = f.right k s g d b.1 at_g floating at_d v in
        let set = set_of before s in
        let numbers : AreNumbersOf all set = λ m i. f.numbers m (i.0, part_of before s i.0 i.1, i.2) in
        rw (range_kept before after s a.kept (f.within k s b.1).1) (λ x. set_still all more set v (was.0 x), λ x. was.1 (set_stays all more set v numbers x))
    | inr b ↦
        let same = ap (set_of after) (sym b.1) ∙ set_last before after a.span a.start a.end in
        let one = same_Some h g (sym at_h ∙ ap (slice_get hypotheses) (sym b.0) ∙ at_g) in
        let entry = same_Some e d (sym at_e ∙ ap (slice_get es) (sym b.0) ∙ at_d) in
        rw (same, ← entry) (a.same (ap (λ (w : Mandatory). w.floating) one ∙ floating) v)
  ];
}
  where
    at_or_before : (k : ℕ) (s : Entry) → slice_get later k ≡ Some s → ((k < n) × (slice_get spans k ≡ Some s)) ⊎ ((k ≡ n) × (a.span ≡ s))
    at_or_before k s at = grind (arith, common_steps, front_at, last_at, length-append, same_Some, slice_get_within) steps 200000
