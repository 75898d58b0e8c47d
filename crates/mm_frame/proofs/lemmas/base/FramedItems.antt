-- What is known of the sound `$f` of a base, and of the frames of its assertions.
use Rattle.std.proofs.lemmas.{Grind.{common_steps}, Bool.{false≢true, and_parts, and_from}, Slice.Eq.{bytes_eq-Decides}}
use Rattle.std.proofs.Common.{◌≡◌, ◌↔◌, ℕ, ◌<◌, Bool, true, false, ◌&&◌, not, List, [], ◌++◌, take, refl, sym, ap, ◌∙◌, subst, inl, inr, arith, Contains, bytes_eq, slice_get, slice_index_or}
use Rattle.std.specs.List.{list_any}
use native.Mathlib.Decide.{dec_lt}
use Rattle.mm_machine.specs.Language.{Frame.{Symbol, Mandatory, ArePair, HasVariable}, Typing.{IsFrame}}
use Rattle.mm_statement.specs.Language.Item.{Said, has, is_assertion, is_kind, Essential, Floating, typecode_of, variable_of}
use Rattle.mm_frame.specs.{declared.FrameNumber.TheVariants.{F13}, Language.{Scope.{active, active_variables, floats, symbols_by}, Sound.{IsSound, is_typed_otherwise, as_second}}}
use Rattle.mm_frame.specs.Language.{Framing.{active_pairs, is_mandatory_pair, mandatory_variables}, Base.{BaseView, before, frame_at, is_framed_at, is_shown_at, is_sound_at, said_at}}
use Rattle.mm_frame.{specs.Language.Laws.{IsVariableOf, is_float_at}, proofs.lemmas.{base.BaseLemmas.{kept_are_sound, none_told}, faults.FoundFaults.{no_fault_sound}}}
use Rattle.mm_frame.proofs.lemmas.{scope.{Facts.{float_two, no_symbol_of}, SoundItems.{in_any}}, lists.Members.{In, contains_in, from_filter, get_in, in_contains, in_filter, in_has, in_left}}
use Rattle.mm_frame.proofs.lemmas.frames.{FrameNumbers.{shown_before}, Frames.{assertion_expression, hypothesis_from, hypothesis_mandatory, is_frame, read_variable}, SameFrames.{framed_shown}}

-- a sound item with a label is sound after the items before it
pub shown_sound : (base : BaseView) (j : ℕ) → is_shown_at base j ≡ true → IsSound (before base j) (said_at base j)
shown_sound base j shown = grind (arith, common_steps, and_parts, no_fault_sound, none_told) steps 200000

-- a `$f` has the typecode of each `$f` of its variable before it
second_false : (a b : Bool) → (a && not b) ≡ false → a ≡ true → b ≡ true
second_false true true none is = refl
second_false true false none is = absurd (false≢true (sym none))
second_false false b none is = absurd (false≢true is)

none_by : (b : Bool) (p : Said → Bool) (x : Said) (xs : List Said) → p x ≡ b → In x xs → list_any p xs ≡ false → p x ≡ false
none_by true p x xs is there none = absurd (false≢true (sym none ∙ in_any p x xs there is))
none_by false p x xs is there none = is

agrees : (before : List Said) (x f : Said) → IsSound before f → In x before → is_kind Floating x.kind ≡ true → is_kind Floating f.kind ≡ true → variable_of x ≡ variable_of f → typecode_of x ≡ typecode_of f
agrees before x f sound there first second_one same =
    let two = float_two before f sound second_one in
    let name = two.1 in
    let named : variable_of f ≡ name = ap (λ symbols. slice_index_or symbols 1 []) two.2 in
    let out = no_symbol_of (is_kind Floating f.kind) (as_second (is_typed_otherwise before f)) f (λ word. sound word F13) second_one 1 name (ap (λ symbols. slice_get symbols 1) two.2) in
    let test = λ (other : Said). bytes_eq (variable_of other) name && not (bytes_eq (typecode_of other) (typecode_of f)) in
    let no_match = none_by (test x) test x (floats before) refl (in_filter (λ (item : Said). is_kind Floating item.kind) x before there first) out in
    (bytes_eq-Decides (typecode_of x) (typecode_of f)).0
    (second_false (bytes_eq (variable_of x) name) (bytes_eq (typecode_of x) (typecode_of f)) no_match ((bytes_eq-Decides (variable_of x) name).1 (same ∙ named)))

later_agrees : (base : BaseView) (i j : ℕ) → i < j → is_float_at base i ≡ true → is_float_at base j ≡ true → variable_of (said_at base i) ≡ variable_of (said_at base j)
    → typecode_of (said_at base i) ≡ typecode_of (said_at base j)
later_agrees base i j earlier one other same =
    let mine = and_parts (is_shown_at base i) (is_kind Floating (said_at base i).kind) one in
    let yours = and_parts (is_shown_at base j) (is_kind Floating (said_at base j).kind) other in
    agrees (before base j) (said_at base i) (said_at base j) (shown_sound base j yours.0)
    (get_in (said_at base i) (before base j) i (shown_before base j i earlier mine.0)) mine.1 yours.1 same

pub floats_agree : (base : BaseView) (i j : ℕ) → is_float_at base i ≡ true → is_float_at base j ≡ true → variable_of (said_at base i) ≡ variable_of (said_at base j)
    → typecode_of (said_at base i) ≡ typecode_of (said_at base j)
floats_agree base i j one other same = by_order (dec_lt i j) (dec_lt j i)
  where
    by_order : Dec (i < j) → Dec (j < i) → typecode_of (said_at base i) ≡ typecode_of (said_at base j)
    by_order (yes earlier) _ = later_agrees base i j earlier one other same
    by_order (no _) (yes later) = sym (later_agrees base j i later other one (sym same))
    by_order (no not_earlier) (no not_later) = let equal : i ≡ j = omega arith in ap (λ n. typecode_of (said_at base n)) equal

module _ (base : BaseView) (i : ℕ) (framed : is_framed_at base i ≡ true) where
  abbrev front : List Said
  front = before base i

  abbrev item : Said
  item = said_at base i

  pub has_frame : IsFrame (frame_at base i)
  has_frame = is_frame front item (kept_are_sound (take i base)) (shown_sound base i (framed_shown base i framed))
      (assertion_expression item.kind (and_parts (is_sound_at base i) (is_assertion item.kind) framed).1)

  -- the variables of the frame are mandatory
  mandatory_name : (v : Symbol) → IsVariableOf (frame_at base i) v → has (mandatory_variables front item) v.name ≡ true
  mandatory_name v (inl is) =
      let r = read_variable front item.symbols v is in
      let m = in_filter (has (active_variables front)) r.0 (item.symbols ++ symbols_by (is_kind Essential) (active front)) (in_left r.0 item.symbols (symbols_by (is_kind Essential) (active front)) r.1) (in_has (active_variables front) r.0 r.2) in
      in_has (mandatory_variables front item) v.name (subst (λ (w : Symbol). In w.name (mandatory_variables front item)) r.3 m)
  mandatory_name v (inr is) =
      let f = hypothesis_from front item is.0 (contains_in is.0 (frame_at base i).hypotheses is.1) in
      let r = read_variable front (f.0).symbols v (subst (λ (h : Mandatory). HasVariable h.expression v) (sym f.3) is.2) in
      let m = hypothesis_mandatory front item f.0 r.0 (kept_are_sound (take i base)) f.1 f.2 r.1 r.2 in
      in_has (mandatory_variables front item) v.name (subst (λ (w : Symbol). In w.name (mandatory_variables front item)) r.3 m)

  one_pair : (v w : Symbol) → IsVariableOf (frame_at base i) v → IsVariableOf (frame_at base i) w → Contains (active_pairs front) (v, w) → Contains (frame_at base i).pairs (v, w)
  one_pair v w mine yours there = in_contains (v, w) (frame_at base i).pairs
      (in_filter (is_mandatory_pair (mandatory_variables front item)) (v, w) (active_pairs front) (contains_in (v, w) (active_pairs front) there)
      (and_from (has (mandatory_variables front item) v.name) (has (mandatory_variables front item) w.name) (mandatory_name v mine) (mandatory_name w yours)))

  active_pair : (v w : Symbol) → Contains (frame_at base i).pairs (v, w) → Contains (active_pairs front) (v, w)
  active_pair v w there = in_contains (v, w) (active_pairs front)
      (from_filter (is_mandatory_pair (mandatory_variables front item)) (v, w) (active_pairs front) (contains_in (v, w) (frame_at base i).pairs there)).0

  pub has_pairs : (v w : Symbol) → IsVariableOf (frame_at base i) v → IsVariableOf (frame_at base i) w → ArePair (frame_at base i).pairs v w ↔ ArePair (active_pairs front) v w
  has_pairs v w mine yours = (to_active, to_frame)
    where
      to_active : ArePair (frame_at base i).pairs v w → ArePair (active_pairs front) v w
      to_active (inl one) = inl (active_pair v w one)
      to_active (inr one) = inr (active_pair w v one)

      to_frame : ArePair (active_pairs front) v w → ArePair (frame_at base i).pairs v w
      to_frame (inl one) = inl (one_pair v w mine yours one)
      to_frame (inr one) = inr (one_pair w v yours mine one)
