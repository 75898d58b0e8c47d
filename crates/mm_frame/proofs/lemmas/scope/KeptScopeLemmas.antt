-- What a scope keeps says what is active and how it is typed, and what one more item makes of it.
use Rattle.std.proofs.Common.{arith, ◌≡◌, ℕ, suc, ◌<◌, Bool, true, false, Option, Some, List, [], ◌∷◌, ◌++◌, drop, length, get_or, slice_index_or, inl, inr, ap, sym, ◌∙◌, subst, length-append}
use Rattle.std.proofs.lemmas.{Grind.{common_steps}, Bool.{false≢true}, List.{map-append, drop-map, get_or_past}, Option.{slice_get_cases, slice_get_within, get_or_from_slice_get}}
use Rattle.std.proofs.Math.{ListN.{get_or-append}, Seq.{get_or-append_seam}}
use Rattle.mm_statement.specs.Language.Item.{Kind, Said, Floating, is_kind, item_at, passed, typecode_of}
use Rattle.mm_frame.specs.Code.{BlockMarks.{stays_by, block_marks}, LastItems.{is_active_last, last_where, types}, KeptScope.{AreTypecodes, ScopeHolds, taken}, Numbers.{IsNameNumber}}
use Rattle.mm_frame.{specs.{Language.{Marks.{Mark, mark_of}, Sound.{IsSound}}, declared.scope.Scope.{Scope}}, proofs.lemmas.scope.{BlockLemmas.{get_cases, stays_of}, Facts.{float_two}}}
use Rattle.mm_frame.proofs.lemmas.scope.TableLemmas.{float_at_last}

-- whether the last item that passes some test is active
pub active_by_marks : (before : List Said) (marks : List Mark) (last : Option ℕ) (n : ℕ) → marks ≡ block_marks before → last ≡ Some n → stays_by (drop (suc n) marks) ≡ is_active_last before last
active_by_marks before marks last n m e = grind (arith, common_steps, stays_of (drop (suc n) before), drop-map) steps 200000

-- one more item
pub marks_more : (before : List Said) (item : Said) (kind : Kind) (old new : List Mark) → kind ≡ item.kind → old ≡ block_marks before → new ≡ old ++ mark_of kind ∷ [] → new ≡ block_marks (before ++ item ∷ [])
marks_more before item kind old new k m e = e ∙ (λ i. m i ++ mark_of (k i) ∷ []) ∙ sym (map-append (λ (other : Said). mark_of other.kind) before (item ∷ []))

pub types_more : (all : List (List ℕ)) (before : List Said) (item : Said) (old new : List ℕ) (last : ℕ) → AreTypecodes all before old
    → (is_kind Floating item.kind ≡ true → IsNameNumber all last (typecode_of item)) → new ≡ old ++ last ∷ [] → AreTypecodes all (before ++ item ∷ []) new
types_more all before item old new last t l e = subst (AreTypecodes all (before ++ item ∷ [])) (sym e) (record {
  count = omega (arith, t.count, length-append old (last ∷ []), length-append before (item ∷ []));
  each = λ i x g f. elim (get_cases before item x i g) [
    | inl here ↦ subst (λ n. IsNameNumber all n (typecode_of x)) (sym (get_or-append old (last ∷ []) 0 i (omega (arith, t.count, slice_get_within before i x here)))) (t.each i x here f)
    | inr now ↦ subst (λ n. IsNameNumber all n (typecode_of x)) (sym (get_or-append_seam old last [] 0) ∙ ap (λ k. get_or (old ++ last ∷ []) k 0) (t.count ∙ sym now.0))
        (subst (λ (y : Said). is_kind Floating y.kind ≡ true → IsNameNumber all last (typecode_of y)) now.1 l f)
  ];
})

-- a sound `$f` has a typecode
pub floating_there : (before : List Said) (item : Said) → IsSound before item → is_kind Floating item.kind ≡ true → 0 < length item.symbols
floating_there before item s f = let two = float_two before item s f in omega (arith, ap length two.2)

-- the number of the typecode of the last `$f` of a name
pub kept_typecode : (all : List (List ℕ)) (before : List Said) (typecodes : List ℕ) (name : List ℕ) (n : ℕ) → AreTypecodes all before typecodes
    → last_where (types name) before ≡ Some n → IsNameNumber all (slice_index_or typecodes n 0) (typecode_of (item_at before n))
kept_typecode all before typecodes name n t e =
    let float = float_at_last before name n e in
    elim (slice_get_cases before n).1 [
      | inl there ↦
          (let at : item_at before n ≡ there.0 = get_or_from_slice_get before n there.0 passed there.2 in
          subst (λ (x : Said). IsNameNumber all (slice_index_or typecodes n 0) (typecode_of x)) (sym at) (t.each n there.0 there.2 (subst (λ (x : Said). is_kind Floating x.kind ≡ true) at float)))
      | inr past ↦ absurd (false≢true (subst (λ (x : Said). is_kind Floating x.kind ≡ true) (get_or_past before n passed past.0) float))
    ]

-- an item that is not sound is passed over
pub passed_over : (all : List (List ℕ)) {scope : Scope} (before : List Said) (item : Said) (sound : Bool) → sound ≡ false → ScopeHolds all (before ++ passed ∷ []) scope → ScopeHolds all (before ++ taken sound item ∷ []) scope
passed_over all {scope} before item sound e h = subst (λ b. ScopeHolds all (before ++ taken b item ∷ []) scope) (sym e) h
