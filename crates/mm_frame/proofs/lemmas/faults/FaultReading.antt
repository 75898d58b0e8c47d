-- The fault of a statement is the one that is read from left to right.
use Rattle.std.proofs.lemmas.{Grind.{common_steps}, Bool.{false≢true, and_left, and_right, le-leb, lt-ltb, eq-eqb, ne_eqb}, Option.{slice_get_past, slice_get_within}}
use Rattle.std.proofs.Common.{◌≡◌, ℕ, zero, suc, ◌+◌, ◌-◌, ◌≤◌, ◌<◌, Bool, true, false, cond, ◌&&◌, ◌||◌, ltb, ◌==◌, Option, Some, None, List, [], ◌∷◌, length, drop, find, slice_get, refl, ◌∙◌, ap}
use Rattle.std.{proofs.{Common.{arith}, Math.Bool.{or-false}}, specs.{Option.{option_or}, List.{list_any}}}
use Rattle.mm_statement.specs.Language.Item.{first_symbol, Kind, Floating, Said, is_kind, Constants, Disjoint, Variables, is_declaring, is_expression, is_labelled, labels_of}
use Rattle.mm_frame.specs.Language.Scope.{is_inside}
use Rattle.mm_frame.specs.Language.Sound.{closing_word, at_symbol, as_any, as_first, as_second, as_later, is_third, is_repeated, is_declared, is_active_symbol, is_label, is_no_constant}
use Rattle.mm_frame.specs.Language.Sound.{is_no_variable, is_no_active_symbol, is_untyped, is_typed, is_typed_otherwise, is_short, numbers, number_at, fault_or, fault_from, fault}
use Rattle.mm_frame.specs.declared.FrameNumber.{FrameNumber, TheVariants.{F01, F02, F03, F04, F05, F06, F07, F08, F09, F10, F11, F12, F13, F14}}
use Rattle.mm_frame.specs.Code.FaultInOrder.{first_fault, typecode_fault, typed_fault, floating_fault, symbol_fault_of, labels_fault, front_fault, end_fault, symbols_fault, fault_by_kind}

-- what a line looks at in a word: whether the statement ends there too early, whether it is word 0, and what its symbol passes
abbrev line_of : Kind → List Said → Said → Bool → Bool → ((ℕ → List ℕ → Bool) → Bool) → FrameNumber → Bool
line_of kind before item ends starts at F01 = ends || (is_kind Floating kind && at is_third)
line_of kind before item ends starts at F02 = is_kind Constants kind && (starts && is_inside before)
line_of kind before item ends starts at F03 = (is_declaring kind || is_kind Disjoint kind) && at (is_repeated item)
line_of kind before item ends starts at F04 = (is_kind Constants kind && at (as_any (is_declared before))) || (is_kind Variables kind && at (as_any (is_active_symbol before)))
line_of kind before item ends starts at F05 = is_declaring kind && at (as_any (is_label before))
line_of kind before item ends starts at F06 = starts && list_any (is_label before) (labels_of item)
line_of kind before item ends starts at F07 = starts && list_any (is_declared before) (labels_of item)
line_of kind before item ends starts at F08 = is_labelled kind && at (as_first (is_no_constant before))
line_of kind before item ends starts at F09 = (is_kind Disjoint kind && at (as_any (is_no_variable before))) || (is_kind Floating kind && at (as_second (is_no_variable before)))
line_of kind before item ends starts at F10 = is_expression kind && at (as_later (is_no_active_symbol before))
line_of kind before item ends starts at F11 = is_expression kind && at (as_later (is_untyped before))
line_of kind before item ends starts at F12 = is_kind Floating kind && at (as_second (is_typed before))
line_of kind before item ends starts at F13 = is_kind Floating kind && at (as_second (is_typed_otherwise before item))
line_of kind before item ends starts at F14 = false

-- the lowest number whose line holds
abbrev number_of : Kind → List Said → Said → Bool → Bool → ((ℕ → List ℕ → Bool) → Bool) → Option FrameNumber
number_of kind before item ends starts at = find (λ number. line_of kind before item ends starts at number) numbers

-- what is found at a word, by what is known of the word
by_word : (before : List Said) (item : Said) (word : ℕ) (ends starts : Bool) (at : (ℕ → List ℕ → Bool) → Bool)
    → (is_short item.kind (length item.symbols) && word == closing_word item) ≡ ends → (word == 0) ≡ starts
    → ((test : ℕ → List ℕ → Bool) → at_symbol test item word ≡ at test)
    → number_at before item word ≡ number_of item.kind before item ends starts at
by_word before item word ends starts at e s a = λ i. number_of item.kind before item (e i) (s i) (λ test. a test i)

-- no symbol is at a word
abbrev nothing : (ℕ → List ℕ → Bool) → Bool
nothing test = false

-- symbol n is at a word
abbrev at_name : ℕ → List ℕ → (ℕ → List ℕ → Bool) → Bool
at_name n name test = test n name

-- after the last symbol
end_of : (kind : Kind) (before : List Said) (item : Said) (ends : Bool) → number_of kind before item ends false nothing ≡ cond ends (Some F01) None
end_of kind before item true = refl
end_of kind before item false = grind (arith, common_steps) steps 200000

-- at a symbol of a `$f`, of which only the third one is one too many
abbrev third_fault : List Said → Said → ℕ → List ℕ → Option FrameNumber
third_fault before item n name = cond (n == 0) (typecode_fault before name) (cond (n == 1) (typed_fault before item name) (cond (n == 2) (Some F01) None))

third_is : (n : ℕ) (x y z w : Bool)
    → cond (n == 2) (Some F01) (cond (n == 0 && x) (Some F08) (cond (n == 1 && y) (Some F09) (cond (n == 1 && z) (Some F12) (cond (n == 1 && w) (Some F13) None)))) ≡ cond (n == 0) (cond x (Some F08) None)
    (cond (n == 1) (cond y (Some F09) (cond z (Some F12) (cond w (Some F13) None))) (cond (n == 2) (Some F01) None))
third_is (suc (suc (suc n))) x y z w = grind (arith, common_steps, ne_eqb) steps 200000
third_is _ x y z w = refl

-- at a symbol of a `$e`, `$a` or `$p`
expression_is : (n : ℕ) (x y z : Bool) → cond (n == 0 && x) (Some F08) (cond (ltb 0 n && y) (Some F10) (cond (ltb 0 n && z) (Some F11) None)) ≡ cond (n == 0) (cond x (Some F08) None) (cond y (Some F10) (cond z (Some F11) None))
expression_is zero x y z = grind (arith, common_steps) steps 200000
expression_is (suc n) x y z = grind (arith, common_steps, lt-ltb, ne_eqb) steps 200000

-- what is wrong with a symbol; only the third one of a `$f` is one too many
abbrev symbol_number : Kind → List Said → Said → ℕ → List ℕ → Option FrameNumber
symbol_number Floating before item n name = third_fault before item n name
symbol_number kind before item n name = symbol_fault_of kind before item n name

symbol_of : (kind : Kind) (before : List Said) (item : Said) (n : ℕ) (name : List ℕ) → number_of kind before item false false (at_name n name) ≡ symbol_number kind before item n name
symbol_of kind before item n name = grind (arith, common_steps, expression_is, or-false, third_is) steps 200000

-- a word that is not the closing one
not_closing : (item : Said) (word : ℕ) → (word ≡ closing_word item → ⊥) → (is_short item.kind (length item.symbols) && word == closing_word item) ≡ false
not_closing item word n = and_right (is_short item.kind (length item.symbols)) (word == closing_word item) (ne_eqb word (closing_word item) n)

-- what is found at the words of a statement
keyword_is : (before : List Said) (item : Said) (word : ℕ) → 0 < word → word < first_symbol item → number_at before item word ≡ None
keyword_is before item word l m = grind (arith, common_steps, by_word, nothing, not_closing, ne_eqb, and_left) steps 200000

end_is : (before : List Said) (item : Said) → number_at before item (closing_word item) ≡ end_fault item
end_is before item = by_word before item (closing_word item) (is_short item.kind (length item.symbols)) false nothing
    (grind (arith, common_steps, eq-eqb (closing_word item) (closing_word item) refl) steps 200000)
    (ne_eqb (closing_word item) 0 (λ e. omega arith))
    (λ test. (grind (arith, common_steps, slice_get_past item.symbols (closing_word item - first_symbol item) (omega arith), and_right) steps 200000))
    ∙ end_of item.kind before item (is_short item.kind (length item.symbols))

-- the label of a statement, of which there is one or none
abbrev is_one_at_most : {X : Type 0} → List X → Bool
is_one_at_most [] = true
is_one_at_most (x ∷ []) = true
is_one_at_most _ = false

label_is : (before : List Said) (labels : List (List ℕ)) → is_one_at_most labels ≡ true → cond (list_any (is_label before) labels) (Some F06) (cond (list_any (is_declared before) labels) (Some F07) None) ≡ labels_fault before labels
label_is before labels h = grind (arith, common_steps, false≢true, or-false) steps 200000

front_is : (before : List Said) (item : Said) → number_at before item 0 ≡ front_fault before item
front_is before item =
    (by_word before item 0 false true nothing (not_closing item 0 (λ e. omega arith)) refl (λ test. (grind (arith, common_steps, and_left) steps 200000)))
    ∙ (grind (arith, common_steps) steps 200000)
    ∙ ap (λ w. cond (is_kind Constants item.kind && is_inside before) (Some F02) w) (label_is before (labels_of item) (grind (arith, common_steps) steps 200000))

-- words at which nothing is found are passed over
pass_over : (before : List Said) (item : Said) (start gap more : ℕ) → ((word : ℕ) → start ≤ word → word < start + gap → number_at before item word ≡ None) → fault_from before item start (gap + more) ≡ fault_from before item (start + gap) more
pass_over before item start zero more h = grind (arith, common_steps) steps 200000
pass_over before item start (suc gap) more h =
    let next : suc gap + more ≡ suc (gap + more) = omega arith in
    ap (fault_from before item start) next ∙ ap (λ o. fault_or start o (fault_from before item (suc start) (gap + more)))
    (h start (omega arith) (omega arith)) ∙ pass_over before item (suc start) gap more (λ word l m. h word (omega arith) (omega arith))
    ∙ ap (λ w. fault_from before item w more) (omega arith)

-- the symbols from one on, and the word after them
from_symbol : (before : List Said) (item : Said) (test : ℕ → List ℕ → Option FrameNumber) (word n : ℕ) (symbols : List (List ℕ)) → ((k : ℕ) (name : List ℕ) → slice_get symbols k ≡ Some name → number_at before item (word + k) ≡ test (n + k) name)
    → fault_from before item word (length symbols + 1) ≡ option_or (first_fault test word n symbols) (fault_or (word + length symbols) (number_at before item (word + length symbols)) None)
from_symbol before item test word n [] h = ap (λ w. fault_or w (number_at before item w) None) (omega arith)
from_symbol before item test word n (name ∷ symbols) h =
    let e : length (name ∷ symbols) + 1 ≡ suc (length symbols + 1) = omega arith in
    let i = from_symbol before item test (suc word) (suc n) symbols (λ k other g. ap (number_at before item) (omega arith) ∙ h (suc k) other g ∙ ap (λ w. test w other) (omega arith)) in
    let f : number_at before item word ≡ test n name = ap (number_at before item) (omega arith) ∙ h 0 name refl ∙ ap (λ w. test w name) (omega arith) in
    ap (fault_from before item word) e ∙ (λ j. fault_or word (f j) (i j)) ∙ joined (test n name) word (first_fault test (suc word) (suc n) symbols) (fault_or (suc word + length symbols) (number_at before item (suc word + length symbols)) None)
    ∙ ap (λ w. option_or (first_fault test word n (name ∷ symbols)) (fault_or w (number_at before item w) None)) (omega arith) where
      joined : (o : Option FrameNumber) (w : ℕ) (a b : Option (ℕ × FrameNumber)) → fault_or w o (option_or a b) ≡ option_or (fault_or w o a) b
      joined None w a b = refl
      joined (Some m) w a b = refl

-- after a third symbol of a `$f` nothing is looked at
third_first : (before : List Said) (item : Said) (word : ℕ) (symbols : List (List ℕ)) → first_fault (third_fault before item) word 0 symbols ≡ first_fault (floating_fault before item) word 0 symbols
third_first before item word (x ∷ y ∷ z ∷ symbols) = refl
third_first before item word _ = refl

number_first : (kind : Kind) (before : List Said) (item : Said) (word : ℕ) (symbols : List (List ℕ)) → first_fault (symbol_number kind before item) word 0 symbols ≡ first_fault (symbol_fault_of kind before item) word 0 symbols
number_first Floating before item word symbols = third_first before item word symbols
number_first _ before item word symbols = refl

-- the fault of a statement is the one that is read from left to right
pub fault_is : (before : List Said) (item : Said) → fault before item ≡ fault_by_kind before item
fault_is before item =
    let count : closing_word item + 1 ≡ suc (length (labels_of item) + (length item.symbols + 1)) = omega arith in
    let there : 1 + length (labels_of item) ≡ first_symbol item = omega arith in
    let words = pass_over before item 1 (length (labels_of item)) (length item.symbols + 1) (λ word l m. keyword_is before item word (omega arith) (omega arith)) ∙ ap (λ w. fault_from before item w (length item.symbols + 1)) there in
    let symbols =
    from_symbol before item (symbol_number item.kind before item) (first_symbol item) 0 item.symbols
    (λ k name g. (let l = slice_get_within item.symbols k name g in
    by_word before item (first_symbol item + k) false false (at_name k name) (not_closing item (first_symbol item + k) (λ e. omega arith))
    (ne_eqb (first_symbol item + k) 0 (λ e. omega arith)) (λ test. (grind (arith, common_steps, le-leb) steps 200000)) ∙ symbol_of item.kind before item k name)
    ∙ ap (λ w. symbol_number item.kind before item w name) (omega arith)) in
    let ended : option_or (first_fault (symbol_number item.kind before item) (first_symbol item) 0 item.symbols) (fault_or (closing_word item) (number_at before item (closing_word item)) None) ≡ option_or (symbols_fault before item)
    (fault_or (closing_word item) (end_fault item) None) = λ i. option_or (number_first item.kind before item (first_symbol item) item.symbols i) (fault_or (closing_word item) (end_is before item i) None) in
    ap (fault_from before item 0) count ∙ (λ i. fault_or 0 (front_is before item i) ((words ∙ symbols ∙ ended) i))

-- what code over the symbols by their numbers takes
pub first_fault_at : (test : ℕ → List ℕ → Option FrameNumber) (word n k : ℕ) (name : List ℕ) (symbols : List (List ℕ)) → slice_get symbols k ≡ Some name
    → first_fault test word n (drop k symbols) ≡ fault_or word (test n name) (first_fault test (suc word) (suc n) (drop (suc k) symbols))
first_fault_at test word n k name [] g = cc
first_fault_at test word n zero name (x ∷ symbols) g = let e : x ≡ name = cc in ap (λ w. fault_or word (test n w) (first_fault test (suc word) (suc n) symbols)) e
first_fault_at test word n (suc k) name (x ∷ symbols) g = first_fault_at test word n k name symbols g
