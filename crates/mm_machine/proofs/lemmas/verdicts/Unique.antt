-- One label at the end of a join, and that a list derives at most one expression.
use Rattle.std.proofs.lemmas.{Grind.{elements, common_steps}, List.{append-nil, same_from_push, length-map, take_at, drop_at, Elements.{Contains-append_right}}}
use Rattle.std.{proofs.Common.{rules, ◌≡◌, ℕ, zero, suc, ◌≤◌, true, false, List, ◌∷◌, ◌++◌, length, map, refl, sym, ap, arith, length-append, take, ◌-◌, []}, specs.List.{AllZip}}
use Rattle.mm_machine.specs.Language.{Frame.{Symbol, Mandatory, Frame, LabelMeaning, Hypothesis, Assertion, Inactive, Unknown, Setting, HasVariable}, Substitution.{substituted, replacement}}
use Rattle.mm_machine.specs.Language.{Derivation.{Derives, DeriveInOrder, by_hypothesis, by_assertion, nothing, first_then}, Typing.{IsTyped, IsFrame, HasFrames}, Steps.{Cites, Moves}}
use Rattle.mm_machine.{specs.Language.Faults.{last_entries}, proofs.lemmas.{lists.{Members.{contains_get}, Zips.{zip_at}}, verdicts.Joins.{join, alone, cut}}}

-- a label goes on from a join
pub go_on : {place : Setting} {labels : List (List ℕ)} {stack next : List (List Symbol)} (label : List ℕ) (r : LabelMeaning) → place.resolve label ≡ r
    → DeriveInOrder place labels stack → Moves place.active r stack next → DeriveInOrder place (labels ++ label ∷ []) next
go_on {place} {labels} label (Hypothesis e) is d m = grind (arith, common_steps, join d (alone (by_hypothesis is))) steps 200000
go_on {place} {labels} {stack} label (Assertion frame) is d m =
    grind (arith, common_steps, cut m.below m.entries stack d m.before, join (cut m.below m.entries stack d m.before).of_front (alone (by_assertion (cut m.below m.entries stack d m.before).of_back is m.takes))) steps 200000
go_on label Inactive is d m = absurd m
go_on label Unknown is d m = absurd m

-- the last label of a join that is not empty
pub record LastLabel (place : Setting) (all : List (List ℕ)) (next : List (List Symbol)) : Type 0 where
  pub labels : List (List ℕ)
  pub label : List ℕ
  pub stack : List (List Symbol)
  pub whole : all ≡ labels ++ label ∷ []
  pub of_labels : DeriveInOrder place labels stack
  pub moves : Moves place.active (place.resolve label) stack next

-- an entry below changes nothing
pub under : (active : List (Symbol × Symbol)) (e : List Symbol) (r : LabelMeaning) (stack next : List (List Symbol)) → Moves active r stack next → Moves active r (e ∷ stack) (e ∷ next)
under active e (Hypothesis h) stack next m = ap (λ s. e ∷ s) m
under active e (Assertion frame) stack next m = record { below = e ∷ m.below; entries = m.entries; result = m.result; given = m.given; before = ap (λ s. e ∷ s) m.before; takes = m.takes; after = ap (λ s. e ∷ s) m.after }
under active e _ stack next m = m

-- what its last label did to make a list derive
last_of_one : {place : Setting} {all : List (List ℕ)} {e : List Symbol} → Derives place all e → LastLabel place all (e ∷ [])
last_of_one {place} {e = e} (by_hypothesis {label = label} is) =
    record { labels = []; label = label; stack = []; whole = refl; of_labels = nothing; moves = rw is refl }
last_of_one {place} {e = e} (by_assertion {labels = labels} {label = label} {frame = frame} {given = given} {entries = entries} d is t) =
    record { labels = labels; label = label; stack = entries; whole = refl; of_labels = d; moves = rw is (record { below = []; entries = entries; result = e; given = given; before = refl; takes = t; after = refl }) }

pub last_label : {place : Setting} {first rest : List (List ℕ)} {e : List Symbol} {es : List (List Symbol)} → Derives place first e → DeriveInOrder place rest es → LastLabel place (first ++ rest) (e ∷ es)
last_label {place} {first} {e = e} h nothing = rw append-nil (last_of_one h)
last_label {place} {first} {e = e} h (first_then {first = f} {rest = r} {e = x} {es = xs} h' t) =
    let l = last_label h' t in
    record {
      labels = first ++ l.labels;
      label = l.label;
      stack = e ∷ l.stack;
      whole = grind (arith, common_steps) steps 200000;
      of_labels = first_then h l.of_labels;
      moves = under place.active e (place.resolve l.label) l.stack
          (x ∷ xs) l.moves;
    }

-- what takes the place of a variable, and of a constant
pub replacement-variable : (f : Symbol → List Symbol) (s : Symbol) → s.variable ≡ true → replacement f s ≡ f s
replacement-variable f s e = rw e refl

pub replacement-constant : (f : Symbol → List Symbol) (s : Symbol) → s.variable ≡ false → replacement f s ≡ s ∷ []
replacement-constant f s e = rw e refl

-- the expression of a `$f`
pub substituted-typing : (f : Symbol → List Symbol) (c v : Symbol) → c.variable ≡ false → v.variable ≡ true → substituted f (c ∷ v ∷ []) ≡ c ∷ f v
substituted-typing f c v constant variable = grind (arith, common_steps, replacement-constant f c constant, replacement-variable f v variable, append-nil (replacement f v)) steps 200000

-- substitutions by which each mandatory `$f` gives its entry agree on each typed variable
abbrev pub FloatsMatch : (Symbol → List Symbol) → List Mandatory → List (List Symbol) → Type 0
FloatsMatch given hs es = AllZip (λ h e. h.floating ≡ true → substituted given h.expression ≡ e) hs es

pub agree : (f g : Symbol → List Symbol) (hs : List Mandatory) (es : List (List Symbol)) (v : Symbol) → FloatsMatch f hs es → FloatsMatch g hs es → v.variable ≡ true → IsTyped hs v → f v ≡ g v
agree f g hs es v a b is t = grind (arith, elements, contains_get, substituted-typing, zip_at) steps 200000

-- substitutions that agree on an expression's variables give the same
pub same_substituted : (f g : Symbol → List Symbol) (e : List Symbol) → ((v : Symbol) → HasVariable e v → f v ≡ g v) → substituted f e ≡ substituted g e
same_substituted f g [] h = refl
same_substituted f g (s ∷ e) h =
    grind (arith, common_steps, same_substituted f g e (λ v w. h v (Contains-append_right (s ∷ []) e v w.0, w.1)), replacement-constant, replacement-variable) steps 200000

-- what a citation takes, and what it leaves
pub parts_are : (active : List (Symbol × Symbol)) (frame : Frame) (stack next : List (List Symbol)) → (m : Cites active frame stack next) →
    (take (length stack - length frame.hypotheses) stack ≡ m.below) × (last_entries frame stack ≡ m.entries)
parts_are active frame stack next m = grind (arith, common_steps, take_at, drop_at, length-append, length-map) steps 200000

own_floats : (f : Symbol → List Symbol) (hs : List Mandatory) → FloatsMatch f hs (map (λ h. substituted f h.expression) hs)
own_floats f [] = tt
own_floats f (h ∷ hs) = (λ _. refl, own_floats f hs)

pub floats_of : (active : List (Symbol × Symbol)) (frame : Frame) (stack next : List (List Symbol)) → (m : Cites active frame stack next) →
    FloatsMatch m.given frame.hypotheses (last_entries frame stack)
floats_of active frame stack next m = grind (arith, common_steps, own_floats, parts_are, stack) steps 200000

-- citing a frame gives one result
pub same_result : (active : List (Symbol × Symbol)) (frame : Frame) (stack next next' : List (List Symbol)) → IsFrame frame → Cites active frame stack next → Cites active frame stack next' → next ≡ next'
same_result active frame stack next next' is m n =
    let a = parts_are active frame stack next m in
    let b = parts_are active frame stack next' n in
    let s = same_substituted m.given n.given frame.expression (λ v w.
    agree m.given n.given frame.hypotheses (last_entries frame stack) v (floats_of active frame stack next m) (floats_of active frame stack next' n) w.1
    (is.expression_typed v w)) in
    cc

-- a join of no labels is of no expressions
pub no_labels : {place : Setting} {labels : List (List ℕ)} (stack : List (List Symbol)) → DeriveInOrder place labels stack → labels ≡ [] → stack ≡ []
no_labels [] d e = refl
no_labels {place} (x ∷ xs) (first_then {first = first} {rest = rest} h t) e =
    grind (arith, common_steps, last_label h t, length-append (last_label h t).labels ((last_label h t).label ∷ [])) steps 200000

pub last_of : {place : Setting} {labels : List (List ℕ)} {x : List Symbol} {xs : List (List Symbol)} → DeriveInOrder place labels (x ∷ xs) → LastLabel place labels (x ∷ xs)
last_of (first_then h t) = last_label h t

-- one stack, given that the labels before the last reach one stack
same_by_last : (place : Setting) → HasFrames place → {a b : List (List ℕ)} {xs ys : List (List Symbol)} → a ≡ b → (l : LastLabel place a xs) → (m : LastLabel place b ys) → (l.labels ≡ m.labels → l.stack ≡ m.stack) → xs ≡ ys
same_by_last place is {xs = xs} {ys = ys} e l m same = search (rules, same_from_push, same_result)

-- a list is a join in at most one way
pub same_stack : (place : Setting) → HasFrames place → (n : ℕ) {a b : List (List ℕ)} (xs ys : List (List Symbol)) → length a ≤ n → a ≡ b → DeriveInOrder place a xs → DeriveInOrder place b ys → xs ≡ ys
same_stack place is n [] ys bound e nothing d' = sym (no_labels ys d' (sym e))
same_stack place is n (x ∷ xs) [] bound e d nothing = absurd (let f = no_labels (x ∷ xs) d e in (cc))
same_stack place is zero (x ∷ xs) (y ∷ ys) bound e d d' = grind (arith, common_steps, last_of d, length-append (last_of d).labels ((last_of d).label ∷ [])) steps 200000
same_stack place is (suc n) (x ∷ xs) (y ∷ ys) bound e d d' =
    let l = last_of d in
    let m = last_of d' in
    let s = ap length l.whole in
    same_by_last place is e l m (λ f. same_stack place is n l.stack m.stack (omega (arith, length-append l.labels (l.label ∷ []))) f l.of_labels m.of_labels)

-- a list derives at most one expression
pub same_derived : (place : Setting) → HasFrames place → (labels : List (List ℕ)) (e f : List Symbol) → Derives place labels e → Derives place labels f → e ≡ f
same_derived place is labels e f d d' = grind (arith, common_steps, same_stack place is (length labels) (e ∷ []) (f ∷ []) (omega arith) refl (alone d) (alone d')) steps 200000
