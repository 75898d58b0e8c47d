-- What is reached by some steps was reached by fewer.
use Rattle.std.proofs.lemmas.{Grind.{common_steps}, List.{append-nil, same_from_push, take-take, take-append-drop}}
use Rattle.std.proofs.Common.{◌≡◌, ℕ, zero, suc, ◌≤◌, Some, List, ◌∷◌, ◌++◌, length, take, drop, refl, sym, ◌∙◌, ap, subst, append_assoc, arith, length-append, [], None, Option}
use Rattle.mm_machine.specs.Language.{Frame.{Symbol, Setting}, Derivation.{DeriveInOrder}, Expansion.{Step, Expanded, expand_one, expand_from}, Reaches.{Reaches}}
use Rattle.mm_machine.proofs.lemmas.{verdicts.Unique.{last_of}, machine.Reaching.{no_stack}, lists.Members.{last_element}}

-- the front of a join is a join
pub front_of : (place : Setting) (n : ℕ) {all : List (List ℕ)} (a b : List (List ℕ)) (next : List (List Symbol)) → length b ≤ n → all ≡ a ++ b → DeriveInOrder place all next → (stack : List (List Symbol)) × DeriveInOrder place a stack
front_of place n a [] next bound e d = (next, subst (λ l. DeriveInOrder place l next) (e ∙ append-nil a) d)
front_of place n a (x ∷ b) [] bound e d = let f = ap length (sym e ∙ no_stack d refl) in absurd (omega (arith, length-append a (x ∷ b)))
front_of place zero a (x ∷ b) (y ∷ ys) bound e d = absurd (omega arith)
front_of place (suc n) a (x ∷ b) (y ∷ ys) bound e d =
    let l = last_of d in
    let z = last_element x b in
    let s = same_from_push l.labels (a ++ z.0) l.label z.1 (sym l.whole ∙ e ∙ ap (λ w. a ++ w) z.2 ∙ sym (append_assoc a z.0 (z.1 ∷ []))) in
    let f = ap length z.2 in
    front_of place n a z.0 l.stack (omega (arith, length-append z.0 (z.1 ∷ []))) s.0 l.of_labels

-- what goes on has gone on before, and only adds labels
expand_split : (place : Setting) (so_far : Option Expanded) (x : Expanded) (a b : List Step) → expand_from place so_far (a ++ b) ≡ Some x →
    (y : Expanded) × (expand_from place so_far a ≡ Some y) × (expand_from place (Some y) b ≡ Some x)
expand_split place (Some s) x [] b e = (s, refl, e)
expand_split place (Some s) x (y ∷ a) b e = expand_split place (expand_one place s y) x a b e
expand_split place None x [] [] e = cc
expand_split place None x _ _ e = cc

grows : (place : Setting) (s x : Expanded) (steps : List Step) → expand_from place (Some s) steps ≡ Some x →
    (more : List (List ℕ)) × (x.labels ≡ s.labels ++ more)
grows place s x [] e = grind (arith, common_steps, append-nil s.labels) steps 200000
grows place s x (step ∷ steps) e =
    let y = expand_split place (Some s) x (step ∷ []) steps e in
    let more : (m : List (List ℕ)) × (y.0.labels ≡ s.labels ++ m) = grind (arith, common_steps, append-nil s.labels) steps 200000 in
    let rest = grows place y.0 x steps y.2 in
    (more.0 ++ rest.0, rest.1 ∙ ap (λ w. w ++ rest.0) more.1 ∙ append_assoc s.labels more.0 rest.0)

-- what was reached before
pub reached_front : (place : Setting) (a b : List Step) (next : List (List Symbol)) → Reaches place (a ++ b) next →
    (stack : List (List Symbol)) × Reaches place a stack
reached_front place a b next r =
    let y = expand_split place (Some (record { labels = []; saved = [] })) r.expanded a b r.expands in
    let g = grows place y.0 r.expanded b y.2 in
    let f = front_of place (length g.0) y.0.labels g.0 next (omega arith) g.1 r.in_order in
    (f.0, record { expanded = y.0; expands = y.1; in_order = f.1 })

pub reached_earlier : (place : Setting) (steps : List Step) (n m : ℕ) (next : List (List Symbol)) → n ≤ m → Reaches place (take m steps) next → (stack : List (List Symbol)) × Reaches place (take n steps) stack
reached_earlier place steps n m next h r =
    let whole = sym (take-append-drop n (take m steps)) in
    let f = reached_front place (take n (take m steps)) (drop n (take m steps)) next (subst (λ l. Reaches place l next) whole r) in
    (f.0, subst (λ l. Reaches place l f.0) (take-take n m steps h) f.1)
