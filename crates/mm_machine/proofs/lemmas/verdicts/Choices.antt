-- What can be decided: equal symbols, some element, some pair.
use Rattle.std.proofs.{lemmas.Grind.{common_steps}, Common.{◌≡◌, ◌≢◌, true, List, [], ◌∷◌, refl, sym, ap, subst, arith, inl, inr, ◌⊎◌, Contains, Any}, Math.Decide.{map_dec}}
use native.Mathlib.Decide.{ℕ_discrete}
use mathlib.Core.{Bool.{Bool-discrete}, List.{List-discrete}}
use Rattle.mm_machine.specs.Language.{Frame.{Symbol, ArePair}, Derivation.{AreApart, ShareVariable}, Faults.{AnyZip, LackPair}}
use Rattle.mm_machine.proofs.lemmas.lists.Members.{contains_cases, contains_there, Contains-here}

pub both_of : {P Q : Type 0} → Dec P → Dec Q → Dec (P × Q)
both_of (yes p) (yes q) = yes (p, q)
both_of (yes p) (no q) = no (λ b. q b.1)
both_of (no p) d = no (λ b. p b.0)

pub either_of : {P Q : Type 0} → Dec P → Dec Q → Dec (P ⊎ Q)
either_of (yes p) d = yes (inl p)
either_of (no p) (yes q) = yes (inr q)
either_of (no p) (no q) = no (λ s. elim s [ inl x ↦ p x | inr y ↦ q y ])

pub not_of : {P : Type 0} → Dec P → Dec (P → ⊥)
not_of h = grind (arith, common_steps) steps 200000

pub symbol_discrete : (x y : Symbol) → Dec (x ≡ y)
symbol_discrete x y = map_dec (λ b. λ i. record { name = b.0 i; variable = b.1 i }) (λ e. (ap (λ (s : Symbol). s.name) e, ap (λ (s : Symbol). s.variable) e)) (both_of (List-discrete ℕ_discrete x.name y.name) (Bool-discrete x.variable y.variable))

pub expression_discrete : (x y : List Symbol) → Dec (x ≡ y)
expression_discrete = List-discrete symbol_discrete

-- some element of which this is said
pub dec_some : {X : Type 0} {P : X → Type 0} → ((x : X) → Dec (P x)) → (xs : List X) → Dec ((x : X) × Contains xs x × P x)
dec_some d [] = no (λ s. absurd (omega arith))
dec_some {P = P} d (x ∷ xs) = elim (d x) [
  | yes p ↦ yes (x, Contains-here x xs, p)
  | no p ↦ elim (dec_some d xs) [
    | yes s ↦ yes (s.0, contains_there x xs s.0 s.1, s.2)
    | no n ↦ no (λ s. elim (contains_cases x xs s.0 s.1) [ inl e ↦ p (subst P (sym e) s.2) | inr c ↦ n (s.0, c, s.2) ])
  ]
]

pub dec_any : {X : Type 0} {P : X → Type 0} → ((x : X) → Dec (P x)) → (xs : List X) → Dec (Any P xs)
dec_any d xs = map_dec (λ s. (s.1.0, s.0, s.1.1, s.1.2, s.2)) (λ a. (a.1, (a.0, a.2, a.3), a.4)) (dec_some d xs)

pub dec_any_zip : {A B : Type 0} {R : A → B → Type 0} → ((x : A) (y : B) → Dec (R x y)) → (xs : List A) (ys : List B) → Dec (AnyZip R xs ys)
dec_any_zip d (x ∷ xs) (y ∷ ys) = either_of (d x y) (dec_any_zip d xs ys)
dec_any_zip d _ _ = no (λ a. a)

pub dec_contains : (pairs : List (Symbol × Symbol)) (x y : Symbol) → Dec (Contains pairs (x, y))
dec_contains pairs x y = map_dec (λ s. subst (λ p. Contains pairs p) (λ i. (s.2.0 i, s.2.1 i)) s.1) (λ c. ((x, y), c, (refl, refl)))
    (dec_some {P = λ (p : Symbol × Symbol). (p.0 ≡ x) × (p.1 ≡ y)} (λ p. both_of (symbol_discrete p.0 x) (symbol_discrete p.1 y)) pairs)

pub dec_pair : (pairs : List (Symbol × Symbol)) (x y : Symbol) → Dec (ArePair pairs x y)
dec_pair pairs x y = either_of (dec_contains pairs x y) (dec_contains pairs y x)

dec_variable : (x : Symbol) → Dec (x.variable ≡ true)
dec_variable x = Bool-discrete x.variable true

dec_member : (xs : List Symbol) (x : Symbol) → Dec (Contains xs x)
dec_member xs x = map_dec (λ s. subst (λ w. Contains xs w) s.2 s.1) (λ c. (x, c, refl)) (dec_some {P = λ w. w ≡ x} (λ w. symbol_discrete w x) xs)

pub dec_share : (xs ys : List Symbol) → Dec (ShareVariable xs ys)
dec_share xs ys = map_dec (λ s. (s.0, (s.1, s.2.0), (s.2.1, s.2.0))) (λ s. (s.0, s.1.0, (s.1.1, s.2.0))) (dec_some {P = λ x. (x.variable ≡ true) × Contains ys x} (λ x. both_of (dec_variable x) (dec_member ys x)) xs)

pub dec_lack : (active : List (Symbol × Symbol)) (xs ys : List Symbol) → Dec (LackPair active xs ys)
dec_lack active xs ys =
    map_dec
    (λ s. (s.0, s.2.1.0, (s.1, s.2.0), (s.2.1.1, s.2.1.2.0), s.2.1.2.1.0, s.2.1.2.1.1))
    (λ l. (l.0, l.2.0, (l.2.1, (l.1, l.3.0, (l.3.1, (l.4, l.5))))))
    (dec_some {P = λ x. (x.variable ≡ true) × ((y : Symbol) × Contains ys y × ((y.variable ≡ true) × ((x ≢ y) × (ArePair active x y → ⊥))))}
    (λ x. both_of (dec_variable x) (dec_some {P = λ y. (y.variable ≡ true) × ((x ≢ y) × (ArePair active x y → ⊥))} (λ y. both_of (dec_variable y) (both_of (not_of (symbol_discrete x y)) (not_of (dec_pair active x y)))) ys)) xs)

-- if they share none and lack none, they are apart
pub are_apart : (active : List (Symbol × Symbol)) (xs ys : List Symbol) → (ShareVariable xs ys → ⊥) → (LackPair active xs ys → ⊥) → AreApart active xs ys
are_apart active xs ys share lack =
    record { unshared = share; paired = λ x y a b n. elim (dec_pair active x y) [ yes p ↦ p | no m ↦ absurd (lack (x, y, a, b, n, m)) ] }
