-- Variables without end: copies of the variables of a database, by a number in front of their names.
use Rattle.std.proofs.lemmas.{Option.{same_Some}, Slice.Eq.{bytes_eq-Decides}}
use Rattle.std.proofs.Common.{◌≡◌, ℕ, suc, ◌+◌, ◌<◌, ◌≤◌, Bool, true, false, ◌&&◌, cond, Option, Some, None, List, [], ◌∷◌, map, drop, refl, sym, ap, ◌∙◌, inl, inr, arith, Contains, bytes_eq}
use Rattle.std.specs.Option.{option_map, option_or}
use Rattle.mm_frame.specs.{mm_machine.Language.Frame.{Symbol}, mm_statement.Language.Item.{Said, is_kind, Floating, variable_of, typecode_of}, Language.{Sound.{sound_items}, Base.{BaseView}}}
use Rattle.mm_theory.{specs.Language.{System.{IsFresh, IsSystem}, Databases.{declared_typecode, typecode_in, constant, typecode_if, system_of}}, proofs.Members.{none, first_or_later, in_map}}

abbrev head_of : List ℕ → ℕ
head_of [] = 0
head_of (n ∷ name) = n

-- a number above the first of each name
abbrev bound : List (List ℕ) → ℕ
bound [] = 0
bound (name ∷ names) = suc (head_of name) + bound names

below : (names : List (List ℕ)) (name : List ℕ) → Contains names name → head_of name < bound names
below [] name c = absurd (none name c)
below (n ∷ names) name c = elim (first_or_later n names name c) [
  | inl e ↦ (let q = ap head_of e in omega arith)
  | inr h ↦ (let r = below names name h in omega arith)
]

declared_not : (b c : Bool) (t : List ℕ) (rest : Option (List ℕ)) → c ≡ false → rest ≡ None → cond (b && c) (Some t) rest ≡ None
declared_not true c t rest n r = ap (λ x. cond x (Some t) rest) n ∙ r
declared_not false c t rest n r = r

not_equal : (x y : List ℕ) (b : Bool) → bytes_eq x y ≡ b → (x ≡ y → ⊥) → bytes_eq x y ≡ false
not_equal x y true e n = absurd (n ((bytes_eq-Decides x y).0 e))
not_equal x y false e n = e

undeclared : (items : List Said) (n : ℕ) (name : List ℕ) → bound (map variable_of items) ≤ n → declared_typecode items (n ∷ name) ≡ None
undeclared [] n name l = refl
undeclared (item ∷ items) n name l = declared_not (is_kind Floating item.kind) (bytes_eq (variable_of item) (n ∷ name)) (typecode_of item) (declared_typecode items (n ∷ name))
    (not_equal (variable_of item) (n ∷ name) _ refl (λ e. (let q = ap head_of e in omega arith)))
    (undeclared items n name (omega arith))

-- a copy has the typecode of what it is a copy of
copied : (items : List Said) (n : ℕ) (name : List ℕ) → bound (map variable_of items) ≤ n → typecode_in items (n ∷ name) ≡ typecode_in items name
copied items n name l = ap (λ x. option_or x (typecode_in items name)) (undeclared items n name l)

if_typed : (b : Bool) (found : Option (List ℕ)) (c : Symbol) → typecode_if b found ≡ Some c → (b ≡ true) × (c.variable ≡ false) × (option_map constant found ≡ Some c)
if_typed true (Some name) c e = (refl, ap (λ (s : Symbol). s.variable) (sym (same_Some (constant name) c e)), e)
if_typed true None c e = absurd (cc)
if_typed false found c e = absurd (cc)

module _ (base : BaseView) (axioms : List ℕ) where
  abbrev items : List Said
  items = sound_items base

  abbrev number : List Symbol → ℕ
  number taken = bound (map variable_of (items)) + bound (map (λ (s : Symbol). s.name) taken)

  abbrev copy : List Symbol → Symbol → Symbol
  copy taken v = record { name = number taken ∷ v.name; variable = true }

  same_variable : (v w : Symbol) → v.variable ≡ true → w.variable ≡ true → v.name ≡ w.name → v ≡ w
  same_variable v w a b e = let q = a ∙ sym b in λ i. record { name = e i; variable = q i }

  fresh : (taken : List Symbol) → IsFresh (system_of base axioms) taken (copy taken)
  fresh taken = record {
    variable = λ v. refl;
    one_to_one = λ v w a b e. same_variable v w a b (ap (λ (s : Symbol). drop 1 s.name) e);
    keeps_types = λ c v e. (let t = if_typed v.variable (typecode_in (items) v.name) c e in
        ap (option_map constant) (copied (items) (number taken) v.name (omega arith)) ∙ t.2);
    outside = λ v c. (let l = below (map (λ (s : Symbol). s.name) taken) (number taken ∷ v.name) (in_map (λ (s : Symbol). s.name) taken (copy taken v) c) in omega arith);
  }

  pub is_system : IsSystem (system_of base axioms)
  is_system = record {
    typing = λ c v e. (let t = if_typed v.variable (typecode_in (items) v.name) c e in (t.1, t.0));
    endless = λ taken. (copy taken, fresh taken);
  }
