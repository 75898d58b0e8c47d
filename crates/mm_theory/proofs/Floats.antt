-- The typecode that a `$f` gives to its variable is the one that the system of the database has for it.
use Rattle.std.proofs.lemmas.{Grind.{common_steps}, Bool.{false≢true, and_from, and_parts}, Slice.Eq.{bytes_eq-Decides}}
use Rattle.std.{proofs.Common.{◌≡◌, ℕ, zero, suc, Bool, true, false, ◌&&◌, cond, Option, Some, List, [], ◌∷◌, refl, sym, ap, ◌∙◌, arith, bytes_eq, slice_get}, specs.Option.{option_map, option_or}}
use Rattle.mm_frame.specs.{mm_machine.Language.Frame.{Symbol}, mm_statement.Language.Item.{Kind, Said, is_kind, Floating, is_labelled, variable_of, typecode_of}, Language.Sound.{sound_items}}
use Rattle.mm_frame.specs.Language.{Base.{BaseView, said_at, hypothesis_at, is_shown_at}, Laws.{is_float_at}}
use Rattle.mm_theory.{specs.Language.Databases.{declared_typecode, typecode_in, constant, system_of}, proofs.Known.{KnownStatements}}

-- a typecode that each `$f` of a variable gives is the one that is found
declared_cases : (b c : Bool) (t u : List ℕ) (rest : Option (List ℕ)) → (b ≡ true → c ≡ true → t ≡ u) → ((b && c) ≡ false → rest ≡ Some u) → cond (b && c) (Some t) rest ≡ Some u
declared_cases true true t u rest f g = ap Some (f refl refl)
declared_cases true false t u rest f g = g refl
declared_cases false c t u rest f g = g refl

abbrev AllGive : List Said → List ℕ → List ℕ → Type 0
AllGive items name code = (n : ℕ) (item : Said) → slice_get items n ≡ Some item → is_kind Floating item.kind ≡ true → variable_of item ≡ name → typecode_of item ≡ code

declared : (items : List Said) (name code : List ℕ) → AllGive items name code → (n : ℕ) (f : Said) → slice_get items n ≡ Some f → is_kind Floating f.kind ≡ true → variable_of f ≡ name
    → declared_typecode items name ≡ Some code
declared [] name code all n f there floating is = cc
declared (item ∷ items) name code all n f there floating is =
    declared_cases (is_kind Floating item.kind) (bytes_eq (variable_of item) name) (typecode_of item) code (declared_typecode items name)
    (λ b c. all 0 item refl b ((bytes_eq-Decides (variable_of item) name).0 c))
    (by_number n there (λ m e. declared items name code (λ k. all (suc k)) m f e floating is))
  where
    by_number : (n : ℕ) → slice_get (item ∷ items) n ≡ Some f → ((m : ℕ) → slice_get items m ≡ Some f → declared_typecode items name ≡ Some code)
        → (is_kind Floating item.kind && bytes_eq (variable_of item) name) ≡ false → declared_typecode items name ≡ Some code
    by_number zero e later other =
        let same : item ≡ f = cc in
        absurd (false≢true (sym other ∙ and_from (is_kind Floating item.kind) (bytes_eq (variable_of item) name) (ap (λ (i : Said). is_kind Floating i.kind) same ∙ floating)
        ((bytes_eq-Decides (variable_of item) name).1 (ap variable_of same ∙ is))))
    by_number (suc m) e later other = later m e

declared_first : (items : List Said) (name code : List ℕ) → declared_typecode items name ≡ Some code → typecode_in items name ≡ Some code
declared_first items [] code e = e
declared_first items (n ∷ name) code e = ap (λ x. option_or x (typecode_in items name)) e

floating_labelled : (kind : Kind) → is_kind Floating kind ≡ true → is_labelled kind ≡ true
floating_labelled kind t = grind (arith, common_steps) steps 200000

-- the expression is a typecode and a variable that has it
pub record IsTypingOf (base : BaseView) (axioms : List ℕ) (e : List Symbol) : Type 0 where
  pub c : Symbol
  pub v : Symbol
  pub is : e ≡ c ∷ v ∷ []
  pub typed : (system_of base axioms).typecode v ≡ Some c

module _ (known : KnownStatements) (base : BaseView) where
  all_give : (n : ℕ) → is_float_at base n ≡ true → AllGive (sound_items base) (variable_of (said_at base n)) (typecode_of (said_at base n))
  all_give n is m item there floating same =
      let s = (known.stand base m item (floating_labelled item.kind floating)).0 there in
      let also = and_from (is_shown_at base m) (is_kind Floating (said_at base m).kind) s.0 (ap (λ (i : Said). is_kind Floating i.kind) s.1 ∙ floating) in
      sym (ap typecode_of s.1) ∙ known.agree base m n also is (ap variable_of s.1 ∙ same)

  float_typed : (n : ℕ) → is_float_at base n ≡ true → typecode_in (sound_items base) (variable_of (said_at base n)) ≡ Some (typecode_of (said_at base n))
  float_typed n is =
      let f = said_at base n in
      let kinds = and_parts (is_shown_at base n) (is_kind Floating f.kind) is in
      let there = (known.stand base n f (floating_labelled f.kind kinds.1)).1 (kinds.0, refl) in
      declared_first (sound_items base) (variable_of f) (typecode_of f) (declared (sound_items base) (variable_of f) (typecode_of f) (all_give n is) n f there kinds.1 refl)

  pub float_is : (axioms : List ℕ) (n : ℕ) → is_float_at base n ≡ true → IsTypingOf base axioms (hypothesis_at base n).expression
  float_is axioms n is = record {
    c = constant (typecode_of (said_at base n));
    v = record { name = variable_of (said_at base n); variable = true };
    is = known.read base n is;
    typed = ap (option_map constant) (float_typed n is);
  }
