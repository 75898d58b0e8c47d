-- What the tables of names and labels keep, and what one more item makes of what is declared.
use Rattle.std.proofs.Common.{append-nil, ◌≡◌, ℕ, suc, ◌<◌, ◌≤◌, Bool, true, false, cond, ◌&&◌, ◌||◌, Option, Some, None, List, [], ◌∷◌, ◌++◌, length, take, is_some, option_to_list, take_all, get_or}
use Rattle.std.proofs.{Common.{nat_eq, bytes_eq, refl, sym, ◌∙◌, ap, subst, ◌⊎◌, arith}, lemmas.{Grind.{flat_map-append, common_steps}, Bool.{ltb-true, false≢true, false_from_ne_true, and_parts}}}
use Rattle.std.proofs.{lemmas.{Bool.Decides.{eqb_tells}, Option.{same_Some}, List.Folds.{list_any-append}, Slice.Eq.{bytes_eq-Decides}}, Math.{Seq.{take-suc}, Bool.{or-false}}}
use Rattle.std.specs.Cmp.Lexicographic.{nat_list_eq_equiv}
use Rattle.mm_frame.proofs.lemmas.scope.{Facts.{sound_front, float_variable, float_two}, ActiveBySplit.{active_in}}
use Rattle.mm_frame.proofs.lemmas.scope.TableLemmas.{last_where_next, last_cases, last_none, Last, variable_last, constant_or_variable, float_second, typed_by as types_it}
use Rattle.mm_frame.proofs.lemmas.{names.NumberLemmas.{first_found, number_of_named, number_at, declared_named}, lists.Members.{In, in_has, from_symbols, to_symbols, in_left}}
use Rattle.mm_frame.specs.{declared.tables.{Tables.{Tables}, Declared.{Declared, TheVariants.{Constant, Variable}}}, Language.Scope.{constants, variables, active}}
use Rattle.mm_frame.specs.{Language.Sound.{is_declared, IsSound, AreSound}, Code.{LastItems.{last_where, declares_variable, types}, Numbers.{IsNameNumber, AreNameNumbers}, KeptLabels.{label_number}}}
use Rattle.mm_frame.specs.Code.KeptTables.{declared_at, table_name, table_label, variable_at, is_constant_as, declared_in, variable_number, float_of, typed_by, Knows, Declares, TypesName, Carries}
use Rattle.mm_store.specs.declared.item.ItemKind.{ItemKind}
use Rattle.mm_statement.specs.Language.{Statement.{kind_of}, Item.{Kind, Floating, Said, passed, is_kind, Constants, Variables, is_labelled, has}}
use Rattle.mm_machine.specs.Language.Names.{AreDistinct}
use Rattle.mm_store.specs.declared.item.ItemKind.TheVariants as items
use Rattle.mm_statement.specs.Language.Item as meant

-- a name is one of the names of a list of one
pub has_one : (bs cs : List ℕ) → bytes_eq bs cs ≡ has (bs ∷ []) cs
has_one bs cs = nat_list_eq_equiv.symm bs cs ∙ sym (or-false (bytes_eq cs bs))

-- what is reported of names, after what is reported by one number has changed
pub told_of : (all : List (List ℕ)) (old new : Tables) (n : ℕ) (name other : List ℕ) (f : Option Declared → Option Declared) → AreDistinct all
    → IsNameNumber all n name → ((m : ℕ) → declared_at new m ≡ cond (nat_eq m n) (f (declared_at old m)) (declared_at old m))
    → table_name all new other ≡ cond (bytes_eq name other) (f (table_name all old other)) (table_name all old other)
told_of all old new n name other f distinct there put =
    grind (arith, common_steps, bytes_eq-Decides, eqb_tells, false≢true, first_found, ltb-true, number_of_named, same_Some) steps 200000

-- what is put at the number of a name
pub types_one : (all : List (List ℕ)) (old new : Tables) (n : ℕ) (name : List ℕ) (number : ℕ) → AreDistinct all → IsNameNumber all n name
    → ((m : ℕ) → declared_at new m ≡ cond (nat_eq m n) (typed_by number (declared_at old m)) (declared_at old m)) → new.labels ≡ old.labels → TypesName all old name number new
types_one all old new n name number distinct there put l = record {
  names = λ other. told_of all old new n name other (typed_by number) distinct there put;
  labels = λ label. ap (λ labels. label_number labels label) l;
}

-- one more name is declared
pub declares_more : (all : List (List ℕ)) (old mid new : Tables) (symbols : List (List ℕ)) (n more : ℕ) (declared : Option Declared → Declared)
    (name : List ℕ) (last : Declared) → more ≡ suc n → ((o : Option Declared) → declared (Some (declared o)) ≡ declared o) → n < length symbols
    → name ≡ get_or symbols n [] → Declares all old (take n symbols) declared mid → last ≡ declared (table_name all mid name) → Declares all mid (name ∷ []) (λ _. last) new → Declares all old (take more symbols) declared new
declares_more all old mid new symbols n more declared name last s again l e d w m = record {
  names = names;
  labels = λ label. m.labels label ∙ d.labels label;
}
  where
    join : (a b : Bool) (o : Option Declared) (x : Declared) → (b ≡ true → x ≡ declared (cond a (Some (declared o)) o)) → cond b (Some x) (cond a (Some (declared o)) o) ≡ cond (a || b) (Some (declared o)) o
    join true true o x h = ap Some (h refl ∙ again o)
    join true false o x h = refl
    join false true o x h = ap Some (h refl)
    join false false o x h = refl

    names : (other : List ℕ) → table_name all new other ≡ cond (has (take more symbols) other) (Some (declared (table_name all old other))) (table_name all old other)
    names other =
        m.names other
        ∙ ap (cond (has (name ∷ []) other) (Some last)) (d.names other)
        ∙ join (has (take n symbols) other) (has (name ∷ []) other) (table_name all old other) last (λ t. w ∙ ap declared (ap (table_name all mid) ((bytes_eq-Decides name other).0 (has_one name other ∙ t)) ∙ d.names other))
        ∙ ap (λ b. cond b (Some (declared (table_name all old other))) (table_name all old other))
        (sym (ap (λ w. has w other) (ap (λ m. take m symbols) s ∙ take-suc symbols n [] l ∙ ap (λ x. take n symbols ++ x ∷ []) (sym e))
        ∙ list_any-append (bytes_eq other) (take n symbols) (name ∷ [])))

-- the names of the first of some numbers are declared
abbrev pub DeclaresFirst : List ℕ → ℕ → Tables → (Option Declared → Declared) → Tables → Type 0
DeclaresFirst numbers n old declared new = (all symbols : List (List ℕ)) → AreDistinct all → AreNameNumbers all numbers symbols → Declares all old (take n symbols) declared new

-- so is the name of the next one
pub declares_first : (numbers : List ℕ) (n more d : ℕ) (old mid new : Tables) (declared : Option Declared → Declared) (last : Declared) → more ≡ suc n
    → n < length numbers → ((o : Option Declared) → declared (Some (declared o)) ≡ declared o) → DeclaresFirst numbers n old declared mid
    → last ≡ declared (declared_at mid (get_or numbers n d)) → ((all : List (List ℕ)) (name : List ℕ) → AreDistinct all
    → IsNameNumber all (get_or numbers n d) name → Declares all mid (name ∷ []) (λ _. last) new) → DeclaresFirst numbers more old declared new
declares_first numbers n more d old mid new declared last s l again first w m all symbols distinct are =
    let there = number_at all numbers symbols n d are l in
    declares_more all old mid new symbols n more declared (get_or symbols n []) last s again (omega (arith, l, are.count)) refl (first all symbols distinct are)
    (w ∙ ap declared (declared_named all mid (get_or numbers n d) (get_or symbols n []) distinct there)) (m all (get_or symbols n []) distinct there)

-- and so are all
pub declares_all : (numbers : List ℕ) (n : ℕ) (old new : Tables) (declared : Option Declared → Declared) → length numbers ≤ n
    → DeclaresFirst numbers n old declared new → (all symbols : List (List ℕ)) → AreDistinct all → AreNameNumbers all numbers symbols
    → Declares all old symbols declared new
declares_all numbers n old new declared l first all symbols distinct are =
    subst (λ names. Declares all old names declared new) (take_all n symbols (omega (arith, l, are.count))) (first all symbols distinct are)

-- a variable of a `$f` is declared
typed_variable : (before : List Said) → AreSound before → (name : List ℕ) (l : Last (types name) before) → has (variables before) name ≡ true
typed_variable before h name l =
    let p = types_it name l.item l.good in
    let s = h l.front l.item l.back l.whole in
    let r = from_symbols (is_kind Variables) name (active l.front) (float_variable l.front l.item name s p.0 (float_second l.front l.item s p.0 ∙ ap Some p.1)) in
    in_has (variables before) name (to_symbols (is_kind Variables) name before r.0 (subst (λ w. In r.0 w) (sym l.whole) (in_left r.0 l.front (l.item ∷ l.back) (active_in l.front r.0 r.1))) r.2 r.3)

-- what is no variable is not typed
pub untyped : (before : List Said) → AreSound before → (name : List ℕ) → has (variables before) name ≡ false → last_where (types name) before ≡ None
untyped before h name e = grind (arith, common_steps, last_cases (types name) before, last_none, false≢true, typed_variable) steps 200000

no_variable : (before : List Said) (name : List ℕ) → last_where (declares_variable name) before ≡ None → has (variables before) name ≡ false
no_variable before name e = variable_last before name ∙ ap is_some e

pub constant_no_variable : (before : List Said) → AreSound before → (name : List ℕ) → has (constants before) name ≡ true → last_where (declares_variable name) before ≡ None
constant_no_variable before h name t = grind (arith, common_steps, sym (variable_last before name) ∙ constant_or_variable before h name t) steps 200000

-- what is reported of the last `$v` and the last `$f` of a name
pub variable_in : (before : List Said) → AreSound before → (name : List ℕ) → variable_number (declared_in before name) ≡ last_where (declares_variable name) before
variable_in before h name = grind (arith, common_steps, constant_no_variable) steps 200000

pub float_in : (before : List Said) → AreSound before → (name : List ℕ) → float_of (declared_in before name) ≡ last_where (types name) before
float_in before h name = grind (arith, common_steps, constant_no_variable, no_variable, untyped) steps 200000

-- what is reported is reported of a declared name
pub is_declared_in : (before : List Said) (name : List ℕ) → is_some (declared_in before name) ≡ is_declared before name
is_declared_in before name = grind (arith, common_steps, variable_last) steps 200000

-- what is reported is reported of a constant
pub constant_in : (before : List Said) (name : List ℕ) → is_constant_as (declared_in before name) ≡ has (constants before) name
constant_in before name = grind (arith, common_steps) steps 200000

-- what is reported by the number of a name
pub known_at : (all : List (List ℕ)) (before : List Said) (tables : Tables) (n : ℕ) (name : List ℕ) → Knows all before tables → IsNameNumber all n name → declared_at tables n ≡ declared_in before name
known_at all before tables n name k there = declared_named all tables n name k.distinct there ∙ k.names name

-- what one more item of a kind makes of what a name is declared as
abbrev pub name_next : Kind → List (List ℕ) → ℕ → List ℕ → Option Declared → Option Declared
name_next kind symbols number name old =
    cond (is_kind Constants kind && has symbols name) (Some Constant)
    (cond (is_kind Variables kind && has symbols name) (Some (Variable number (float_of old)))
    (cond (is_kind Floating kind && bytes_eq (get_or symbols 1 []) name) (typed_by number old) old))

-- and of the number of a label
abbrev pub label_next : Kind → Option (List ℕ) → ℕ → List ℕ → Option ℕ → Option ℕ
label_next kind label number other old = cond (has (cond (is_labelled kind) (option_to_list label) []) other) (Some number) old

join_next : (isc dvb tyb c : Bool) (v t : Option ℕ) (n : ℕ) → (dvb ≡ true → c ≡ false) → (dvb ≡ true → tyb ≡ false) → (tyb ≡ true → is_some v ≡ true) → (c ≡ true → v ≡ None) → (v ≡ None → t ≡ None)
    → cond (c || isc) (Some Constant) (variable_at (cond dvb (Some n) v) (cond tyb (Some n) t)) ≡ cond isc (Some Constant)
    (cond dvb (Some (Variable n (float_of (cond c (Some Constant) (variable_at v t))))) (cond tyb (typed_by n (cond c (Some Constant) (variable_at v t))) (cond c (Some Constant) (variable_at v t))))
join_next true dvb tyb true v t n a b d e f = refl
join_next true dvb tyb false v t n a b d e f = refl
join_next false true tyb true v t n a b d e f = absurd (false≢true (sym (a refl)))
join_next false true true false v t n a b d e f = absurd (false≢true (sym (b refl)))
join_next false true false false None t n a b d e f = ap (λ (w : Option ℕ). Some (Variable n w)) (f refl)
join_next false true false false (Some m) t n a b d e f = refl
join_next false false true true v t n a b d e f = absurd (false≢true (sym (ap is_some (e refl)) ∙ d refl))
join_next false false true false None t n a b d e f = absurd (false≢true (d refl))
join_next false false true false (Some m) t n a b d e f = refl
join_next false false false true v t n a b d e f = refl
join_next false false false false v t n a b d e f = refl

has_under : (b : Bool) (symbols : List (List ℕ)) (name : List ℕ) → has (cond b symbols []) name ≡ (b && has symbols name)
has_under true symbols name = refl
has_under false symbols name = refl

not_floating : (k : Kind) → is_kind Variables k ≡ true → is_kind Floating k ≡ false
not_floating k e = grind (arith, common_steps) steps 200000

pub declared_next : (before : List Said) (item : Said) (name : List ℕ) → AreSound (before ++ item ∷ []) → declared_in (before ++ item ∷ []) name ≡ name_next item.kind item.symbols (length before) name (declared_in before name)
declared_next before item name h =
    let there : types name item ≡ true → is_some (last_where (declares_variable name) before) ≡ true =
    λ t. let p =
    types_it name item t in let s = h before item [] refl in
    let r = from_symbols (is_kind Variables) name (active before) (float_variable before item name s p.0 (float_second before item s p.0 ∙ ap Some p.1)) in
    sym (variable_last before name) ∙ in_has (variables before) name (to_symbols (is_kind Variables) name before r.0 (active_in before r.0 r.1) r.2 r.3) in
    (λ i. cond (constant i) (Some Constant) (variable_at (last_where_next (declares_variable name) before item i) (last_where_next (types name) before item i)))
    ∙ join_next (is_kind Constants item.kind && has item.symbols name) (declares_variable name item) (types name item) (has (constants before) name) (last_where (declares_variable name) before) (last_where (types name) before) (length before)
    fresh apart_kinds there (constant_no_variable before (sound_front before (item ∷ []) h) name)
    (λ e. untyped before (sound_front before (item ∷ []) h) name (no_variable before name e)) where
      constant : has (constants (before ++ item ∷ [])) name ≡ (has (constants before) name || (is_kind Constants item.kind && has item.symbols name))
      constant =
          ap (λ w. has w name) (grind (arith, common_steps, flat_map-append, append-nil) steps 200000) ∙ list_any-append (bytes_eq name) (constants before)
          (cond (is_kind Constants item.kind) item.symbols []) ∙ ap (λ b. has (constants before) name || b) (has_under (is_kind Constants item.kind) item.symbols name)

      fresh : declares_variable name item ≡ true → has (constants before) name ≡ false
      fresh t = false_from_ne_true (has (constants before) name) (λ c. false≢true (
          sym (ap is_some (constant_no_variable (before ++ item ∷ []) h name (constant ∙ ap (λ b. b || (is_kind Constants item.kind && has item.symbols name)) c)))
          ∙ ap is_some (last_where_next (declares_variable name) before item) ∙ ap (λ b. is_some (cond b (Some (length before)) (last_where (declares_variable name) before))) t))

      apart_kinds : declares_variable name item ≡ true → types name item ≡ false
      apart_kinds t = ap (λ b. b && bytes_eq (meant.variable_of item) name) (not_floating item.kind (and_parts (is_kind Variables item.kind) (has item.symbols name) t).0)

-- the tables that take an item as its kind says
pub record Takes (all : List (List ℕ)) (kind : Kind) (item : Said) (number : ℕ) (old new : Tables) : Type 0 where
  pub names : (name : List ℕ) → table_name all new name ≡ name_next kind item.symbols number name (table_name all old name)
  pub labels : (label : List ℕ) → table_label new label ≡ label_next kind item.label number label (table_label old label)

pub knows_next : (all : List (List ℕ)) (before : List Said) (item : Said) (kind : Kind) (number : ℕ) (old new : Tables) → kind ≡ item.kind
    → AreSound (before ++ item ∷ []) → length before ≡ number → Knows all before old → Takes all kind item number old new
    → Knows all (before ++ item ∷ []) new
knows_next all before item kind number old new e h l k t = grind (arith, common_steps, k.names, k.labels, declared_next, last_where_next) steps 500000

-- what takes the place of a statement at fault changes nothing
pub knows_passed : (all : List (List ℕ)) (before : List Said) (tables : Tables) → Knows all before tables → Knows all (before ++ passed ∷ []) tables
knows_passed all before tables k = grind (arith, common_steps, flat_map-append, append-nil, last_where_next, list_any-append, or-false) steps 200000

-- the kinds
-- a sound `$f` has a second symbol
pub takes_sound_float : (all : List (List ℕ)) (before : List Said) (item : Said) (number : ℕ) (old mid new : Tables) → IsSound before item → Floating ≡ item.kind
    → (1 < length item.symbols → TypesName all old (meant.variable_of item) number mid) → Carries all mid (option_to_list item.label) number new
    → Takes all Floating item number old new
takes_sound_float all before item number old mid new s e t c = grind (arith, common_steps, float_two before item s (ap (is_kind Floating) (sym e))) steps 200000

-- what only carries a label
pub takes_label : (all : List (List ℕ)) (kind : ItemKind) (item : Said) (number : ℕ) (old new : Tables)
    → (kind ≡ items.Essential) ⊎ ((kind ≡ items.Axiom) ⊎ (kind ≡ items.Theorem)) → Carries all old (option_to_list item.label) number new
    → Takes all (kind_of kind) item number old new
takes_label all kind item number old new h c = grind (arith, common_steps) steps 200000
