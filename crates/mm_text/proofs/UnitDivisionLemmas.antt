-- A list of words has one division into units.
use Rattle.std.proofs.{Common.{[], ◌≡◌, ◌⊎◌, Bool, true, false, List, ◌∷◌, ◌++◌, append_assoc, refl, sym, ◌∙◌, subst, inl, inr, arith, append-nil}, lemmas.Grind.{common_steps}}
use Rattle.std.specs.List.{AllByRecursion, flat_map}
use Rattle.mm_text.specs.declared.word.Keyword.TheVariants.{BlockStart, BlockEnd, Constants, Variables, Disjoint, StatementEnd, ProofStart, InclusionStart}
use Rattle.mm_text.specs.Language.Unit.{Token, IsKeyword, IsPlain, Shape, Declaration, Labelled, Provable, Inclusion, shape_tokens, IsShape, Units, Nothing, Simple, Block, unit_tokens, AreUnits}
use Rattle.mm_text.proofs.UnitFaultLemmas.{no_plain}

-- ---- the machine over shapes and plain words

-- ---- one shape

plain_split : (xs ys : List Token) (p q : Token) (s t : List Token) → AllByRecursion IsPlain xs → AllByRecursion IsPlain ys → ¬ IsPlain p → ¬ IsPlain q → xs ++ p ∷ s ≡ ys ++ q ∷ t → (xs ≡ ys) × (p ≡ q) × (s ≡ t)
plain_split [] [] p q s t f g no_p no_q e = (refl, cc, cc)
plain_split [] (y ∷ ys) p q s t f g no_p no_q e = let same : y ≡ p = cc in absurd (no_p (subst (λ (t : Token). IsPlain t) same g.0))
plain_split (x ∷ xs) [] p q s t f g no_p no_q e = let same : x ≡ q = cc in absurd (no_q (subst (λ (t : Token). IsPlain t) same f.0))
plain_split (x ∷ xs) (y ∷ ys) p q s t f g no_p no_q e = let rest : xs ++ p ∷ s ≡ ys ++ q ∷ t = cc in let more = plain_split xs ys p q s t f.1 g.1 no_p no_q rest in (cc, more.1, more.2)

rest_split : (xs ys : List Token) (p q : Token) (s t : List Token) → AllByRecursion IsPlain xs → AllByRecursion IsPlain ys → IsKeyword StatementEnd p → IsKeyword StatementEnd q
    → (xs ++ p ∷ []) ++ s ≡ (ys ++ q ∷ []) ++ t → (xs ≡ ys) × (p ≡ q) × (s ≡ t)
rest_split xs ys p q s t f g is_p is_q e = plain_split xs ys p q s t f g (no_plain p StatementEnd is_p) (no_plain q StatementEnd is_q) (sym (append_assoc xs (p ∷ []) s) ∙ e ∙ append_assoc ys (q ∷ []) t)

proof_split : (xs ys : List Token) (p q : Token) (xs' ys' : List Token) (p' q' : Token) (s t : List Token) → AllByRecursion IsPlain xs → AllByRecursion IsPlain ys → IsKeyword ProofStart p → IsKeyword ProofStart q
    → AllByRecursion IsPlain xs' → AllByRecursion IsPlain ys' → IsKeyword StatementEnd p' → IsKeyword StatementEnd q' → (xs ++ p ∷ (xs' ++ p' ∷ [])) ++ s ≡ (ys ++ q ∷ (ys' ++ q' ∷ [])) ++ t
    → ((xs ≡ ys) × (p ≡ q)) × ((xs' ≡ ys') × (p' ≡ q') × (s ≡ t))
proof_split xs ys p q xs' ys' p' q' s t f g is_p is_q f' g' is_p' is_q' e =
    let first : (xs ≡ ys) × (p ≡ q) × ((xs' ++ p' ∷ []) ++ s ≡ (ys' ++ q' ∷ []) ++ t) = plain_split xs ys p q ((xs' ++ p' ∷ []) ++ s) ((ys' ++ q' ∷ []) ++ t) f g (no_plain p ProofStart is_p) (no_plain q ProofStart is_q)
    (sym (append_assoc xs (p ∷ (xs' ++ p' ∷ [])) s) ∙ e ∙ append_assoc ys (q ∷ (ys' ++ q' ∷ [])) t) in
    ((first.0, first.1), rest_split xs' ys' p' q' s t f' g' is_p' is_q' first.2)

abbrev Declares : Token → Type 0
Declares token = IsKeyword Constants token ⊎ (IsKeyword Variables token ⊎ IsKeyword Disjoint token)

declares_not : (token : Token) → Declares token → IsPlain token ⊎ IsKeyword InclusionStart token → ⊥
declares_not token h h1 = grind (arith, common_steps) steps 200000

pub one_shape : (o : Bool) (a b : Shape) (s t : List Token) → IsShape o a → IsShape o b → shape_tokens a ++ s ≡ shape_tokens b ++ t → (a ≡ b) × (s ≡ t)
one_shape o (Declaration k xs p) (Declaration l ys q) s t f g e = grind (arith, common_steps, rest_split xs ys p q s t f.1 g.1 f.2 g.2 cc) steps 200000
one_shape o (Declaration k xs p) (Labelled m l ys q) s t f g e = let first : m ≡ k = cc in absurd (declares_not k f.0 (inl (subst (λ (t : Token). IsPlain t) first g.0.0)))
one_shape o (Declaration k xs p) (Provable m l ys q zs r) s t f g e = let first : m ≡ k = cc in absurd (declares_not k f.0 (inl (subst (λ (t : Token). IsPlain t) first g.0.0)))
one_shape o (Declaration k xs p) (Inclusion b n d) s t f g e = let first : b ≡ k = cc in absurd (declares_not k f.0 (inr (subst (λ (t : Token). IsKeyword InclusionStart t) first g.1)))
one_shape o (Labelled m k xs p) (Declaration l ys q) s t f g e = let first : m ≡ l = cc in absurd (declares_not l g.0 (inl (subst (λ (t : Token). IsPlain t) first f.0.0)))
one_shape o (Labelled m k xs p) (Labelled n l ys q) s t f g e = grind (arith, common_steps, rest_split xs ys p q s t f.2 g.2 f.3 g.3 cc) steps 200000
one_shape o (Labelled m k xs p) (Provable n l ys q zs r) s t f g e = grind (arith, common_steps) steps 200000
one_shape o (Labelled m k xs p) (Inclusion b n d) s t f g e = let first : m ≡ b = cc in absurd (no_plain b InclusionStart g.1 (subst (λ (t : Token). IsPlain t) first f.0.0))
one_shape o (Provable m k xs p zs r) (Declaration l ys q) s t f g e = let first : m ≡ l = cc in absurd (declares_not l g.0 (inl (subst (λ (t : Token). IsPlain t) first f.0.0)))
one_shape o (Provable m k xs p zs r) (Labelled n l ys q) s t f g e = grind (arith, common_steps) steps 200000
one_shape o (Provable m k xs p zs r) (Provable n l ys q ws u) s t f g e = grind (arith, common_steps, proof_split xs ys p q zs ws r u s t f.2 g.2 f.3 g.3 f.4 g.4 f.5 g.5 cc) steps 200000
one_shape o (Provable m k xs p zs r) (Inclusion b n d) s t f g e = let first : m ≡ b = cc in absurd (no_plain b InclusionStart g.1 (subst (λ (t : Token). IsPlain t) first f.0.0))
one_shape o (Inclusion b n d) (Declaration l ys q) s t f g e = let first : b ≡ l = cc in absurd (declares_not l g.0 (inr (subst (λ (t : Token). IsKeyword InclusionStart t) first f.1)))
one_shape o (Inclusion b n d) (Labelled m l ys q) s t f g e = let first : m ≡ b = cc in absurd (no_plain b InclusionStart f.1 (subst (λ (t : Token). IsPlain t) first g.0.0))
one_shape o (Inclusion b n d) (Provable m l ys q zs r) s t f g e = let first : m ≡ b = cc in absurd (no_plain b InclusionStart f.1 (subst (λ (t : Token). IsPlain t) first g.0.0))
one_shape o (Inclusion b n d) (Inclusion b' n' d') s t f g e = (cc, cc)

-- ---- one list of shapes

pub one_shapes : (a b : List Shape) → AllByRecursion (IsShape true) a → AllByRecursion (IsShape true) b → flat_map shape_tokens a ≡ flat_map shape_tokens b → a ≡ b
one_shapes [] [] f g e = refl
one_shapes [] (y ∷ b) f g e = grind (arith, common_steps) steps 200000
one_shapes (x ∷ a) [] f g e = grind (arith, common_steps) steps 200000
one_shapes (x ∷ a) (y ∷ b) f g e = grind (arith, common_steps, one_shapes a b f.1 g.1 (one_shape true x y (flat_map shape_tokens a) (flat_map shape_tokens b) f.0 g.0 e).1, one_shape) steps 200000

-- ---- one sequence of units

-- no unit begins here
abbrev Stops : List Token → Type 0
Stops [] = Unit {0}
Stops (token ∷ tokens) = IsKeyword BlockEnd token

no_block_there : (begin : Token) (tail s : List Token) → IsKeyword BlockStart begin → Stops s → s ≡ begin ∷ tail → ⊥
no_block_there begin tail s is stops e = grind (arith, common_steps) steps 200000

not_both : (o : Bool) (shape : Shape) (begin : Token) (s t : List Token) → IsShape o shape → IsKeyword BlockStart begin → shape_tokens shape ++ s ≡ begin ∷ t → ⊥
not_both o shape begin s t is starts e = grind (arith, common_steps) steps 200000

one_units : (o : Bool) (a b : Units) (s t : List Token) → AreUnits o a → AreUnits o b → Stops s → Stops t → unit_tokens a ++ s ≡ unit_tokens b ++ t → (a ≡ b) × (s ≡ t)
one_units o Nothing Nothing s t f g p q e = (refl, e)
one_units o Nothing (Simple y later) s t f g p q e = grind (arith, common_steps, append_assoc (shape_tokens y) (unit_tokens later) t) steps 200000
one_units o Nothing (Block begin inner end later) s t f g p q e = absurd (no_block_there begin ((unit_tokens inner ++ end ∷ unit_tokens later) ++ t) s g.0 p e)
one_units o (Simple x later) Nothing s t f g p q e = grind (arith, common_steps, append_assoc (shape_tokens x) (unit_tokens later) s) steps 200000
one_units o (Block begin inner end later) Nothing s t f g p q e = absurd (no_block_there begin ((unit_tokens inner ++ end ∷ unit_tokens later) ++ s) t f.0 q (sym e))
one_units o (Simple x u) (Simple y v) s t f g p q e =
    let first : (x ≡ y) × (unit_tokens u ++ s ≡ unit_tokens v ++ t) = grind (arith, common_steps, append_assoc, one_shape) steps 200000 in
    let more : (u ≡ v) × (s ≡ t) = one_units o u v s t f.1 g.1 p q first.1 in
    (cc, more.1)
one_units o (Simple x u) (Block begin inner end later) s t f g p q e = absurd (not_both o x begin (unit_tokens u ++ s) ((unit_tokens inner ++ end ∷ unit_tokens later) ++ t) f.0 g.0 (sym (append_assoc (shape_tokens x) (unit_tokens u) s) ∙ e))
one_units o (Block begin inner end later) (Simple y v) s t f g p q e = absurd (not_both o y begin (unit_tokens v ++ t) ((unit_tokens inner ++ end ∷ unit_tokens later) ++ s) g.0 f.0 (sym (append_assoc (shape_tokens y) (unit_tokens v) t) ∙ sym e))
one_units o (Block begin inner end u) (Block begin' inner' end' v) s t f g p q e =
    let rest : (unit_tokens inner ++ end ∷ unit_tokens u) ++ s ≡ (unit_tokens inner' ++ end' ∷ unit_tokens v) ++ t = cc in
    let inside : (inner ≡ inner') × (end ∷ (unit_tokens u ++ s) ≡ end' ∷ (unit_tokens v ++ t)) = one_units false inner inner' (end ∷ (unit_tokens u ++ s)) (end' ∷ (unit_tokens v ++ t)) f.1 g.1 f.2 g.2
    (sym (append_assoc (unit_tokens inner) (end ∷ unit_tokens u) s) ∙ rest ∙ append_assoc (unit_tokens inner') (end' ∷ unit_tokens v) t) in
    let behind : unit_tokens u ++ s ≡ unit_tokens v ++ t = cc in
    let more : (u ≡ v) × (s ≡ t) = one_units o u v s t f.3 g.3 p q behind in
    (cc, more.1)

pub one_division : (a b : Units) → AreUnits true a → AreUnits true b → unit_tokens a ≡ unit_tokens b → a ≡ b
one_division a b f g e = (one_units true a b [] [] f g tt tt (append-nil (unit_tokens a) ∙ e ∙ sym (append-nil (unit_tokens b)))).0
