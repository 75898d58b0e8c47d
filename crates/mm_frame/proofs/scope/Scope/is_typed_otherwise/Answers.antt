use Rattle.std.proofs.{Common.{arith, not, sym, ◌∙◌, ap, subst}, lemmas.Grind.{common_steps}}
use Rattle.mm_statement.specs.Language.Item.{item_at, typecode_of}
use Rattle.mm_frame.{specs.Code.{LastItems.{is_otherwise_at}, Numbers.{IsNameNumber}}, proofs.lemmas.{faults.FaultLemmas.{same_number}, scope.KeptScopeLemmas.{kept_typecode}}}
use Rattle.mm_frame.proofs.lemmas.scope.TableLemmas.{typed_otherwise_last}
use Rattle.mm_frame.proofs.scope.Scope.is_typed_otherwise.Goals as goal

pub returns-in-Some : goal.returns-in-Some
returns-in-Some c all before item name h k t there =
    let float = c.in-Some.float in
    let last = c.float.ensures all before name h k there in
    let kept = subst (λ n. IsNameNumber all n (typecode_of (item_at before float))) (sym c.typecode.ensures) (kept_typecode all before c.args.self.now.typecodes.items name float k.types (sym last ∙ c.in-Some.is)) in
    let same = same_number all c.typecode.result c.args.typecode (typecode_of (item_at before float)) (typecode_of item) k.knows.distinct kept t in
    (λ i. not (same i)) ∙ ap (is_otherwise_at before item) (sym c.in-Some.is ∙ last) ∙ sym (typed_otherwise_last before h name item)

pub returns-in-None : goal.returns-in-None
returns-in-None c all before item name h k t there = grind (arith, common_steps, c.float.ensures all before name h k there, typed_otherwise_last before h name item) steps 200000
