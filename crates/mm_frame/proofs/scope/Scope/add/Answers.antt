use Rattle.std.proofs.{Common.{arith, refl, subst, sym}, lemmas.Grind.{common_steps}}
use Rattle.mm_frame.{proofs.lemmas.scope.{Facts.{sound_more}, KeptScopeLemmas.{floating_there, marks_more, types_more}}, specs.Code.Numbers.{IsNameNumber}}
use Rattle.mm_statement.specs.Language.{Statement.{kind_of}, Item.{typecode_of}}
use Rattle.mm_frame.proofs.scope.Scope.add.Goals as goal

pub returns : goal.returns
returns c all before h k s a =
    let item = c.args.statement.now in
    let typecodes = c.args.self.now.typecodes in
    record {
      knows = c.in_ok-add.ensures all before (sound_more before item h (s refl)) (omega (arith, c.len.ensures, k.types.count, typecodes.ok.0)) a k.knows;
      marks = marks_more before item (kind_of c.kind.result) _ _ c.kind.ensures.kind k.marks c.in_ok-mark.ensures;
      types = types_more all before item typecodes.items c.push.new.self.items c.in_ok-typecode.typecode k.types
          (λ f. subst (λ n. IsNameNumber all n (typecode_of item)) (sym c.in_ok-typecode.ensures.same)
          (c.float_typecode.ensures all item c.kind-2.ensures.kind f (floating_there before item (s refl) f) (a (grind (arith, common_steps) steps 200000)))) c.in_ok-push.ensures.items;
    }
