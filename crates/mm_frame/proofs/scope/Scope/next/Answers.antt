use Rattle.std.proofs.{Common.{OnOk, refl, sym, subst}, lemmas.Bool.{false≢true}}
use Rattle.mm_statement.specs.Language.Item.{Passed, passed}
use Rattle.mm_frame.{specs.Code.KeptScope.{ScopeTakes}, proofs.lemmas.scope.{KnownLemmas.{knows_passed}, KeptScopeLemmas.{passed_over, marks_more, types_more}}}
use Rattle.mm_frame.proofs.scope.Scope.next.Goals as goal

pub returns-then-sound : goal.returns-then-sound
returns-then-sound c = subst (λ b. OnOk c.add.result (ScopeTakes c.args.numbers.now c.args.self.now c.args.statement.now b c.add.new.self)) (sym c.if-sound.true) c.add.ensures

pub returns : goal.returns
returns c all before h k s a =
    passed_over all before c.args.statement.now c.args.sound c.if-sound.false (record {
      knows = knows_passed all before c.args.self.now.tables k.knows;
      marks = marks_more before passed Passed _ _ refl k.marks c.in_ok-pass.ensures.ok;
      types = types_more all before passed _ _ 0 k.types (λ f. absurd (false≢true f)) c.in_ok-push.ensures.items;
    })
