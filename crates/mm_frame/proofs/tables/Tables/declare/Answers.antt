use Rattle.std.proofs.{Common.{Some, ap, cond, ◌∙◌}, lemmas.Result.{on_ok_weaker}}
use Rattle.mm_frame.{proofs.lemmas.scope.KnownLemmas.{has_one, told_of}, specs.Code.{KeptLabels.{label_number}, KeptTables.{table_name}}}
use Rattle.mm_frame.proofs.tables.Tables.declare.Goals as goal

pub returns : goal.returns
returns c =
    on_ok_weaker c.put.result
    (λ p all name d t. (record {
      names = λ other. told_of all c.args.self.now c.put.new.self c.args.number name other (λ _. Some c.args.declared) d t p
          ∙ ap (λ b. cond b (Some c.args.declared) (table_name all c.args.self.now other)) (has_one name other);
      labels = λ label. ap
          (λ labels. label_number labels label) c.put.ensures.labels;
    })) c.put.ensures.put
