use Rattle.std.proofs.Common.{sym}
use Rattle.mm_proof.{specs.Code.KeptMarks.{SharePairs}, proofs.ComparedLemmas.{answered, answered_more, of_theorems, pairs_shared}}
use Rattle.mm_proof.proofs.compared.Compared.same_pairs.Goals as goal

pub returns-in-Some-clause-same : goal.returns-in-Some-clause-same
returns-in-Some-clause-same c names base copy f g =
    let found = c.in-Some-Some in
    let same = c.in-Some.same.now in
    let told = c.requires.lists (found.mine, found.yours) same (sym c.in-Some.ensures.value) c.args.i c.args.j found.ensures.number found.ensures'.number names base copy f g in
    of_theorems base copy c.args.i c.args.j same (sym (found.ensures.some base (names, f))) (sym (found.ensures'.some copy (names, g))) told

pub returns-clause-compared : goal.returns-clause-compared
returns-clause-compared c =
    let found = c.in-Some-Some in
    let old = c.args.old.now in
    let new = c.args.new.now in
    let same = c.same_active_pairs-same.result in
    let right = answered old new (λ answers. answers.list_numbers) SharePairs pairs_shared c.args.i c.args.j (found.mine, found.yours) same
    (λ names base copy f g. c.same_active_pairs-same.ensures names base copy f g (sym (found.ensures.some base (names, f))) (sym (found.ensures'.some copy (names, g)))) found.ensures.same found.ensures'.same in
    record {
      frames = c.requires.frames;
      lists = answered_more old new (λ answers. answers.list_numbers) SharePairs c.args.self.now.lists c.insert.new.self (found.mine, found.yours) same right (λ other. c.in_ok-insert.ensures.updates.0 other) c.requires.lists;
    }

pub returns-clause-same : goal.returns-clause-same
returns-clause-same c names base copy f g =
    let found = c.in-Some-Some in
    let was = sym (found.ensures.some base (names, f)) in
    let is = sym (found.ensures'.some copy (names, g)) in
    of_theorems base copy c.args.i c.args.j c.same_active_pairs-same.result was is (c.same_active_pairs-same.ensures names base copy f g was is)
