use Rattle.std.proofs.{Common.{arith, ◌∙◌, ap, sym}, lemmas.Grind.{common_steps}}
use Rattle.mm_frame.{specs.Code.KeptTables.{is_constant_as}, proofs.lemmas.scope.KnownLemmas.{known_at, constant_in}}
use Rattle.mm_frame.proofs.tables.Tables.is_constant.Goals as goal

pub returns-in-Some-Constant-clause-declared : goal.returns-in-Some-Constant-clause-declared
returns-in-Some-Constant-clause-declared c all before name k t = grind (arith, common_steps, known_at all before c.args.self.now c.args.number name k t, constant_in before name) steps 200000

pub returns-in_default-clause-declared : goal.returns-in_default-clause-declared
returns-in_default-clause-declared c all before name k t = grind (arith, common_steps, known_at all before c.args.self.now c.args.number name k t, constant_in before name) steps 200000

pub returns-in_default-2-clause-declared : goal.returns-in_default-2-clause-declared
returns-in_default-2-clause-declared c all before name k t = ap is_constant_as (sym c.in_default.is ∙ c.name.ensures ∙ known_at all before c.args.self.now c.args.number name k t) ∙ constant_in before name
