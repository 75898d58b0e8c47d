use Rattle.std.proofs.Common.{◌∙◌, ap, sym, Some}
use Rattle.mm_frame.{specs.Code.KeptTables.{float_of}, proofs.lemmas.scope.KnownLemmas.{known_at, float_in}}
use Rattle.mm_frame.proofs.tables.Tables.float.Goals as goal

pub returns-in_err-float-clause-last : goal.returns-in_err-float-clause-last
returns-in_err-float-clause-last c all before name h k t = c.from_residual.ensures ∙ ap float_of (sym c.in_err-float.was ∙ c.name.ensures ∙ known_at all before c.args.self.now c.args.number name k t) ∙ float_in before h name

pub returns-in-Variable-clause-last : goal.returns-in-Variable-clause-last
returns-in-Variable-clause-last c all before name h k t = ap float_of (ap Some (sym c.in-Variable.is) ∙ sym c.in_ok-float.was ∙ c.name.ensures ∙ known_at all before c.args.self.now c.args.number name k t) ∙ float_in before h name

pub returns-in-Constant-clause-last : goal.returns-in-Constant-clause-last
returns-in-Constant-clause-last c all before name h k t = ap float_of (ap Some (sym c.in-Constant.is) ∙ sym c.in_ok-float.was ∙ c.name.ensures ∙ known_at all before c.args.self.now c.args.number name k t) ∙ float_in before h name
