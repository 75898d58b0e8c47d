use Rattle.std.proofs.Common.{◌∙◌, ap, sym, Some}
use Rattle.mm_frame.{specs.Code.KeptTables.{variable_number}, proofs.lemmas.scope.KnownLemmas.{known_at, variable_in}}
use Rattle.mm_frame.proofs.tables.Tables.variable.Goals as goal

pub returns-in_err-declared : goal.returns-in_err-declared
returns-in_err-declared c all before name h k t = c.from_residual.ensures ∙ ap variable_number (sym c.in_err-declared.was ∙ c.name.ensures ∙ known_at all before c.args.self.now c.args.number name k t) ∙ variable_in before h name

pub returns-in-Variable : goal.returns-in-Variable
returns-in-Variable c all before name h k t = ap variable_number (ap Some (sym c.in-Variable.is) ∙ sym c.in_ok-declared.was ∙ c.name.ensures ∙ known_at all before c.args.self.now c.args.number name k t) ∙ variable_in before h name

pub returns-in-Constant : goal.returns-in-Constant
returns-in-Constant c all before name h k t = ap variable_number (ap Some (sym c.in-Constant.is) ∙ sym c.in_ok-declared.was ∙ c.name.ensures ∙ known_at all before c.args.self.now c.args.number name k t) ∙ variable_in before h name
