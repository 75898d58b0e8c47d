use Rattle.std.{proofs.Common.{refl}, specs.Fmt.{digits}}
use Rattle.mm_text.proofs.standard_words.standard_words_mean.Goals as goal

pub returns-clause-digits : goal.returns-clause-digits
unfolding digits
returns-clause-digits c = (refl, refl)
