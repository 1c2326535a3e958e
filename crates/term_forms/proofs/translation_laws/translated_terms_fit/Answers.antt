use Rattle.term_forms.proofs.TranslatedTerms.{translated_terms_fit}
use Rattle.term_forms.proofs.translation_laws.translated_terms_fit.Goals as goal

pub returns : goal.returns
returns c = translated_terms_fit
