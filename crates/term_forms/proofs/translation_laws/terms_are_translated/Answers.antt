use Rattle.term_forms.proofs.TermForms.{terms_are_translated}
use Rattle.term_forms.proofs.translation_laws.terms_are_translated.Goals as goal

pub returns : goal.returns
returns c = terms_are_translated
