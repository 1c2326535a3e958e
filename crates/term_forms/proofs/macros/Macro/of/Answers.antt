-- A word by its text.
use Rattle.std.proofs.Common.{refl}
use Rattle.term_forms.specs.Macros.{macro}
use Rattle.term_forms.proofs.WordTexts.{at_text, other-word}
use Rattle.term_forms.proofs.macros.Macro.of.Goals as goal

pub returns-in-AND : goal.returns-in-AND
unfolding macro
returns-in-AND c = at_text _ _ _ _ c.text.ensures.text c.in-AND.is refl

pub returns-in-OR : goal.returns-in-OR
unfolding macro
returns-in-OR c = at_text _ _ _ _ c.text.ensures.text c.in-OR.is refl

pub returns-in-LIST : goal.returns-in-LIST
unfolding macro
returns-in-LIST c = at_text _ _ _ _ c.text.ensures.text c.in-LIST.is refl

pub returns-in-text : goal.returns-in-text
unfolding macro
returns-in-text c = at_text _ _ _ _ c.text.ensures.text c.in-text.is refl

pub returns-in-text-2 : goal.returns-in-text-2
unfolding macro
returns-in-text-2 c = at_text _ _ _ _ c.text.ensures.text c.in-text-2.is refl

pub returns-in-APPEND : goal.returns-in-APPEND
unfolding macro
returns-in-APPEND c = at_text _ _ _ _ c.text.ensures.text c.in-APPEND.is refl

pub returns-in-text-3 : goal.returns-in-text-3
unfolding macro
returns-in-text-3 c = at_text _ _ _ _ c.text.ensures.text c.in-text-3.is refl

pub returns-in-text-4 : goal.returns-in-text-4
unfolding macro
returns-in-text-4 c = at_text _ _ _ _ c.text.ensures.text c.in-text-4.is refl

pub returns-in-text-5 : goal.returns-in-text-5
unfolding macro
returns-in-text-5 c = at_text _ _ _ _ c.text.ensures.text c.in-text-5.is refl

pub returns-in-text-6 : goal.returns-in-text-6
unfolding macro
returns-in-text-6 c = at_text _ _ _ _ c.text.ensures.text c.in-text-6.is refl

pub returns-in-text-7 : goal.returns-in-text-7
unfolding macro
returns-in-text-7 c = at_text _ _ _ _ c.text.ensures.text c.in-text-7.is refl

pub returns-in-text-8 : goal.returns-in-text-8
unfolding macro
returns-in-text-8 c = at_text _ _ _ _ c.text.ensures.text c.in-text-8.is refl

pub returns-in-text-9 : goal.returns-in-text-9
unfolding macro
returns-in-text-9 c = at_text _ _ _ _ c.text.ensures.text c.in-text-9.is refl

pub returns-in-EQ : goal.returns-in-EQ
unfolding macro
returns-in-EQ c = at_text _ _ _ _ c.text.ensures.text c.in-EQ.is refl

pub returns-in-EQL : goal.returns-in-EQL
unfolding macro
returns-in-EQL c = at_text _ _ _ _ c.text.ensures.text c.in-EQL.is refl

pub returns-in-FIRST : goal.returns-in-FIRST
unfolding macro
returns-in-FIRST c = at_text _ _ _ _ c.text.ensures.text c.in-FIRST.is refl

pub returns-in-REST : goal.returns-in-REST
unfolding macro
returns-in-REST c = at_text _ _ _ _ c.text.ensures.text c.in-REST.is refl

pub returns-in-CAAR : goal.returns-in-CAAR
unfolding macro
returns-in-CAAR c = at_text _ _ _ _ c.text.ensures.text c.in-CAAR.is refl

pub returns-in-CADR : goal.returns-in-CADR
unfolding macro
returns-in-CADR c = at_text _ _ _ _ c.text.ensures.text c.in-CADR.is refl

pub returns-in-CDAR : goal.returns-in-CDAR
unfolding macro
returns-in-CDAR c = at_text _ _ _ _ c.text.ensures.text c.in-CDAR.is refl

pub returns-in-CDDR : goal.returns-in-CDDR
unfolding macro
returns-in-CDDR c = at_text _ _ _ _ c.text.ensures.text c.in-CDDR.is refl

pub returns-in_default : goal.returns-in_default
returns-in_default c =
    other-word _ _ c.text.ensures.text c.in_default.not-AND c.in_default.not-OR c.in_default.not-LIST c.in_default.not-text c.in_default.not-text-2 c.in_default.not-APPEND c.in_default.not-text-3 c.in_default.not-text-4 c.in_default.not-text-5 c.in_default.not-text-6 c.in_default.not-text-7 c.in_default.not-text-8 c.in_default.not-text-9 c.in_default.not-EQ c.in_default.not-EQL c.in_default.not-FIRST c.in_default.not-REST c.in_default.not-CAAR c.in_default.not-CADR c.in_default.not-CDAR c.in_default.not-CDDR
