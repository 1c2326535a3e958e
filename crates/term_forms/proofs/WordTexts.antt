-- Words by their texts.
use Rattle.std.proofs.Common.{◌≡◌, false, Option, None, codes, bytes_eq, ap, sym, ◌∙◌}
use Rattle.lisp_data.specs.Values.{Name}
use Rattle.term_forms.specs.Macros.{Macro, macro}
use Rattle.terms.proofs.Names.{name_apart}

pub at_text : (text name word : Name) (o : Option Macro) → text ≡ name → text ≡ word → o ≡ macro word → o ≡ macro name
at_text text name word o p q e = e ∙ ap macro (sym q ∙ p)

no-word : (s : Name) →
    bytes_eq s (codes "AND") ≡ false →
    bytes_eq s (codes "OR") ≡ false →
    bytes_eq s (codes "LIST") ≡ false →
    bytes_eq s (codes "+") ≡ false →
    bytes_eq s (codes "*") ≡ false →
    bytes_eq s (codes "APPEND") ≡ false →
    bytes_eq s (codes "-") ≡ false →
    bytes_eq s (codes "1+") ≡ false →
    bytes_eq s (codes "1-") ≡ false →
    bytes_eq s (codes ">") ≡ false →
    bytes_eq s (codes "<=") ≡ false →
    bytes_eq s (codes ">=") ≡ false →
    bytes_eq s (codes "=") ≡ false →
    bytes_eq s (codes "EQ") ≡ false →
    bytes_eq s (codes "EQL") ≡ false →
    bytes_eq s (codes "FIRST") ≡ false →
    bytes_eq s (codes "REST") ≡ false →
    bytes_eq s (codes "CAAR") ≡ false →
    bytes_eq s (codes "CADR") ≡ false →
    bytes_eq s (codes "CDAR") ≡ false →
    bytes_eq s (codes "CDDR") ≡ false → None ≡ macro s
unfolding macro
no-word s h0 h1 h2 h3 h4 h5 h6 h7 h8 h9 h10 h11 h12 h13 h14 h15 h16 h17 h18 h19 h20 = simp (h0, h1, h2, h3, h4, h5, h6, h7, h8, h9, h10, h11, h12, h13, h14, h15, h16, h17, h18, h19, h20)

-- a text that is none of them
pub other-word : (text name : Name) → text ≡ name →
    (text ≡ codes "AND" → ⊥) →
    (text ≡ codes "OR" → ⊥) →
    (text ≡ codes "LIST" → ⊥) →
    (text ≡ codes "+" → ⊥) →
    (text ≡ codes "*" → ⊥) →
    (text ≡ codes "APPEND" → ⊥) →
    (text ≡ codes "-" → ⊥) →
    (text ≡ codes "1+" → ⊥) →
    (text ≡ codes "1-" → ⊥) →
    (text ≡ codes ">" → ⊥) →
    (text ≡ codes "<=" → ⊥) →
    (text ≡ codes ">=" → ⊥) →
    (text ≡ codes "=" → ⊥) →
    (text ≡ codes "EQ" → ⊥) →
    (text ≡ codes "EQL" → ⊥) →
    (text ≡ codes "FIRST" → ⊥) →
    (text ≡ codes "REST" → ⊥) →
    (text ≡ codes "CAAR" → ⊥) →
    (text ≡ codes "CADR" → ⊥) →
    (text ≡ codes "CDAR" → ⊥) →
    (text ≡ codes "CDDR" → ⊥) → None ≡ macro name
other-word text name p h0 h1 h2 h3 h4 h5 h6 h7 h8 h9 h10 h11 h12 h13 h14 h15 h16 h17 h18 h19 h20 =
    no-word text
    (name_apart text (codes "AND") h0)
    (name_apart text (codes "OR") h1)
    (name_apart text (codes "LIST") h2)
    (name_apart text (codes "+") h3)
    (name_apart text (codes "*") h4)
    (name_apart text (codes "APPEND") h5)
    (name_apart text (codes "-") h6)
    (name_apart text (codes "1+") h7)
    (name_apart text (codes "1-") h8)
    (name_apart text (codes ">") h9)
    (name_apart text (codes "<=") h10)
    (name_apart text (codes ">=") h11)
    (name_apart text (codes "=") h12)
    (name_apart text (codes "EQ") h13)
    (name_apart text (codes "EQL") h14)
    (name_apart text (codes "FIRST") h15)
    (name_apart text (codes "REST") h16)
    (name_apart text (codes "CAAR") h17)
    (name_apart text (codes "CADR") h18)
    (name_apart text (codes "CDAR") h19)
    (name_apart text (codes "CDDR") h20)
    ∙ ap macro p
