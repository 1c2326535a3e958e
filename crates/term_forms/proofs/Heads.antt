-- Words by their names.
use Rattle.std.proofs.Common.{◌≡◌, codes, subst}
use Rattle.lisp_data.specs.Values.{Name}
use Rattle.terms.proofs.Names.{name_apart}
use Rattle.term_forms.specs.Heads.{IsOther}

pub is_other : (text f : Name) → text ≡ f → (text ≡ codes "QUOTE" → ⊥) → (text ≡ codes "LET" → ⊥) → (text ≡ codes "LET*" → ⊥) → (text ≡ codes "COND" → ⊥) → IsOther f
is_other text f e a b c d = subst IsOther e (record {
  no_quote = name_apart text (codes "QUOTE") a;
  no_let = name_apart text (codes "LET") b;
  no_let_in_turn = name_apart text (codes "LET*") c;
  no_cond = name_apart text (codes "COND") d;
})

pub ruleset words = (is_other)
