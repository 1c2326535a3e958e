-- The code by which a proof tells clauses apart.
use Rattle.std.specs.Prelude.{◌≡◌, ℕ, Bool, true, false, nat_eq, if◌then◌else◌, refl}
use Rattle.std.proofs.Common.{sym, ap, ◌∙◌}
use base.Stored.{Gv, gnil, gnum, gcons, num, Coded}
use Rattle.terms.specs.Terms.{code_tm, tm_from, tm_from-code}
use Rattle.term_forms.specs.Translation.{Clause}

abbrev pub flag : Bool → ℕ
flag b = if b then 1 else 0

abbrev pub code_clause : Clause → Gv
code_clause c = gcons (gnum (flag c.is_last)) (gcons (code_tm c.test) (code_tm c.answer))

abbrev pub rest_from : Bool → Gv → Clause
rest_from b gnil = record { is_last = b; test = tm_from gnil; answer = tm_from gnil }
rest_from b (gnum n) = record { is_last = b; test = tm_from gnil; answer = tm_from gnil }
rest_from b (gcons t a) = record { is_last = b; test = tm_from t; answer = tm_from a }

abbrev pub clause_from : Gv → Clause
clause_from gnil = rest_from false gnil
clause_from (gnum n) = rest_from false gnil
clause_from (gcons f r) = rest_from (nat_eq (num f) 1) r

pub flag-code : (b : Bool) → nat_eq (flag b) 1 ≡ b
flag-code true = refl
flag-code false = refl

pub clause_from-code : (c : Clause) → clause_from (code_clause c) ≡ c
clause_from-code c = λ i. record { is_last = flag-code c.is_last i; test = tm_from-code c.test i; answer = tm_from-code c.answer i }

abbrev pub clause_code : Coded Clause
clause_code = record { code = code_clause; inj = λ x y p. sym (clause_from-code x) ∙ ap clause_from p ∙ clause_from-code y }
