-- Calls of a reader, one after the other.
use Rattle.std.proofs.Common.{◌≡◌, ℕ, List, [], ◌∷◌, Option, Some, None, Ok, Err, ap, sym, ◌∙◌}
use Rattle.lisp_data.specs.FormView.{form_of}
use Rattle.lisp_reader.specs.Answers.{Answers}
use Rattle.lisp_reader.specs.Calls.{Answer, Run, ReadsInOrder}
use Rattle.lisp_reader.specs.declared.read.ReadError.TheVariants.{Refused, Memory}
use Rattle.lisp_data.specs.declared.code.Code.{Code}

-- where nothing is left, nothing more comes
over : (old new : Answers) (e : Option (Code × ℕ)) (rs : List Answer) → old ≡ ([], e) → Run old rs new → new ≡ ([], e)
over old new e [] h r = sym r ∙ h
over old new e (Ok (Some l) ∷ rs) h r = absurd (let step = r.1 in let both : ((form_of l.form, l.place) ∷ r.0.0, r.0.1) ≡ ([], e) = sym step ∙ h in let first = ap (λ (b : Answers). b.0) both in cc)
over old new e (Ok None ∷ rs) h r = over r.0 new e rs (r.1.1 ∙ h) r.2
over old new e (Err (Refused c p) ∷ rs) h r = over r.0 new e rs (r.1.1 ∙ h) r.2
over old new e (Err Memory ∷ rs) h r = over r.0 new e rs (r.1 ∙ h) r.2

pub in-order : (old : Answers) (rs : List Answer) (new : Answers) → Run old rs new → ReadsInOrder old new rs
in-order old [] new r = record { forms = ap (λ (b : Answers). b.0) r; end = ap (λ (b : Answers). b.1) r; ends = tt }
in-order old (Ok (Some l) ∷ rs) new r =
    let rest = in-order r.0 rs new r.2 in
    let step = r.1 in
    record {
      forms = ap (λ (b : Answers). b.0) step ∙ ap (λ xs. (form_of l.form, l.place) ∷ xs) rest.forms;
      end = ap (λ (b : Answers). b.1) step ∙ rest.end;
      ends = (tt, rest.ends);
    }
in-order old (Ok None ∷ rs) new r =
    let rest = in-order r.0 rs new r.2 in
    record {
      forms = ap (λ (b : Answers). b.0) (sym r.1.1) ∙ rest.forms;
      end = ap (λ (b : Answers). b.1) (sym r.1.1) ∙ rest.end;
      ends = (over r.0 new None rs (r.1.1 ∙ r.1.0) r.2, rest.ends);
    }
in-order old (Err (Refused c p) ∷ rs) new r =
    let rest = in-order r.0 rs new r.2 in
    record {
      forms = ap (λ (b : Answers). b.0) (sym r.1.1) ∙ rest.forms;
      end = ap (λ (b : Answers). b.1) (sym r.1.1) ∙ rest.end;
      ends = (over r.0 new (Some (c, p)) rs (r.1.1 ∙ r.1.0) r.2, rest.ends);
    }
in-order old (Err Memory ∷ rs) new r =
    let rest = in-order r.0 rs new r.2 in
    record {
      forms = ap (λ (b : Answers). b.0) (sym r.1) ∙ rest.forms;
      end = ap (λ (b : Answers). b.1) (sym r.1) ∙ rest.end;
      ends = (tt, rest.ends);
    }

pub ruleset calls = (in-order)
