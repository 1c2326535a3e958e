-- Forms as plain data.
use Rattle.std.specs.Prelude.{◌≡◌, ◌+◌, ℕ, zero, suc, ℤ, pos, negsuc, max, List, [], ◌∷◌, refl}
use Rattle.std.proofs.Common.{sym, ap, ◌∙◌}
use base.Stored.{Gv, gnil, gnum, gcons, num, Coded}
use Rattle.lisp_data.specs.view.Codes.{code_nats, nats_of, nats_of-code}

-- A list of forms is a chain of pairs, which ends with the symbol NIL or with the form after the point.
pub data Datum : Type 0 where
  IntForm : ℤ → Datum
  SymForm : List ℕ → Datum
  TextForm : List ℕ → Datum
  PairForm : Datum → Datum → Datum

-- the symbol NIL, which is the empty list
abbrev pub nil_form : Datum
nil_form = SymForm (78 ∷ 73 ∷ 76 ∷ [])

-- items, and what comes after them
abbrev pub chain : List Datum → Datum → Datum
chain [] end = end
chain (f ∷ fs) end = PairForm f (chain fs end)

-- how many pairs lie on the longest path
abbrev pub depth : Datum → ℕ
depth (IntForm z) = 0
depth (SymForm s) = 0
depth (TextForm s) = 0
depth (PairForm a d) = max (depth a) (depth d) + 1

abbrev pub deepest : List Datum → ℕ
deepest [] = 0
deepest (f ∷ fs) = max (depth f + 1) (deepest fs)

-- the code by which a proof tells forms apart
abbrev pub code_datum : Datum → Gv
code_datum (IntForm (pos n)) = gcons (gnum 0) (gnum n)
code_datum (IntForm (negsuc n)) = gcons (gnum 1) (gnum n)
code_datum (SymForm s) = gcons (gnum 2) (code_nats s)
code_datum (TextForm s) = gcons (gnum 3) (code_nats s)
code_datum (PairForm a d) = gcons (gnum 4) (gcons (code_datum a) (code_datum d))

abbrev pub datum_at : ℕ → Gv → Datum → Datum → Datum
datum_at zero g a d = IntForm (pos (num g))
datum_at (suc zero) g a d = IntForm (negsuc (num g))
datum_at (suc (suc zero)) g a d = SymForm (nats_of g)
datum_at (suc (suc (suc zero))) g a d = TextForm (nats_of g)
datum_at (suc (suc (suc (suc n)))) g a d = PairForm a d

abbrev pub datum_from : Gv → Datum
datum_from gnil = SymForm []
datum_from (gnum n) = SymForm []
datum_from (gcons t gnil) = datum_at (num t) gnil (SymForm []) (SymForm [])
datum_from (gcons t (gnum n)) = datum_at (num t) (gnum n) (SymForm []) (SymForm [])
datum_from (gcons t (gcons a d)) = datum_at (num t) (gcons a d) (datum_from a) (datum_from d)

pub datum_from-code : (f : Datum) → datum_from (code_datum f) ≡ f
datum_from-code (IntForm (pos n)) = refl
datum_from-code (IntForm (negsuc n)) = refl
datum_from-code (SymForm []) = refl
datum_from-code (SymForm (n ∷ ns)) = ap SymForm (nats_of-code (n ∷ ns))
datum_from-code (TextForm []) = refl
datum_from-code (TextForm (n ∷ ns)) = ap TextForm (nats_of-code (n ∷ ns))
datum_from-code (PairForm a d) = λ i. PairForm (datum_from-code a i) (datum_from-code d i)

abbrev pub datum_code : Coded Datum
datum_code = record { code = code_datum; inj = λ x y p. sym (datum_from-code x) ∙ ap datum_from p ∙ datum_from-code y }
