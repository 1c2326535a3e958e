-- What a form is seen as.
use Rattle.std.specs.Prelude.{◌≡◌, Option, Some, None, List, [], ◌∷◌, map}
use Rattle.std.specs.declared.alloc.Global.{Global}
use Rattle.std.specs.declared.rc.Rc.{Rc}
use Rattle.lisp_data.specs.Datum.{Datum, IntForm, SymForm, TextForm, PairForm, nil_form}
use Rattle.lisp_data.specs.declared.form.Forms.{Forms}
use Rattle.lisp_data.specs.declared.form.Form.{Form, Int, Sym, Text, List', Row_of-Form, end_of-Form, more_of-Form, Held-Form-List-1, None', Some'}

unfoldable mutual
  pub form_of : Form → Datum
  form_of (Int z) = IntForm z
  form_of (Sym s) = SymForm s
  form_of (Text s) = TextForm s
  form_of (List' shape row tail) = row_chain row (held_end tail)

  -- items in a row, and what comes after them
  pub row_chain : {m : _} → Row_of-Form m → Datum → Datum
  row_chain end_of-Form end = end
  row_chain (more_of-Form f rest) end = PairForm (form_of f) (row_chain rest end)

  -- what comes after the items of a list
  pub held_end : Held-Form-List-1 → Datum
  held_end None' = nil_form
  held_end (Some' p f) = form_of f

-- a list of forms, as plain data
abbrev pub forms_of : Forms → List Datum
forms_of fs = map form_of fs.items.items

-- the items themselves
abbrev pub items_of : Forms → List Form
items_of fs = fs.items.items

-- an end after a point: neither a list nor NIL
unfoldable pub IsEnd : Form → Type 0
IsEnd (Int z) = Unit {0}
IsEnd (Sym s) = s ≡ 78 ∷ 73 ∷ 76 ∷ [] → ⊥
IsEnd (Text s) = Unit {0}
IsEnd (List' shape row tail) = ⊥

-- each list in it has an item, and an end that is neither a list nor NIL
unfoldable mutual
  pub IsProper : Form → Type 0
  IsProper (Int z) = Unit {0}
  IsProper (Sym s) = Unit {0}
  IsProper (Text s) = Unit {0}
  IsProper (List' shape row tail) = HasItem row × RowIsProper row × HasEnd tail

  pub HasItem : {m : _} → Row_of-Form m → Type 0
  HasItem end_of-Form = ⊥
  HasItem (more_of-Form f rest) = Unit {0}

  pub RowIsProper : {m : _} → Row_of-Form m → Type 0
  RowIsProper end_of-Form = Unit {0}
  RowIsProper (more_of-Form f rest) = IsProper f × RowIsProper rest

  pub HasEnd : Held-Form-List-1 → Type 0
  HasEnd None' = Unit {0}
  HasEnd (Some' p f) = IsProper f × IsEnd f

abbrev pub AllProper : List Form → Type 0
AllProper [] = Unit {0}
AllProper (f ∷ fs) = IsProper f × AllProper fs

-- each form of a list is proper
abbrev pub AreProper : Forms → Type 0
AreProper fs = AllProper (items_of fs)

-- the end of a list
abbrev pub end_of : Option (Rc Form Global) → Datum
end_of None = nil_form
end_of (Some t) = form_of t.value

abbrev pub EndIsProper : Option (Rc Form Global) → Type 0
EndIsProper None = Unit {0}
EndIsProper (Some t) = IsProper t.value × IsEnd t.value
