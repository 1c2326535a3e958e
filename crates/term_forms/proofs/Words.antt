-- The symbols that a translation makes.
use Rattle.std.proofs.Common.{◌≡◌, true, refl, ap, ◌∙◌}
use Rattle.lisp_data.specs.Values.{Name}
use Rattle.lisp_data.specs.Atoms.{in_atom, is_delimiter, is_sign, leaf}
use Rattle.lisp_data.specs.SymbolText.{is_symbol_text}
use Rattle.term_forms.specs.Words.{text_of}
use Rattle.term_forms.specs.declared.macros.Known.{Known}
use Rattle.term_forms.specs.declared.macros.Known.TheVariants.{T, Nil, If, Cons, Plus, Times, Minus, Less, Not, Equal, Car, Cdr, Append}

names-symbol : (k : Known) → is_symbol_text (text_of k) ≡ true
unfolding is_symbol_text in_atom is_delimiter leaf is_sign
names-symbol T = refl
names-symbol Nil = refl
names-symbol If = refl
names-symbol Cons = refl
names-symbol Plus = refl
names-symbol Times = refl
names-symbol Minus = refl
names-symbol Less = refl
names-symbol Not = refl
names-symbol Equal = refl
names-symbol Car = refl
names-symbol Cdr = refl
names-symbol Append = refl

pub named : (k : Known) (t : Name) → t ≡ text_of k → is_symbol_text t ≡ true
named k t e = ap is_symbol_text e ∙ names-symbol k
