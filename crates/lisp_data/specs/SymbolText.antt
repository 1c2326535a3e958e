-- Which symbol a text names.
use Rattle.std.specs.Prelude.{◌≡◌, ℕ, Bool, true, false, ◌&&◌, bytes_eq, List, Result, Ok, Err}
use Rattle.std.specs.List.{list_all}
use Rattle.lisp_data.specs.Atoms.{in_atom, Leaf, Integer, Named, Point, Wrong, leaf}
use Rattle.lisp_data.specs.declared.symbol.SymbolError.{SymbolError}
use Rattle.lisp_data.specs.declared.symbol.SymbolError.TheVariants.{BadText, Memory}

-- as an atom of a book, the text is the symbol s
pub record NamesSymbol (text s : List ℕ) : Type 0 where
  pub atom : list_all in_atom text ≡ true
  pub symbol : leaf false text ≡ Named s

-- the text of a symbol names that symbol: so it is no longer than MAX_SYMBOL, and has no small letter
abbrev pub IsSymbolText : List ℕ → Type 0
IsSymbolText s = NamesSymbol s s

-- the atom is the symbol of this text
abbrev pub is_named : Leaf → List ℕ → Bool
is_named (Integer z) s = false
is_named (Named text) s = bytes_eq text s
is_named Point s = false
is_named (Wrong code place) s = false

-- the text of a symbol, as a test that can be computed
unfoldable pub is_symbol_text : List ℕ → Bool
is_symbol_text s = list_all in_atom s && is_named (leaf false s) s

-- what making the symbol of a text answers
abbrev pub SaysNew : List ℕ → Result (List ℕ) SymbolError → Type 0
SaysNew text (Ok s) = NamesSymbol text s
SaysNew text (Err BadText) = (s : List ℕ) → NamesSymbol text s → ⊥
SaysNew text (Err Memory) = (s : List ℕ) × NamesSymbol text s
