-- Which symbols are names.
use Rattle.std.specs.Prelude.{ℕ, Bool, false, ◌&&◌, ◌||◌, not, nat_eq, bytes_eq, codes, [], ◌∷◌}
use Rattle.lisp_data.specs.Values.{Name}

-- the first byte is b
abbrev pub begins_with : ℕ → Name → Bool
begins_with b [] = false
begins_with b (c ∷ s) = nat_eq b c

-- the last byte is b
abbrev pub ends_with : ℕ → Name → Bool
ends_with b [] = false
ends_with b (c ∷ []) = nat_eq b c
ends_with b (c ∷ d ∷ s) = ends_with b (d ∷ s)

-- T, NIL, or a keyword, which begins with a colon
abbrev pub is_constant_name : Name → Bool
is_constant_name s = bytes_eq s (codes "T") || bytes_eq s (codes "NIL") || begins_with 58 s

abbrev pub is_function_name : Name → Bool
is_function_name s = not (is_constant_name s)

-- nor does a variable begin with & , or begin and end with *
abbrev pub is_variable_name : Name → Bool
is_variable_name s = not (is_constant_name s) && not (begins_with 38 s) && not (begins_with 42 s && ends_with 42 s)
