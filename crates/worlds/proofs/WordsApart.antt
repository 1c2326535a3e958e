-- No word of the syntax of terms is a function.
use Rattle.std.proofs.Common.{◌≡◌, ℕ, Bool, true, false, cond, not, ◌||◌, List, [], ◌∷◌, ◌++◌, bytes_eq, Option, Some, None, refl, sym, ap, subst, ◌∙◌}
use Rattle.std.proofs.lemmas.Bool.{and_parts, not-true, false_from_ne_true, false≢true}
use Rattle.std.specs.List.{list_all}
use Rattle.std.specs.Option.{is_some}
use Rattle.lisp_data.specs.Values.{Name}
use Rattle.terms.specs.Primitives.{primitive, primitives, lookup}
use Rattle.terms.specs.Definitions.{find}
use Rattle.terms.specs.BuiltIn.{initial_definitions, list_definitions, number_definitions, truth_definitions}
use Rattle.terms.specs.Sound.{initial_world, add_definition, add_variable}
use Rattle.terms.specs.Worlds.{World, names, is_in, arity, arity_by}
use Rattle.terms.specs.declared.definition.Definition.{Definition}
use Rattle.terms.proofs.Names.{same_name}
use Rattle.worlds.specs.Names.{built_in, macros, binders, initial_theorems, given, reserved, is_free, WordsAreNoFunctions}
use Rattle.terms.proofs.Members.{is_in-append}
use Rattle.worlds.proofs.Reserved.{is_in-reserved}

-- a test of a list is one of each name in it
of_each : (p : Name → Bool) (xs : List Name) (n : Name) → list_all p xs ≡ true → is_in xs n ≡ true → p n ≡ true
of_each p [] n h e = absurd (cc)
of_each p (x ∷ xs) n h e = by_test (bytes_eq x n) refl e (of_each p xs n (and_parts (p x) (list_all p xs) h).1)
  where
    by_test : (b : Bool) → bytes_eq x n ≡ b → (b || is_in xs n) ≡ true → (is_in xs n ≡ true → p n ≡ true) → p n ≡ true
    by_test true same e' ih = subst (λ m. p m ≡ true) (same_name x n same) (and_parts (p x) (list_all p xs) h).0
    by_test false same e' ih = ih e'

within : (a b c d : Bool) → (b || c) ≡ true → (a || (b || (c || d))) ≡ true
within true b c d e = refl
within false true c d e = refl
within false false true d e = refl
within false false false d e = absurd (cc)

words_given : (n : Name) → is_in (macros ++ binders) n ≡ true → is_in given n ≡ true
unfolding given
words_given n e =
    is_in-append built_in (macros ++ (binders ++ initial_theorems)) n
    ∙ ap (λ b. is_in built_in n || b) (is_in-append macros (binders ++ initial_theorems) n ∙ ap (λ b. is_in macros n || b) (is_in-append binders initial_theorems n))
    ∙ within (is_in built_in n) (is_in macros n) (is_in binders n) (is_in initial_theorems n) (sym (is_in-append macros binders n) ∙ e)

or_true : (a b : Bool) → b ≡ true → (a || b) ≡ true
or_true true b h = refl
or_true false b h = h

words_reserved : (n : Name) → is_in (macros ++ binders) n ≡ true → is_in reserved n ≡ true
words_reserved n e = is_in-reserved n ∙ or_true (is_some (primitive n)) (is_in given n) (words_given n e)

-- a free name is none of the words
unlike_words : (W : World) (x : Name) → is_free W x ≡ true → (n : Name) → is_in (macros ++ binders) n ≡ true → bytes_eq x n ≡ false
unlike_words W x free n e =
    let allowed = not-true (is_in reserved x) (and_parts (not (is_in reserved x)) (not (is_in (names W) x)) free).0 in
    false_from_ne_true (bytes_eq x n) (λ same. false≢true (sym allowed ∙ ap (is_in reserved) (same_name x n same) ∙ words_reserved n e))

no_initial_function : list_all (λ f. not (is_some (arity initial_world.functions f))) (macros ++ binders) ≡ true
unfolding macros binders primitive primitives initial_definitions list_definitions number_definitions truth_definitions
no_initial_function = refl

none : {A : Type 0} (o : Option A) → not (is_some o) ≡ true → o ≡ None
none None h = refl
none (Some x) h = absurd (cc)

pub words_begin : WordsAreNoFunctions initial_world
words_begin f e =
    none (arity initial_world.functions f) (of_each (λ g. not (is_some (arity initial_world.functions g))) (macros ++ binders) f no_initial_function e)

pub words_stay-definition : (W : World) → WordsAreNoFunctions W → (d : Definition) → is_free W d.name ≡ true → WordsAreNoFunctions (add_definition d W)
words_stay-definition W kept d free f e =
    ap (λ b. arity_by (primitive f) (cond b (Some d) (find W.functions.defs f)) (lookup W.functions.vars f)) (unlike_words W d.name free f e) ∙ kept f e

pub words_stay-variable : (W : World) → WordsAreNoFunctions W → (x : Name) (k : ℕ) → is_free W x ≡ true → WordsAreNoFunctions (add_variable x k W)
words_stay-variable W kept x k free f e =
    ap (λ b. arity_by (primitive f) (find W.functions.defs f) (cond b (Some k) (lookup W.functions.vars f))) (unlike_words W x free f e) ∙ kept f e
