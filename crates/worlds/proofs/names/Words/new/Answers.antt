use Rattle.std.proofs.Common.{◌∙◌, ap, cond, Some}
use Rattle.std.specs.Option.{option_or, option_map}
use Rattle.terms.specs.Primitives.{primitive, primitives, operands}
use Rattle.terms.specs.Worlds.{is_in}
use Rattle.worlds.specs.Names.{built_in, macros, binders, initial_theorems, given}
use Rattle.worlds.specs.Words.{word_at}
use Rattle.worlds.specs.declared.names.Word.TheVariants.{Primitive, Given}
use Rattle.worlds.proofs.Reserved.{lookup-operands, no_words}
use Rattle.worlds.proofs.names.Words.new.Goals as goal

pub returns : goal.returns
unfolding primitives built_in macros binders initial_theorems given
returns c = λ n.
    c.in_ok-add_primitives.ensures n
    ∙ ap (λ o. option_or (option_map (λ k. Primitive k) o) (word_at c.add_given.new.self n)) (lookup-operands n)
    ∙ ap (λ o. option_or (option_map (λ k. Primitive k) (option_map operands (primitive n))) o)
    (c.in_ok-add_given.ensures n ∙ ap (λ o. cond (is_in given n) (Some Given) o) (no_words (record { places = c.new.result }) c.new.ensures.empty n))
