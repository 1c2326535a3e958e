-- Functions whose names rules need again and again.
use Rattle.std.specs.Prelude.{◌≡◌, codes}
use Rattle.lisp_data.specs.Values.{Name}
use Rattle.worlds.specs.declared.connectives.Connective.{Connective}
use Rattle.worlds.specs.declared.connectives.Connective.TheVariants.{Equal, Implies, Not, If, Natp, Less}
use Rattle.worlds.specs.declared.connectives.Connectives.{Connectives}

-- the name of the function
abbrev pub name_of : Connective → Name
name_of Equal = codes "EQUAL"
name_of Implies = codes "IMPLIES"
name_of Not = codes "NOT"
name_of If = codes "IF"
name_of Natp = codes "NATP"
name_of Less = codes "<"

-- each symbol is that of its function
pub record AreNames (made : Connectives) : Type 0 where
  pub equal : made.equal ≡ name_of Equal
  pub implies : made.implies ≡ name_of Implies
  pub not : made.not ≡ name_of Not
  pub conditional : made.conditional ≡ name_of If
  pub natp : made.natp ≡ name_of Natp
  pub less : made.less ≡ name_of Less
