-- Rules: what an instance of a rule's left side becomes.
use Rattle.std.specs.Prelude.{Bool, true, ◌&&◌, bytes_eq, List, [], ◌∷◌, ◌++◌, Option, Some, None}
use Rattle.lisp_data.specs.Values.{Name}
use Rattle.terms.specs.Primitives.{lookup}
use Rattle.terms.specs.Substitution.{Pairs, by_pairs}
use Rattle.terms.specs.Terms.{Tm, Var, Quote, Call, Tms, Done, More, same_tm, substitute}
use Rattle.terms.specs.Evaluation.{then_with}
use Rattle.reduction.specs.declared.found.Found.{Found}
use Rattle.reduction.specs.declared.found.Reason.TheVariants.{Ruled}
use Rattle.reduction.specs.declared.rules.Rule.{Rule}
use Rattle.reduction.specs.Finding.{only, when, first}
use Rattle.reduction.specs.Found.{becomes}
use Rattle.reduction.specs.Hyps.{proves}

-- a new variable gets the term, and another has to have it
abbrev pub bound_to : Name → Tm → Pairs → Option Tm → Option Pairs
bound_to x t s None = Some (s ++ (x, t) ∷ [])
bound_to x t s (Some u) = when (same_tm u t) s

-- the substitution, which begins with s, under which the pattern is the term
abbrev mutual
  pub matched : Tm → Tm → Pairs → Option Pairs
  matched (Var x) t s = bound_to x t s (lookup s x)
  matched (Quote v) t s = when (same_tm (Quote v) t) s
  matched (Call f ps) (Call g ts) s = only (bytes_eq f g) (matched_all ps ts s)
  matched (Call f ps) (Var x) s = None
  matched (Call f ps) (Quote v) s = None

  pub matched_all : Tms → Tms → Pairs → Option Pairs
  matched_all Done Done s = Some s
  matched_all (More p ps) (More t ts) s = then_with (matched p t s) (matched_all ps ts)
  matched_all Done (More t ts) s = None
  matched_all (More p ps) Done s = None

-- under s, each is a hypothesis or a quoted value other than NIL
abbrev pub all_proved : List Tm → Pairs → List Tm → Bool
all_proved hs s [] = true
all_proved hs s (p ∷ ps) = proves hs (substitute (by_pairs s) p) && all_proved hs s ps

abbrev pub by_match : List Tm → Rule → Pairs → Option Found
by_match hs r s = when (all_proved hs s r.needs) (becomes (substitute (by_pairs s) r.right) (Ruled r.source s))

unfoldable pub by_rule : List Tm → Tm → Rule → Option Found
by_rule hs t r = then_with (matched r.left t []) (by_match hs r)

-- Rule: an instance of a rule's left side becomes the instance of its right side, where what the rule needs is proved
abbrev pub by_rules : List Rule → List Tm → Tm → Option Found
by_rules rs hs t = first (by_rule hs t) rs
