-- What a counted term is seen as.
use Rattle.std.specs.Prelude.{◌≡◌, ◌≤◌}
use Rattle.terms.specs.Terms.{nodes}
use Rattle.term_forms.specs.Translation.{levels}
use Rattle.term_forms.specs.declared.counted.Counted.TheInside.{Inside}
use Rattle.term_forms.specs.declared.limits.TheConstants.{MAX_LEVELS, MAX_NODES}

-- the two numbers are the term's own, and keep the limits
pub record IsCounted (a : Inside) : Type 0 where
  pub nodes_are : a.nodes ≡ nodes a.term
  pub levels_is : a.levels ≡ levels a.term
  pub few : a.nodes ≤ MAX_NODES
  pub low : a.levels ≤ MAX_LEVELS
