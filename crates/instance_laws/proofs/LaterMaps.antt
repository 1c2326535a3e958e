-- What pairs give for a sequent they give in each later sound world.
use Rattle.std.proofs.Common.{◌≡◌, List, [], ◌∷◌, ◌++◌, Some}
use Rattle.terms.specs.Terms.{Tm, OverAll, tms}
use Rattle.terms.specs.Worlds.{Functions, FitsSequent, Each, arity, Fits}
use Rattle.terms.specs.declared.sequent.Sequent.{Sequent}
use Rattle.terms.proofs.Below.{Any}
use Rattle.terms.proofs.Extend.{over_map}
use Rattle.terms.proofs.Lists.{each_join}
use Rattle.terms.proofs.Later.{vars_apart, later_worlds_keep}
use Rattle.terms.specs.Instances.{called, sequent_terms}
use Rattle.instance_laws.specs.Laws.{MapsStay}
use Rattle.terms.proofs.RecordsStay.{HasArity, all_calls_each, map_later}

-- the names that well-formed terms call are functions of the world
each_has : (F : Functions) (ts : List Tm) → Each (Fits F) ts → OverAll Any (λ g k. HasArity F g) (tms ts)
each_has F [] h = tt
each_has F (t ∷ ts) h = (over_map Any Any (λ g k. arity F g ≡ Some k) (λ g k. HasArity F g) (λ x p. p) (λ g k a. record { number = k; is = a }) t h.0, each_has F ts h.1)

sequent_fits : (F : Functions) (s : Sequent) → FitsSequent F s → Each (Fits F) (sequent_terms s)
sequent_fits F s f = each_join (Fits F) s.universals (s.hyps ++ s.goal ∷ []) f.universals (each_join (Fits F) s.hyps (s.goal ∷ []) f.hyps (f.goal, tt))

pub maps_stay : MapsStay
maps_stay W V sound sound_later later s f pairs m e =
    let F = W.functions in
    let ts = sequent_terms s in
    map_later W V (vars_apart W sound) (vars_apart V sound_later) (later_worlds_keep W V sound sound_later later) later.instances pairs [] m (called ts)
    (all_calls_each (HasArity F) (tms ts) (each_has F ts (sequent_fits F s f)) [] tt) e
