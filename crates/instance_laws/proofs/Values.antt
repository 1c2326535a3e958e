-- A term under a map that is closed under calls has the value that the term has under the extended interpretation.
use Rattle.std.proofs.Common.{◌≡◌, ℕ, zero, suc, Bool, true, false, cond, List, [], ◌∷◌, length, bytes_eq, nat_eq, codes, Option, Some, None, refl, sym, ap, ◌∙◌, subst}
use Rattle.lisp_data.specs.Values.{Name, Val}
use Rattle.terms.specs.Primitives.{Operation, Three, choose, operate, primitive, lookup}
use Rattle.terms.specs.Terms.{Tm, Var, Quote, Call, Tms, Done, More, OverAll}
use Rattle.terms.specs.Definitions.{find, Interp}
use Rattle.terms.specs.Evaluation.{Env, bind, then_with, all_of, branch, call_of, value, values, Runner, resolve, variable, action, below}
use Rattle.terms.specs.Worlds.{is_in}
use Rattle.terms.specs.declared.definition.Definition.{Definition}
use Rattle.terms.proofs.Names.{same_name}
use Rattle.terms.proofs.Below.{Below, below_self, below_use, below_from, below_cond, below_equal, AllBelow, below_branch}
use Rattle.terms.proofs.Models.{somes, call_of-somes, is_if}
use Rattle.terms.specs.Maps.{NamePairs, image, or_name, rename, rename_all}
use Rattle.instance_laws.specs.Closed.{extended, CallsOnly, IsClosed}
use Rattle.instance_laws.specs.Laws.{InstancesHaveValues}

some_is : {A : Type 0} {x y : A} → Some x ≡ Some y → x ≡ y
some_is e = cc

-- where what comes of an option has a value, the option has one
then_some : {A B : Type 0} (o : Option A) (k : A → Option B) (b : B) → then_with o k ≡ Some b → (a : A) × (o ≡ Some a) × (k a ≡ Some b)
then_some None k b e = absurd (cc)
then_some (Some a) k b e = (a, refl, e)

-- where all arguments have values, what is above has the same
all_values : (ps qs : List (Option Val)) (vs : List Val) → AllBelow ps qs → all_of ps ≡ Some vs → qs ≡ somes vs
all_values [] [] vs h e = ap somes (some_is e)
all_values [] (q ∷ qs) vs h e = absurd h
all_values (p ∷ ps) [] vs h e = absurd h
all_values (p ∷ ps) (q ∷ qs) vs h e =
    let a = then_some p _ vs e in
    let b = then_some (all_of ps) _ vs a.2 in
    let here = below_use p q a.0 h.0 a.1 in
    let rest = all_values ps qs b.0 h.1 b.1 in
    let l : somes (a.0 ∷ b.0) ≡ somes vs = ap somes (some_is b.2) in
    ap (λ o. o ∷ qs) here ∙ ap (λ os. Some a.0 ∷ os) rest ∙ l

-- a call under the map
module _ (ds ds' : List Definition) (I I' : Interp) (r r' : Runner) (f g : Name) (if_stays : codes "IF" ≡ f → f ≡ g) (more : (vs : List Val) → Below (action r ds I f vs) (action r' ds' I' g vs)) where
  call_moves : (ps qs : List (Option Val)) → AllBelow ps qs → Below (call_of (action r ds I) f ps) (call_of (action r' ds' I') g qs)
  call_moves ps qs h = by_test (bytes_eq (codes "IF") f) refl
    where
      by_test : (b : Bool) → bytes_eq (codes "IF") f ≡ b → Below (cond b (branch ps) (then_with (all_of ps) (action r ds I f))) (call_of (action r' ds' I') g qs)
      by_test true e =
          subst (λ b. Below (branch ps) (cond b (branch qs) (then_with (all_of qs) (action r' ds' I' g))))
          (sym e ∙ ap (bytes_eq (codes "IF")) (if_stays (same_name (codes "IF") f e)))
          (below_branch ps qs h)
      by_test false e =
          below_from _ _ (λ v s.
          let vs = then_some (all_of ps) (action r ds I f) v s in
          ap (call_of (action r' ds' I') g) (all_values ps qs vs.0 h vs.1)
          ∙ call_of-somes r' ds' I' g vs.0 v (below_use _ _ v (more vs.0) vs.2))

-- what a name without a definition stands for
module _ (ds : List Definition) (I : Interp) where
  pub variable_is : (r : Runner) (f : Name) (vs : List Val) → primitive f ≡ None → find ds f ≡ None → (m : NamePairs) → variable r (extended ds m I) f vs ≡ action r ds I (or_name f (lookup m f)) vs
  variable_is r f vs p e [] = sym (ap (λ o. resolve o (find ds f) (r ds I) (variable r I f vs) vs) p ∙ ap (λ o. resolve None o (r ds I) (variable r I f vs) vs) e)
  variable_is r f vs p e (x ∷ m) = by_test (bytes_eq x.0 f) (variable_is r f vs p e m)
    where
      by_test : (b : Bool) → variable r (extended ds m I) f vs ≡ action r ds I (or_name f (lookup m f)) vs → cond b (action r ds I x.1 vs) (variable r (extended ds m I) f vs) ≡ action r ds I (or_name f (cond b (Some x.1) (lookup m f))) vs
      by_test true ih = refl
      by_test false ih = ih

module _ (ds : List Definition) (m : NamePairs) (listed : List Name) (is : IsClosed ds m listed) (I : Interp) where
  abbrev Moves : Runner → Type 0
  Moves r = (t : Tm) (env : Env) → CallsOnly ds listed t → Below (r ds (extended ds m I) t env) (r ds I (rename m t) env)

  action_moves : (r : Runner) → Moves r → (f : Name) → ((d : Definition) → find ds f ≡ Some d → is_in listed f ≡ true) → (vs : List Val) → Below (action r ds (extended ds m I) f vs) (action r ds I (image m f) vs)
  action_moves r ih f inside vs = by_primitive (primitive f) refl
    where
      by_definition : (q : Option Definition) → primitive f ≡ None → find ds f ≡ q → Below (resolve None q (r ds (extended ds m I)) (variable r (extended ds m I) f vs) vs) (action r ds I (image m f) vs)
      by_definition None p e = below_equal _ _ (variable_is ds I r f vs p e m)
      by_definition (Some d) p e =
          let h = is.images f d (inside d e) e in
          let run = r ds I in
          let o = variable r I (image m f) vs in
          let to : action r ds I (image m f) vs ≡ cond (nat_eq (length d.formals) (length vs)) (r ds I (rename m d.body) (bind d.formals vs)) None =
          ap (λ x. resolve x (find ds (image m f)) run o vs) h.not_primitive
          ∙ ap (λ x. resolve None x run o vs) h.found
          ∙ ap (λ ys. cond (nat_eq (length ys) (length vs)) (run h.instance.body (bind ys vs)) None) h.formals
          ∙ ap (λ b. cond (nat_eq (length d.formals) (length vs)) (run b (bind d.formals vs)) None) h.body in
          subst (Below _) (sym to) (below_cond (nat_eq (length d.formals) (length vs)) _ _ None None (ih d.body (bind d.formals vs) (is.calls f d (inside d e) e)) tt)

      by_primitive : (q : Option Operation) → primitive f ≡ q → Below (resolve q (find ds f) (r ds (extended ds m I)) (variable r (extended ds m I) f vs) vs) (action r ds I (image m f) vs)
      by_primitive None p = by_definition (find ds f) p refl
      by_primitive (Some q) p =
          let to : action r ds I (image m f) vs ≡ operate q vs =
          ap (λ g. action r ds I g vs) (is.primitives f q p) ∙ ap (λ x. resolve x (find ds f) (r ds I) (variable r I f vs) vs) p in
          below_equal _ _ (sym to)

  module _ (r : Runner) (ih : Moves r) where
    mutual
      value_moves : (t : Tm) (env : Env) → CallsOnly ds listed t → Below (value (action r ds (extended ds m I)) t env) (value (action r ds I) (rename m t) env)
      value_moves (Var x) env o = below_self (env x)
      value_moves (Quote v) env o = refl
      value_moves (Call f ts) env o =
          call_moves ds ds (extended ds m I) I r r f (image m f)
          (λ e. sym (subst (λ g. image m g ≡ g) e (is.primitives (codes "IF") (Three choose) is_if)))
          (action_moves r ih f o.0)
          (values (action r ds (extended ds m I)) ts env) (values (action r ds I) (rename_all m ts) env) (values_move ts env o.1)

      values_move : (ts : Tms) (env : Env) → OverAll (λ x. Unit {0}) (λ f k. (d : Definition) → find ds f ≡ Some d → is_in listed f ≡ true) ts → AllBelow (values (action r ds (extended ds m I)) ts env) (values (action r ds I) (rename_all m ts) env)
      values_move Done env o = tt
      values_move (More t ts) env o = (value_moves t env o.0, values_move ts env o.1)

  below_moves : (n : ℕ) → Moves (below n)
  below_moves zero t env o = tt
  below_moves (suc n) t env o = value_moves (below n) (below_moves n) t env o

pub instances_have_values : InstancesHaveValues
instances_have_values ds m listed is n I t o env v e = below_use _ _ v (below_moves ds m listed is I (suc n) t env o) e
