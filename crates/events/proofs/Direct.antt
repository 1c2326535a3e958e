-- Plans without claims, which need no proofs of claims.
use Rattle.std.proofs.Common.{◌≡◌, [], Ok, refl, sym, subst}
use Rattle.terms.specs.Worlds.{World}
use Rattle.term_forms.specs.Translation.{Outcome, and_then, map_outcome}
use Rattle.plans.specs.declared.plan.Plan.{Plan}
use Rattle.plans.specs.declared.claims.Claims.{Claims}
use Rattle.plans.specs.Entries.{add_functions}
use Rattle.plans.specs.Plans.{IsDirect}
use Rattle.plans.specs.Proving.{ProvesAll, AreClaimed, no_claims}
use Rattle.events.specs.Frames.{Judged, coded}
use Rattle.events.proofs.Inversions.{then_ok, map_ok, coded_ok}

-- each plan that comes of it is without claims
abbrev pub AreDirect : Judged Plan → Type 0
AreDirect o = (p : Plan) → o ≡ Ok p → IsDirect p

-- a plan without claims
pub one_direct : (q : Plan) → IsDirect q → AreDirect (Ok q)
one_direct q d p e = let same : q ≡ p = cc in subst IsDirect same d

-- a plan made of what was read
pub mapped_direct : {A : Type 0} (f : A → Plan) → ((x : A) → IsDirect (f x)) → (o : Outcome A) → AreDirect (coded (map_outcome f o))
mapped_direct f d o p e = let m = map_ok o f p (coded_ok (map_outcome f o) p e) in subst IsDirect m.2 (d m.0)

-- of what was read in two steps
pub then_direct : {A B : Type 0} (f : A → B → Plan) → ((x : A) (y : B) → IsDirect (f x y)) → (o : Outcome A) (k : A → Outcome B) → AreDirect (coded (and_then o (λ x. map_outcome (f x) (k x))))
then_direct f d o k p e =
    let t = then_ok o (λ x. map_outcome (f x) (k x)) p (coded_ok (and_then o (λ x. map_outcome (f x) (k x))) p e) in
    let m = map_ok (k t.0) (f t.0) p t.2 in
    subst IsDirect m.2 (d t.0 m.0)

-- nothing is claimed, so no proofs are proofs of it
pub none_claimed : (W : World) (o : Judged Plan) → AreDirect o → (p : Plan) → o ≡ Ok p → (c : Claims) → c ≡ no_claims → AreClaimed W p c
none_claimed W o direct p is c none =
    let d = direct p is in
    subst (AreClaimed W p) (sym none) (
      subst (λ ss. ProvesAll W ss []) (sym d.before) tt,
      subst (λ ss. ProvesAll (add_functions p.entries W) ss []) (sym d.after) tt,
    )
