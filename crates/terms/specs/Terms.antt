-- Terms as plain data.
use Rattle.std.specs.Prelude.{◌≡◌, ◌+◌, ◌&&◌, ℕ, zero, suc, max, Bool, true, false, cond, List, [], ◌∷◌, bytes_eq, refl}
use Rattle.std.proofs.Common.{sym, ap, ◌∙◌}
use base.Stored.{Gv, gnil, gnum, gcons, num, Coded}
use Rattle.lisp_data.specs.Codes.{code_nats, nats_of, nats_of-code}
use Rattle.lisp_data.specs.Values.{Name, Val, same_val, code_val, val_from, val_from-code}

-- a variable, a quoted value, or a call of a name on arguments
mutual
  pub data Tm : Type 0 where
    Var : Name → Tm
    Quote : Val → Tm
    Call : Name → Tms → Tm

  pub data Tms : Type 0 where
    Done : Tms
    More : Tm → Tms → Tms

abbrev mutual
  pub same_tm : Tm → Tm → Bool
  same_tm (Var x) (Var y) = bytes_eq x y
  same_tm (Quote v) (Quote w) = same_val v w
  same_tm (Call f ts) (Call g us) = bytes_eq f g && same_tms ts us
  same_tm _ _ = false

  pub same_tms : Tms → Tms → Bool
  same_tms Done Done = true
  same_tms (More t ts) (More u us) = same_tm t u && same_tms ts us
  same_tms _ _ = false

-- how many arguments there are
abbrev pub count : Tms → ℕ
count Done = 0
count (More t ts) = suc (count ts)

-- a list of terms, as arguments
abbrev pub tms : List Tm → Tms
tms [] = Done
tms (t ∷ ts) = More t (tms ts)

-- arguments, as a list
abbrev pub tm_list : Tms → List Tm
tm_list Done = []
tm_list (More t ts) = t ∷ tm_list ts

-- how many steps down the deepest part lies: it falls from a term to each of its arguments
abbrev mutual
  pub depth : Tm → ℕ
  depth (Var x) = 0
  depth (Quote v) = 0
  depth (Call f ts) = depths ts

  pub depths : Tms → ℕ
  depths Done = 0
  depths (More t ts) = max (depth t + 1) (depths ts)

-- how many variables, quoted values and calls the term has
abbrev mutual
  pub nodes : Tm → ℕ
  nodes (Var x) = 1
  nodes (Quote v) = 1
  nodes (Call f ts) = nodes_in ts + 1

  pub nodes_in : Tms → ℕ
  nodes_in Done = 0
  nodes_in (More t ts) = nodes t + nodes_in ts

-- each variable satisfies P, and each call's name and number of arguments Q
abbrev mutual
  pub Over : (Name → Type 0) → (Name → ℕ → Type 0) → Tm → Type 0
  Over P Q (Var x) = P x
  Over P Q (Quote v) = Unit {0}
  Over P Q (Call f ts) = Q f (count ts) × OverAll P Q ts

  pub OverAll : (Name → Type 0) → (Name → ℕ → Type 0) → Tms → Type 0
  OverAll P Q Done = Unit {0}
  OverAll P Q (More t ts) = Over P Q t × OverAll P Q ts

-- the variables become what s gives, all at once
abbrev mutual
  pub substitute : (Name → Tm) → Tm → Tm
  substitute s (Var x) = s x
  substitute s (Quote v) = Quote v
  substitute s (Call f ts) = Call f (substitute_all s ts)

  pub substitute_all : (Name → Tm) → Tms → Tms
  substitute_all s Done = Done
  substitute_all s (More t ts) = More (substitute s t) (substitute_all s ts)

-- the formals become the arguments, and another variable stays
abbrev pub by_args : List Name → Tms → Name → Tm
by_args [] ts x = Var x
by_args (y ∷ ys) Done x = Var x
by_args (y ∷ ys) (More t ts) x = cond (bytes_eq y x) t (by_args ys ts x)

-- the code by which a proof tells terms apart
abbrev mutual
  pub code_tm : Tm → Gv
  code_tm (Var x) = gcons (gnum 0) (gcons (code_nats x) gnil)
  code_tm (Quote v) = gcons (gnum 1) (gcons (code_val v) gnil)
  code_tm (Call f ts) = gcons (gnum 2) (gcons (code_nats f) (code_tms ts))

  pub code_tms : Tms → Gv
  code_tms Done = gnil
  code_tms (More t ts) = gcons (code_tm t) (code_tms ts)

abbrev pub tm_at : ℕ → Gv → Tms → Tm
tm_at zero g ts = Var (nats_of g)
tm_at (suc zero) g ts = Quote (val_from g)
tm_at (suc (suc n)) g ts = Call (nats_of g) ts

abbrev mutual
  pub tm_from : Gv → Tm
  tm_from gnil = Var []
  tm_from (gnum n) = Var []
  tm_from (gcons k gnil) = Var []
  tm_from (gcons k (gnum n)) = Var []
  tm_from (gcons k (gcons a b)) = tm_at (num k) a (tms_from b)

  pub tms_from : Gv → Tms
  tms_from gnil = Done
  tms_from (gnum n) = Done
  tms_from (gcons a b) = More (tm_from a) (tms_from b)

mutual
  pub tm_from-code : (t : Tm) → tm_from (code_tm t) ≡ t
  tm_from-code (Var x) = ap Var (nats_of-code x)
  tm_from-code (Quote v) = ap Quote (val_from-code v)
  tm_from-code (Call f ts) = λ i. Call (nats_of-code f i) (tms_from-code ts i)

  pub tms_from-code : (ts : Tms) → tms_from (code_tms ts) ≡ ts
  tms_from-code Done = refl
  tms_from-code (More t ts) = λ i. More (tm_from-code t i) (tms_from-code ts i)

abbrev pub tm_code : Coded Tm
tm_code = record { code = code_tm; inj = λ x y p. sym (tm_from-code x) ∙ ap tm_from p ∙ tm_from-code y }
