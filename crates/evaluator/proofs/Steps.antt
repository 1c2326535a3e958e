-- The machine's steps keep what comes of the whole.
use Rattle.std.specs.Prelude.{slice_get}
use Rattle.std.proofs.Common.{◌≡◌, ℕ, suc, ◌-◌, ◌≤◌, Bool, true, false, cond, List, [], ◌∷◌, ◌++◌, length, map, take, drop, bytes_eq, Option, Some, None, refl, sym, ap, ◌∙◌, arith, length-drop}
use Rattle.std.proofs.lemmas.List.{map-append, take-take, drop-append-le}
use Rattle.lisp_data.specs.Values.{Name, Val}
use Rattle.terms.specs.Terms.{tms}
use Rattle.terms.specs.declared.definition.Definition.{Definition}
use Rattle.terms.specs.Definitions.{find}
use Rattle.terms.specs.Evaluation.{bind}
use Rattle.evaluator.specs.Counted.{Refusal, Outcome, Stops, then_step, Act}
use Rattle.evaluator.specs.view.Machines.{Waiting, Rest, Either, continue, resumed, env_of, height, base, top, waiting, Lies, Inside, Stacked, StopsWith, weight, heaviest}
use Rattle.evaluator.specs.declared.machine.Scope.{Scope}
use Rattle.evaluator.specs.declared.machine.Frame.{Frame}
use Rattle.evaluator.specs.declared.machine.Frame.TheVariants.{Arguments, Branches}

module _ (act : Act) where
  pub resumed-last : (ws : List Waiting) (w : Waiting) (o : Outcome) → resumed act (ws ++ w ∷ []) o ≡ resumed act ws (then_step o (continue act w))
  resumed-last [] w o = refl
  resumed-last (u ∷ ws) w o = ap (λ p. then_step p (continue act u)) (resumed-last ws w o)

  resumed-stops : (ws : List Waiting) (r : Refusal) → resumed act ws (Stops r) ≡ Stops r
  resumed-stops [] r = refl
  resumed-stops (w ∷ ws) r = ap (λ p. then_step p (continue act w)) (resumed-stops ws r)

  -- a refusal is that of the whole
  pub stops_on : (ws : List Waiting) (o : Outcome) (e : Option Refusal) → StopsWith o e → StopsWith (resumed act ws o) e
  stops_on ws o None h = tt
  stops_on ws o (Some r) h = ap (resumed act ws) h ∙ resumed-stops ws r

  -- one frame more
  pub with_frame : (vs : List Val) (fs : List Frame) (f : Frame) (o : Outcome) → resumed act (map (waiting vs) (fs ++ f ∷ [])) o ≡ resumed act (map (waiting vs) fs) (then_step o (continue act (waiting vs f)))
  with_frame vs fs f o = ap (λ ws. resumed act ws o) (map-append (waiting vs) fs (f ∷ [])) ∙ resumed-last (map (waiting vs) fs) (waiting vs f) o

pub base_le : (f : Frame) → Inside f → base f ≤ height f
base_le (Arguments name rest start h scope) i = i.0
base_le (Branches b d h scope) i = omega arith

pub stacked_push : (low n m : ℕ) (fs : List Frame) (f : Frame) → Stacked low fs n → n ≤ base f → Inside f → height f ≤ m → Stacked low (fs ++ f ∷ []) m
stacked_push low n m [] f h e i le = (omega arith, i, le)
stacked_push low n m (g ∷ fs) f h e i le = (h.0, h.1, stacked_push (height g) n m fs f h.2 e i le)

pub stacked_more : (low n m : ℕ) (fs : List Frame) → Stacked low fs n → n ≤ m → Stacked low fs m
stacked_more low n m [] h le = omega arith
stacked_more low n m (f ∷ fs) h le = (h.0, h.1, stacked_more (height f) n m fs h.2 le)

pub stacked_pop : (low n : ℕ) (fs : List Frame) (f : Frame) → Stacked low (fs ++ f ∷ []) n → Stacked low fs (base f) × Inside f × (height f ≤ n)
stacked_pop low n [] f h = (h.0, h.1, h.2)
stacked_pop low n (g ∷ fs) f h = let r = stacked_pop (height g) n fs f h.2 in ((h.0, h.1, r.0), r.1, r.2)

stacked_le : (low n : ℕ) (fs : List Frame) → Stacked low fs n → low ≤ n
stacked_le low n [] h = h
stacked_le low n (f ∷ fs) h = let le = stacked_le (height f) n fs h.2 in let b = base_le f h.1 in omega (arith, h.0)

-- no frame uses a value from the top on
pub stacked_top : (low n : ℕ) (fs : List Frame) → Stacked low fs n → Stacked low fs (top low fs) × (top low fs ≤ n)
stacked_top low n [] h = (omega arith, h)
stacked_top low n (f ∷ fs) h = let r = stacked_top (height f) n fs h.2 in ((h.0, h.1, r.0), r.1)

pub top_last : (low : ℕ) (fs : List Frame) (f : Frame) → Some f ≡ slice_get fs (length fs - 1) → top low fs ≡ height f
top_last low [] f e = cc
top_last low (g ∷ []) f e = let s : f ≡ g = cc in ap height (sym s)
top_last low (g ∷ k ∷ fs) f e = top_last (height g) (k ∷ fs) f (e ∙ ap (slice_get (g ∷ k ∷ fs)) (less (length fs)))
  where
    less : (n : ℕ) → suc (suc n) - 1 ≡ suc (suc n - 1)
    less n = omega arith

waiting_cut : (f : Frame) (vs us : List Val) → take (height f) vs ≡ take (height f) us → waiting vs f ≡ waiting us f
waiting_cut (Arguments name rest start h scope) vs us e = ap (λ ws. Rest name.now (drop start ws) (tms rest.now) (env_of scope ws)) e
waiting_cut (Branches b d h scope) vs us e = ap (λ ws. Either b.now d.now (env_of scope ws)) e

-- what waits depends on the values below it alone
pub waiting_same : (low n : ℕ) (fs : List Frame) (vs us : List Val) → Stacked low fs n → take n vs ≡ take n us → map (waiting vs) fs ≡ map (waiting us) fs
waiting_same low n [] vs us h e = refl
waiting_same low n (f ∷ fs) vs us h e =
    let le = stacked_le (height f) n fs h.2 in
    let here = waiting_cut f vs us (sym (take-take (height f) n vs le) ∙ ap (take (height f)) e ∙ take-take (height f) n us le) in
    ap (λ w. w ∷ map (waiting vs) fs) here ∙ ap (λ ws. waiting us f ∷ ws) (waiting_same (height f) n fs vs us h.2 e)

bind_more : (ys : List Name) (vs ws : List Val) → length ys ≤ length vs → bind ys (vs ++ ws) ≡ bind ys vs
bind_more [] vs ws le = refl
bind_more (y ∷ ys) [] ws le = absurd (omega arith)
bind_more (y ∷ ys) (v ∷ vs) ws le = λ i x. cond (bytes_eq y x) (Some v) (bind_more ys vs ws (omega arith) i x)

-- the variables keep their values under further values
pub env_more : (s : Scope) (vs ws : List Val) → Lies s (length vs) → env_of s (vs ++ ws) ≡ env_of s vs
env_more s vs ws le =
    ap (bind s.formals.now) (drop-append-le s.start vs ws (omega arith))
    ∙ bind_more s.formals.now (drop s.start vs) ws (omega (arith, length-drop s.start vs))

pub found_light : (ds : List Definition) (f : Name) (d : Definition) → find ds f ≡ Some d → weight d.body ≤ heaviest ds
found_light [] f d e = cc
found_light (c ∷ ds) f d e = by_test (found_light ds f d) (bytes_eq c.name f) e
  where
    by_test : (find ds f ≡ Some d → weight d.body ≤ heaviest ds) → (b : Bool) → cond b (Some c) (find ds f) ≡ Some d → weight d.body ≤ heaviest (c ∷ ds)
    by_test ih true k = let same : c ≡ d = cc in omega (arith, ap (λ x. weight x.body) same)
    by_test ih false k = omega (arith, ih k)
