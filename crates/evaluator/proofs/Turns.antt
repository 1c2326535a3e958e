-- Where the machine goes on.
use Rattle.std.proofs.Common.{◌≡◌, ◌≢◌, ℕ, ◌+◌, ◌-◌, ◌*◌, ◌<◌, ◌≤◌, List, [], ◌∷◌, ◌++◌, length, get_or, map, take, drop, Option, Some, None, refl, sym, ap, ◌∙◌, subst, arith, length-append, length-drop, Bool, true, false, cond, Result}
use Rattle.std.specs.Prelude.{sum_by}
use Rattle.std.proofs.lemmas.List.{length-map, take_rest, take-map, drop-map, take_at, drop_at, drop-append-le, length-take-le}
use Rattle.std.proofs.lemmas.List.Sums.{sum_by-append}
use Rattle.lisp_data.specs.Values.{Name, Val}
use Rattle.lisp_data.specs.ValueView.{val_of}
use Rattle.lisp_data.specs.declared.value.Value.{Value}
use Rattle.terms.specs.Terms.{Tm, Tms, Done, More, tms, count}
use Rattle.terms.specs.Evaluation.{Env}
use Rattle.terms.proofs.Args.{count-tms}
use Rattle.terms.specs.declared.definition.Definition.{Definition}
use Rattle.terms.specs.Evaluation.{bind}
use Rattle.evaluator.specs.Counted.{Refusal, IsVariable, ManyCalls, Wide, Large, Stuck, Outcome, Gives, Stops, Step, then_step, gathered, taken, steps, answered, found_in, Act, counted, entered, body_run, told}
use Rattle.evaluator.specs.view.Machines.{Waiting, Rest, Either, continue, resumed, height, base, waiting, Inside, Stacked, vals, act_of, LiesIn, now, whole, heaviest, load, weight_of, effort, Leads, Goes, StopsWith, RefusedAs, FoundOr, env_of, weight, weights, IsLowered}
use Rattle.evaluator.specs.declared.machine.Frame.{Frame}
use Rattle.evaluator.specs.declared.machine.Control.{Control}
use Rattle.evaluator.specs.declared.machine.Machine.{Machine}
use Rattle.evaluator.specs.declared.errors.Halt.{Halt}
use Rattle.evaluator.specs.declared.machine.Frame.TheVariants.{Arguments, Branches}
use Rattle.evaluator.proofs.Steps.{with_frame, stacked_push, stacked_more, waiting_same, env_more, base_le}
use Rattle.evaluator.proofs.Calls.{begins, less_effort}

-- nothing waits that didn't before
pub goes_on : (ds : List Definition) (m : Machine) (k : Control) (o : Outcome) (most : ℕ) → Stacked 0 m.frames.items (length m.values.items) → LiesIn k (length m.values.items) → now ds k (vals m) m.calls ≡ o → weight_of k < most → Leads ds m k (whole ds m o) (effort ds m most)
goes_on ds m k o most h l e lt = record {
  stands = record { stacked = h; lies = l; same = ap (whole ds m) e };
  less = omega arith;
}

-- one frame more waits
pub pushed : (ds : List Definition) (m n : Machine) (f : Frame) (k : Control) (w : Waiting) (most : ℕ) → n.frames.items ≡ m.frames.items ++ f ∷ [] → n.values.items ≡ m.values.items → n.calls ≡ m.calls → Stacked 0 m.frames.items (base f) → height f ≡ length m.values.items → Inside f → LiesIn k (length m.values.items) → waiting (vals m) f ≡ w → weight_of k + load f < most → Leads ds n k (whole ds m (then_step (now ds k (vals m) m.calls) (continue (act_of ds) w))) (effort ds m most)
pushed ds m n f k w most e1 e2 e3 h hf inside l ew lt = record {
  stands = record {
    stacked = subst (λ fs. Stacked 0 fs (length n.values.items)) (sym e1) (subst (λ (us : List Value). Stacked 0 (m.frames.items ++ f ∷ []) (length us)) (sym e2) (stacked_push 0 (base f) (length m.values.items) m.frames.items f h (omega arith) inside (omega arith)));
    lies = subst (λ (us : List Value). LiesIn k (length us)) (sym e2) l;
    same =
        (λ i. resumed (act_of ds) (map (waiting (map val_of (e2 i))) (e1 i)) (now ds k (map val_of (e2 i)) (e3 i)))
        ∙ with_frame (act_of ds) (vals m) m.frames.items f (now ds k (vals m) m.calls)
        ∙ ap (λ v. whole ds m (then_step (now ds k (vals m) m.calls) (continue (act_of ds) v))) ew;
  };
  less = omega (arith, ap (λ c. c * (1 + heaviest ds)) e3, ap (sum_by load) e1, sum_by-append load m.frames.items (f ∷ []));
}

pub three : (ts : List Tm) (a b d : Tm) → length ts ≡ 3 → a ≡ get_or ts 0 a → b ≡ get_or ts 1 b → d ≡ get_or ts 2 d → ts ≡ a ∷ b ∷ d ∷ []
three [] a b d l p q r = cc
three (x ∷ []) a b d l p q r = cc
three (x ∷ y ∷ []) a b d l p q r = cc
three (x ∷ y ∷ z ∷ []) a b d l p q r = λ i. sym p i ∷ sym q i ∷ sym r i ∷ []
three (x ∷ y ∷ z ∷ w ∷ ts) a b d l p q r = absurd (omega arith)

pub not_three : (ss : List Step) (c : ℕ) → length ss ≢ 3 → taken ss c ≡ Stops Stuck
not_three [] c h = refl
not_three (x ∷ []) c h = refl
not_three (x ∷ y ∷ []) c h = refl
not_three (x ∷ y ∷ z ∷ []) c h = absurd (h refl)
not_three (x ∷ y ∷ z ∷ w ∷ ss) c h = refl

pub steps-length : (act : Act) (ts : Tms) (env : Env) → length (steps act ts env) ≡ count ts
steps-length act Done env = refl
steps-length act (More t ts) env = let e = steps-length act ts env in cc

pub steps_of : (act : Act) (ts : List Tm) (env : Env) → length (steps act (tms ts) env) ≡ length ts
steps_of act ts env = steps-length act (tms ts) env ∙ count-tms ts

pub vals_left : (us : List Value) (start : ℕ) → length (drop start (map val_of us)) ≡ length us - start
vals_left us start = length-drop start (map val_of us) ∙ ap (λ n. n - start) (length-map us val_of)

pub slice_vals : (us ws : List Value) (start : ℕ) → us ≡ ws → map val_of (take (length us - start) (drop start us)) ≡ drop start (map val_of ws)
slice_vals us ws start e = ap (map val_of) (take_rest us start) ∙ sym (drop-map val_of start us) ∙ ap (λ l. drop start (map val_of l)) e

-- what is left once the values between two places are taken away
pub kept_below : (ws us : List Value) (low start : ℕ) → low ≤ length ws → us ≡ take low ws ++ drop start ws → take low (map val_of us) ≡ take low (map val_of ws)
kept_below ws us low start le e =
    take-map val_of low us ∙ ap (λ l. map val_of (take low l)) e
    ∙ ap (map val_of) (take_at (take low ws) (drop start ws) low (length-take-le low ws le))
    ∙ sym (take-map val_of low ws)

pub kept_from : (ws us : List Value) (low start : ℕ) → low ≤ length ws → us ≡ take low ws ++ drop start ws → drop low (map val_of us) ≡ drop start (map val_of ws)
kept_from ws us low start le e =
    drop-map val_of low us ∙ ap (λ l. map val_of (drop low l)) e
    ∙ ap (map val_of) (drop_at (take low ws) (drop start ws) low (length-take-le low ws le))
    ∙ sym (drop-map val_of start ws)

pub kept_length : (ws us : List Value) (low start : ℕ) → low ≤ length ws → us ≡ take low ws ++ drop start ws → low ≤ length us
kept_length ws us low start le e = omega (arith, ap length e, length-append (take low ws) (drop start ws), length-take-le low ws le)

pub refused : (x : Result Val Refusal) (e : Option Refusal) (c : ℕ) → RefusedAs x e → StopsWith (answered x c) e
refused x None c h = tt
refused x (Some r) c h = ap (λ y. answered y c) h

pub not_found : (e : Option Refusal) (o : Option Val) (c : ℕ) → FoundOr e o → StopsWith (found_in o c) e
not_found None o c h = tt
not_found (Some Stuck) o c h = ap (λ p. found_in p c) h
not_found (Some (IsVariable f)) o c h = absurd h
not_found (Some ManyCalls) o c h = absurd h
not_found (Some Wide) o c h = absurd h
not_found (Some Large) o c h = absurd h

pub goes_as : (ds : List Definition) (o o' : Outcome) (e e' : ℕ) (n : Machine) (r : Result Control Halt) → o ≡ o' → e ≡ e' → Goes ds o e n r → Goes ds o' e' n r
goes_as ds o o' e e' n r p q h = subst (λ x. Goes ds x e' n r) p (subst (λ y. Goes ds o y n r) q h)

-- an `if` begins
pub chooses : (ds : List Definition) (m n : Machine) (f : Frame) (k : Control) (ts : List Tm) (env : Env) (a b d : Tm) → ts ≡ a ∷ b ∷ d ∷ [] → n.frames.items ≡ m.frames.items ++ f ∷ [] → n.values.items ≡ m.values.items → n.calls ≡ m.calls → Stacked 0 m.frames.items (base f) → height f ≡ length m.values.items → Inside f → LiesIn k (length m.values.items) → waiting (vals m) f ≡ Either b d env → now ds k (vals m) m.calls ≡ counted (act_of ds) a env m.calls → weight_of k + load f < 1 + weights (tms (a ∷ b ∷ d ∷ [])) → Leads ds n k (whole ds m (taken (steps (act_of ds) (tms ts) env) m.calls)) (effort ds m (1 + weights (tms ts)))
chooses ds m n f k ts env a b d e e1 e2 e3 st hf i l ew ek lt =
    subst (λ (us : List Tm). Leads ds n k (whole ds m (taken (steps (act_of ds) (tms us) env) m.calls)) (effort ds m (1 + weights (tms us)))) (sym e)
    (subst (λ o. Leads ds n k (whole ds m (then_step o (continue (act_of ds) (Either b d env)))) (effort ds m (1 + weights (tms (a ∷ b ∷ d ∷ []))))) ek
    (pushed ds m n f k (Either b d env) (1 + weights (tms (a ∷ b ∷ d ∷ []))) e1 e2 e3 st hf i l ew lt))

-- an argument of a call
pub proceeds : (ds : List Definition) (m n : Machine) (f : Frame) (k : Control) (g : Name) (vs : List Val) (ts us : List Tm) (env : Env) (t : Tm) → ts ≡ t ∷ us → n.frames.items ≡ m.frames.items ++ f ∷ [] → n.values.items ≡ m.values.items → n.calls ≡ m.calls → Stacked 0 m.frames.items (base f) → height f ≡ length m.values.items → Inside f → LiesIn k (length m.values.items) → waiting (vals m) f ≡ Rest g vs (tms us) env → now ds k (vals m) m.calls ≡ counted (act_of ds) t env m.calls → weight_of k + load f < 1 + weights (tms (t ∷ us)) → Leads ds n k (whole ds m (gathered (act_of ds g) vs (steps (act_of ds) (tms ts) env) m.calls)) (effort ds m (1 + weights (tms ts)))
proceeds ds m n f k g vs ts us env t e e1 e2 e3 st hf i l ew ek lt =
    subst (λ (xs : List Tm). Leads ds n k (whole ds m (gathered (act_of ds g) vs (steps (act_of ds) (tms xs) env) m.calls)) (effort ds m (1 + weights (tms xs)))) (sym e)
    (subst (λ o. Leads ds n k (whole ds m (then_step o (continue (act_of ds) (Rest g vs (tms us) env)))) (effort ds m (1 + weights (tms (t ∷ us))))) ek
    (pushed ds m n f k (Rest g vs (tms us) env) (1 + weights (tms (t ∷ us))) e1 e2 e3 st hf i l ew lt))

-- the frames are the same, and the values that they use
pub wholes : (ds : List Definition) (m n : Machine) (h : ℕ) (o : Outcome) → n.frames.items ≡ m.frames.items → Stacked 0 m.frames.items h → take h (vals m) ≡ take h (vals n) → whole ds n o ≡ whole ds m o
wholes ds m n h o e st ev =
    ap (λ fs. resumed (act_of ds) (map (waiting (vals n)) fs) o) e
    ∙ ap (λ ws. resumed (act_of ds) ws o) (sym (waiting_same 0 h m.frames.items (vals m) (vals n) st ev))

-- a frame was taken away, and the values above it
pub wakes : (ds : List Definition) (m n : Machine) (k : Control) (o : Outcome) (most h : ℕ) → n.frames.items ≡ m.frames.items → n.calls ≡ m.calls → Stacked 0 m.frames.items h → h ≤ length n.values.items → take h (vals m) ≡ take h (vals n) → LiesIn k (length n.values.items) → now ds k (vals n) n.calls ≡ o → weight_of k < most → Leads ds n k (whole ds m o) (effort ds m most)
wakes ds m n k o most h e1 e2 st le ev l eo lt = record {
  stands = record {
    stacked = subst (λ fs. Stacked 0 fs (length n.values.items)) (sym e1) (stacked_more 0 h (length n.values.items) m.frames.items st le);
    lies = l;
    same = wholes ds m n h (now ds k (vals n) n.calls) e1 st ev ∙ ap (whole ds m) eo;
  };
  less = omega (arith, ap (λ c. c * (1 + heaviest ds)) e2, ap (sum_by load) e1, lt);
}

-- a call of a definition begins, and the values that only the caller used are gone
pub enters : (ds : List Definition) (m l n : Machine) (k : Control) (d : Definition) (ys : List Name) (start low : ℕ) → IsLowered l start n low → l.frames.items ≡ m.frames.items → vals l ≡ vals m → l.calls ≡ m.calls - 1 → m.calls ≢ 0 → length d.formals ≡ length (drop start (vals m)) → ys ≡ d.formals → LiesIn k (length n.values.items) → now ds k (vals n) n.calls ≡ told ds d.body (bind ys (drop low (vals n))) n.calls → weight_of k ≡ weight d.body → weight d.body ≤ heaviest ds → Leads ds n k (whole ds m (entered (body_run ds) d (drop start (vals m)) m.calls)) (effort ds m 1)
enters ds m l n k d ys start low h e1 e2 e3 some same ey lies ek ew light = record {
  stands = record {
    stacked = stacked_more 0 low (length n.values.items) n.frames.items h.stacked h.within;
    lies = lies;
    same =
        ap (whole ds n) (ek ∙ (λ i. told ds d.body (bind (ey i) ((h.moved ∙ ap (drop start) e2) i)) ((h.calls ∙ e3) i)) ∙ sym (begins ds d (drop start (vals m)) m.calls some same))
        ∙ wholes ds m n low (entered (body_run ds) d (drop start (vals m)) m.calls) (h.frames ∙ e1) (subst (λ fs. Stacked 0 fs low) (h.frames ∙ e1) h.stacked) (ap (take low) (sym e2) ∙ sym h.below);
  };
  less = subst (λ w. w < effort ds m 1) (effort_is (h.calls ∙ e3) (ap (sum_by load) (h.frames ∙ e1)) ew) (less_effort m.calls (heaviest ds) (weight d.body) (sum_by load m.frames.items) some light);
}
  where
    effort_is : n.calls ≡ m.calls - 1 → sum_by load n.frames.items ≡ sum_by load m.frames.items → weight_of k ≡ weight d.body → (m.calls - 1) * (1 + heaviest ds) + (sum_by load m.frames.items + weight d.body) ≡ effort ds n (weight_of k)
    effort_is p q r = λ i. sym p i * (1 + heaviest ds) + (sym q i + sym r i)

-- what a call's frame goes on with, once the value of an argument is there
abbrev pub after : Act → Frame → List Val → Step
after act (Arguments name rest start h scope) us = gathered (act name.now) (drop start us) (steps act (tms rest.now) (env_of scope us))
after act (Branches b d h scope) us = λ c. Stops Stuck

abbrev pub IsCall : Frame → Type 0
IsCall (Arguments name rest start h scope) = Unit {0}
IsCall (Branches b d h scope) = ⊥

after_is : (act : Act) (f : Frame) (vs : List Val) (v : Val) → IsCall f → height f ≤ length vs → Inside f → after act f (take (height f) vs ++ v ∷ []) ≡ continue act (waiting vs f) v
after_is act (Arguments name rest start h scope) vs v is le i =
    let long : length (take h vs) ≡ h = length-take-le h vs le in
    ap (λ us. gathered (act name.now) us (steps act (tms rest.now) (env_of scope (take h vs ++ v ∷ [])))) (drop-append-le start (take h vs) (v ∷ []) (omega (arith, long, i.0)))
    ∙ ap (λ env. gathered (act name.now) (drop start (take h vs) ++ v ∷ []) (steps act (tms rest.now) env)) (env_more scope (take h vs) (v ∷ []) (omega (arith, long, i.1)))
after_is act (Branches b d h scope) vs v is le i = absurd is

pub resumes : (ds : List Definition) (m m1 n : Machine) (r : Result Control Halt) (g f : Frame) (v : Val) → g ≡ f → IsCall f → m1.frames.items ≡ m.frames.items → m1.calls ≡ m.calls → vals m1 ≡ take (height f) (vals m) ++ v ∷ [] → height g ≤ length (vals m) → Stacked 0 m.frames.items (base g) → Inside g → Goes ds (whole ds m1 (after (act_of ds) f (vals m1) m1.calls)) (effort ds m1 (load f)) n r → Goes ds (whole ds m (continue (act_of ds) (waiting (vals m) g) v m.calls)) (effort ds m (load g)) n r
resumes ds m m1 n r g f v eg is e1 e2 e3 le st i p =
    subst (λ (g : Frame). Goes ds (whole ds m (continue (act_of ds) (waiting (vals m) g) v m.calls)) (effort ds m (load g)) n r) (sym eg)
    (goes_as ds _ _ _ _ n r
    (wholes ds m m1 (height f) (after (act_of ds) f (vals m1) m1.calls) e1 (subst (λ (g : Frame). Stacked 0 m.frames.items (height g)) eg (stacked_more 0 (base g) (height g) m.frames.items st (base_le g i))) same_below
    ∙ ap (λ c. whole ds m (after (act_of ds) f (vals m1) c)) e2
    ∙ ap (λ us. whole ds m (after (act_of ds) f us m.calls)) e3
    ∙ ap (λ (s : Step). whole ds m (s m.calls)) (after_is (act_of ds) f (vals m) v is low (subst Inside eg i)))
    (λ j. e2 j * (1 + heaviest ds) + (sum_by load (e1 j) + load f))
    p)
  where
    low : height f ≤ length (vals m)
    low = subst (λ (g : Frame). height g ≤ length (vals m)) eg le

    same_below : take (height f) (vals m) ≡ take (height f) (vals m1)
    same_below = sym (ap (take (height f)) e3 ∙ take_at (take (height f) (vals m)) (v ∷ []) (height f) (length-take-le (height f) (vals m) low))

pub counted_cond : (act : Act) (b : Bool) (d y : Tm) (env : Env) (c : ℕ) → counted act (cond b d y) env c ≡ cond b (counted act d env) (counted act y env) c
counted_cond act true d y env c = refl
counted_cond act false d y env c = refl

pub weight_cond : (b : Bool) (d y : Tm) → weight (cond b d y) < 1 + weight y + weight d
weight_cond true d y = omega arith
weight_cond false d y = omega arith

pub no_frames : (fs : List Frame) → length fs ≡ 0 → fs ≡ []
no_frames [] e = refl
no_frames (f ∷ fs) e = cc

-- the last frame waits for a value
pub turned : (ds : List Definition) (m m1 n : Machine) (r : Result Control Halt) (g : Frame) (k : Control) (v : Val) → m.frames.items ≡ m1.frames.items ++ g ∷ [] → m1.calls ≡ m.calls → vals m1 ≡ vals m → now ds k (vals m) m.calls ≡ Gives v m.calls → weight_of k ≡ 0 → Goes ds (whole ds m1 (continue (act_of ds) (waiting (vals m1) g) v m1.calls)) (effort ds m1 (load g)) n r → Goes ds (whole ds m (now ds k (vals m) m.calls)) (effort ds m (weight_of k)) n r
turned ds m m1 n r g k v e1 e2 e3 ek ew h =
    goes_as ds _ _ _ _ n r
    (sym (ap (whole ds m) ek
    ∙ ap (λ fs. resumed (act_of ds) (map (waiting (vals m)) fs) (Gives v m.calls)) e1
    ∙ with_frame (act_of ds) (vals m) m1.frames.items g (Gives v m.calls)
    ∙ sym (λ i. resumed (act_of ds) (map (waiting (e3 i)) m1.frames.items) (continue (act_of ds) (waiting (e3 i) g) v (e2 i)))))
    (omega (arith, ap (λ c. c * (1 + heaviest ds)) e2, ap (sum_by load) e1, sum_by-append load m1.frames.items (g ∷ []), ew))
    h
