-- What is true of each move that is found.
use Rattle.std.proofs.Common.{◌≡◌, Bool, true, false, not, List, [], ◌∷◌, codes, Option, Some, None, refl, sym, ap, ◌∙◌, subst}
use Rattle.std.specs.Option.{option_map}
use Rattle.lisp_data.specs.Values.{Name}
use Rattle.terms.specs.Formed.{HasBasics}
use Rattle.terms.specs.Paths.{put_part, with_argument}
use Rattle.terms.specs.Sound.{Sound}
use Rattle.terms.specs.Terms.{Tm, Var, Quote, Call}
use Rattle.terms.specs.Worlds.{World, Each}
use Rattle.terms.specs.declared.sequent.Sequent.{Sequent}
use Rattle.terms.proofs.Same.{same_term}
use Rattle.kernel.specs.Concludes.{concludes}
use Rattle.kernel.specs.Fitting.{fits}
use Rattle.kernel.specs.Sequents.{equation, negation, implication}
use Rattle.kernel.proofs.Joins.{without_to}
use Rattle.reduction.specs.declared.found.At.{At}
use Rattle.reduction.specs.declared.found.Found.{Found}
use Rattle.reduction.specs.declared.kinds.How.{How}
use Rattle.reduction.specs.declared.moves.Closing.{Closing}
use Rattle.reduction.specs.declared.moves.Closing.TheVariants.{ByQuote, ByHyp, BySame, ByNil, ByBoth}
use Rattle.reduction.specs.declared.moves.Move.{Move}
use Rattle.reduction.specs.declared.moves.Move.TheVariants.{Ends, Drops, Strips, Alters, Turns, Assumes, Denies, Puts, Splits}
use Rattle.reduction.specs.declared.moves.Subgoal.{Subgoal}
use Rattle.reduction.specs.Finding.{of_one, of_two}
use Rattle.reduction.specs.Finders.{decide, ground, definition, on_call, by_polynomials, test_of}
use Rattle.reduction.specs.Hyps.{quoted_nil, has, without, is_true_quote}
use Rattle.reduction.specs.Moves.{both_in, same_sides, closing, close, tidied, tidy, enter, at_hyp, at_goal, rewrite, occurs, variable_name, on_equation, on_variable, first_test, split}
use Rattle.reduction.specs.Reduction.{next}
use Rattle.reduction.specs.Rules.{by_rules}
use Rattle.reduction.specs.Seek.{seek}
use Rattle.reduction_proofs.specs.Derived.{twice_not}
use Rattle.reduction_proofs.specs.Proving.{Within, Proves, IsRule}
use Rattle.reduction_proofs.specs.Reasons.{equated, by_reason, rewritten}
use Rattle.reduction_proofs.specs.Trees.{Proof, Hyp, Refl}
use Rattle.reduction_proofs.specs.WayBack.{by_same, closed_by, altered}
use Rattle.reduction_proofs.proofs.Members.{Fit, each_self}
use Rattle.reduction_proofs.proofs.Deduction.{wider, by_refl, by_replace, by_contradiction}
use Rattle.reduction_proofs.proofs.Shortcuts.{by_forth, by_from_nil, by_twice_not}
use Rattle.reduction_proofs.proofs.Sure.{Sure, some_is, sure_or, sure_when, sure_then, sure_map, sure_some, sure_first, Stands, seek_stands}
use Rattle.reduction_proofs.proofs.Finders.{of_one_is, of_two_is, fit_one, fit_two, quote_proved, Equates, hyp_fit, hyp_proved, decide_sure, ground_sure, definition_sure, equated_left, equated_right, call_sure, polynomials_sure, test_sure}
use Rattle.reduction_proofs.proofs.Rules.{rules_sure}

name_is : (t : Tm) (x : Name) → variable_name t ≡ Some x → t ≡ Var x
name_is (Var y) x e = ap Var (some_is e)
name_is (Quote v) x e = absurd (cc)
name_is (Call f ts) x e = absurd (cc)

-- the hypotheses and the goal fit
pub record Ok (W : World) (s : Subgoal) : Type 0 where
  pub hyps : Each (Fit W) s.hyps
  pub goal : Fit W s.goal

-- what a move's lemma says: its proof proves what the way back takes it for
abbrev pub Fine : World → List Tm → Subgoal → Move → Type 0
Fine W us s (Ends e) = Proves W us s.hyps s.goal (closed_by e s.goal)
Fine W us s (Drops h) = Unit {0}
Fine W us s (Strips h a) = Proves W us s.hyps a (twice_not a)
Fine W us s (Alters h k r) = Proves W us s.hyps k (altered W h r)
Fine W us s (Turns g r) = Proves W us s.hyps (equation s.goal g) (rewritten W s.goal r)
Fine W us s (Assumes a b) = s.goal ≡ implication a b
Fine W us s (Denies a) = s.goal ≡ negation a
Fine W us s (Puts h x a) = Proves W us s.hyps (equation (Var x) a) (equated h (Var x) a)
Fine W us s (Splits c) = Fit W c

module _ (W : World) (us : List Tm) (sound : Sound W) (basics : HasBasics W.functions) (fitting : (P : Proof) (s : Sequent) → concludes W P ≡ Some s → fits W.functions s.goal ≡ true) where
  module _ (s : Subgoal) (ok : Ok W s) where
    pub hyp_fits : (h : Tm) → Within s.hyps h → Fit W h
    hyp_fits h w = hyp_fit W us basics s.hyps ok.hyps h w

    pub hyp_holds : (h : Tm) → Within s.hyps h → Proves W us s.hyps h (Hyp h)
    hyp_holds h w = hyp_proved W us basics s.hyps ok.hyps h w

    abbrev Closes : Closing → Type 0
    Closes e = Proves W us s.hyps s.goal (closed_by e s.goal)

    same_closes : (o : Option (Tm × Tm)) → of_two (codes "EQUAL") s.goal ≡ o → same_sides o ≡ true → Proves W us s.hyps s.goal (by_same s.goal o)
    same_closes None e q = absurd (cc)
    same_closes (Some p) e q =
        let same : s.goal ≡ equation p.0 p.1 = of_two_is (codes "EQUAL") s.goal p e in
        let parts = fit_two W.functions (codes "EQUAL") p.0 p.1 (subst (Fit W) same ok.goal) in
        subst (λ g. Proves W us s.hyps g (Refl p.0)) (sym (same ∙ ap (equation p.0) (sym (same_term p.0 p.1 q)))) (by_refl W us s.hyps p.0 parts.0)

    close_fine : Sure (Fine W us s) (close s)
    close_fine = sure_map Closes (Fine W us s) (closing s) Ends
        (sure_or Closes _ _ (sure_when Closes (is_true_quote s.goal) ByQuote (quote_proved W us basics s.hyps s.goal))
        (sure_or Closes _ _ (sure_when Closes (has s.hyps s.goal) ByHyp (hyp_holds s.goal))
        (sure_or Closes _ _ (sure_when Closes (same_sides (of_two (codes "EQUAL") s.goal)) BySame (same_closes (of_two (codes "EQUAL") s.goal) refl))
        (sure_or Closes _ _ (sure_when Closes (has s.hyps quoted_nil) ByNil (λ h. by_from_nil W us basics s.hyps s.goal (Hyp quoted_nil) ok.goal (hyp_holds quoted_nil h)))
        (sure_first Closes (both_in s.hyps) s.hyps (λ p w. sure_when Closes (has s.hyps (negation p)) (ByBoth p) (λ n.
        by_contradiction W us s.hyps p s.goal (Hyp p) (Hyp (negation p)) ok.goal (hyp_holds p w) (hyp_holds (negation p) n))))))))
        (λ e p. p)

    tidy_fine : Sure (Fine W us s) (tidy s)
    tidy_fine = sure_first (Fine W us s) tidied s.hyps (λ h w. sure_or (Fine W us s) _ _
        (sure_when (Fine W us s) (is_true_quote h) (Drops h) (λ t. tt))
        (sure_then (Fine W us s) (of_one (codes "NOT") h) _ (λ b is. sure_then (Fine W us s) (of_one (codes "NOT") b) _ (λ a is'.
        let same : h ≡ negation (negation a) = of_one_is (codes "NOT") h b is ∙ ap negation (of_one_is (codes "NOT") b a is') in
        let f : Fit W a = fit_one W.functions (codes "NOT") a (fit_one W.functions (codes "NOT") (negation a) (subst (Fit W) same (hyp_fits h w))) in
        sure_some (Fine W us s) (Strips h a) (by_twice_not W us basics s.hyps a f (subst (Within s.hyps) same w))))))

    enter_fine : Sure (Fine W us s) (enter s)
    enter_fine = sure_or (Fine W us s) _ _
        (sure_then (Fine W us s) (of_two (codes "IMPLIES") s.goal) _ (λ e is. sure_some (Fine W us s) (Assumes e.0 e.1) (of_two_is (codes "IMPLIES") s.goal e is)))
        (sure_then (Fine W us s) (of_one (codes "NOT") s.goal) _ (λ a is. sure_some (Fine W us s) (Denies a) (of_one_is (codes "NOT") s.goal a is)))

    -- what is found at a position is an equation on the whole term
    module _ (hs : List Tm) (c : Bool → Tm → Option Found) (sub : Each (Within s.hyps) hs) (sure : (w : Bool) (u : Tm) → Fit W u → Sure (Equates W us basics hs u) (c w u)) where
      equation_is : (u k : Tm) → Fit W u → (r : At) → Stands W.functions c (Equates W us basics hs) sure u r → put_part r.path r.found.term u ≡ Some k → Proves W us s.hyps (equation u k) (rewritten W u r)
      equation_is u k f r st p =
          by_replace W us s.hyps r.part r.found.term (equation u u) (equation u k) (by_reason W r.part r.found) (Refl u) (2 ∷ r.path) st.is_there (ap (option_map (λ new. with_argument 2 new (equation u u))) p)
          (wider W us hs s.hyps (equation r.part r.found.term) (by_reason W r.part r.found) sub st.rest) (by_refl W us s.hyps u f)

    abbrev Finds : (List Tm → Bool → Tm → Option Found) → Type 0
    Finds c = (hs : List Tm) → Each (Fit W) hs → (w : Bool) (u : Tm) → Fit W u → Sure (Equates W us basics hs u) (c hs w u)

    at_goal_fine : (c : List Tm → Bool → Tm → Option Found) → ((w : Bool) (u : Tm) → Fit W u → Sure (Equates W us basics s.hyps u) (c s.hyps w u)) → Sure (Fine W us s) (at_goal c s.hyps s.goal)
    unfolding at_goal
    at_goal_fine c sure = sure_then (Fine W us s) (seek (c s.hyps) false s.goal) _ (λ r e. sure_then (Fine W us s) (put_part r.path r.found.term s.goal) _ (λ k p. sure_some (Fine W us s) (Turns k r)
        (equation_is s.hyps (c s.hyps) (each_self s.hyps) sure s.goal k ok.goal r ((seek_stands W.functions (c s.hyps) (Equates W us basics s.hyps) sure false s.goal ok.goal).so r e) p)))

    at_hyp_fine : (c : List Tm → Bool → Tm → Option Found) → Finds c → (h : Tm) → Within s.hyps h → Sure (Fine W us s) (at_hyp c s.hyps h)
    unfolding at_hyp
    at_hyp_fine c sure h w =
        let hs : List Tm = without s.hyps h in
        let sub = without_to (Within s.hyps) s.hyps h (each_self s.hyps) in
        let sure' = sure hs (without_to (Fit W) s.hyps h ok.hyps) in
        sure_then (Fine W us s) (seek (c hs) true h) _ (λ r e. sure_then (Fine W us s) (put_part r.path r.found.term h) _ (λ k p. sure_some (Fine W us s) (Alters h k r)
        (by_forth W us basics s.hyps h k (rewritten W h r) (Hyp h)
        (equation_is hs (c hs) sub sure' h k (hyp_fits h w) r ((seek_stands W.functions (c hs) (Equates W us basics hs) sure' true h (hyp_fits h w)).so r e) p) (hyp_holds h w))))

    rewrite_fine : (c : List Tm → Bool → Tm → Option Found) → Finds c → Sure (Fine W us s) (rewrite c s)
    rewrite_fine c sure = sure_or (Fine W us s) _ _ (sure_first (Fine W us s) (at_hyp c s.hyps) s.hyps (at_hyp_fine c sure)) (at_goal_fine c (sure s.hyps ok.hyps))

    equation_fine : (h : Tm) → Within s.hyps h → Sure (Fine W us s) (on_equation h)
    equation_fine h w = sure_then (Fine W us s) (of_two (codes "EQUAL") h) _ (λ e is.
        let same : h ≡ equation e.0 e.1 = of_two_is (codes "EQUAL") h e is in
        sure_or (Fine W us s) _ _
        (sure_then (Fine W us s) (variable_name e.0) _ (λ x n. sure_when (Fine W us s) (not (occurs x e.1)) (Puts h x e.1) (λ o.
        equated_left W us basics s.hyps ok.hyps h (Var x) e.1 w (same ∙ ap (λ z. equation z e.1) (name_is e.0 x n)))))
        (sure_then (Fine W us s) (variable_name e.1) _ (λ x n. sure_when (Fine W us s) (not (occurs x e.0)) (Puts h x e.0) (λ o.
        equated_right W us basics s.hyps ok.hyps h (Var x) e.0 w (same ∙ ap (equation e.0) (name_is e.1 x n))))))

    variable_fine : Sure (Fine W us s) (on_variable s)
    variable_fine = sure_first (Fine W us s) on_equation s.hyps equation_fine

    -- the other hypotheses play no part in finding a test
    module _ (c : List Tm → Bool → Tm → Option Found) (sure : (w : Bool) (u : Tm) → Fit W u → Sure (λ f. Fit W f.term) (c [] w u)) where
      first_test_fine : (u : Tm) → Fit W u → Sure (Fine W us s) (first_test c u)
      unfolding first_test
      first_test_fine u f = sure_map (Stands W.functions (c []) (λ v r. Fit W r.term) sure u) (Fine W us s) (seek (c []) false u) (λ r. Splits r.found.term)
          (seek_stands W.functions (c []) (λ v r. Fit W r.term) sure false u f) (λ r st. st.rest)

      split_fine : Sure (Fine W us s) (split c s)
      split_fine = sure_or (Fine W us s) _ _ (sure_first (Fine W us s) (first_test c) s.hyps (λ h w. first_test_fine h (hyp_fits h w))) (first_test_fine s.goal ok.goal)

    pub next_fine : (how : How) → Each (IsRule W us) how.rules → Sure (Fine W us s) (next W how s)
    next_fine how rules =
        let F : Move → Type 0 = Fine W us s in
        sure_or F _ _ close_fine
        (sure_or F _ _ tidy_fine
        (sure_or F _ _ enter_fine
        (sure_or F _ _ (rewrite_fine (λ hs w u. decide hs u) (λ hs fit w u f. decide_sure W us basics hs fit u f))
        (sure_or F _ _ (rewrite_fine (λ hs w u. ground W u) (λ hs fit w u f. ground_sure W us basics hs fit u f))
        (sure_or F _ _ (rewrite_fine (λ hs w u. by_rules how.rules hs u) (λ hs fit w u f. rules_sure W us sound basics fitting hs fit u f how.rules rules))
        (sure_or F _ _ (rewrite_fine (λ hs w u. definition W how w u) (λ hs fit w u f. definition_sure W us basics hs fit how w u f))
        (sure_or F _ _ variable_fine
        (sure_or F _ _ (rewrite_fine (λ hs w u. on_call hs u) (λ hs fit w u f. call_sure W us basics hs fit u))
        (sure_or F _ _ (rewrite_fine (λ hs w u. by_polynomials hs u) (λ hs fit w u f. polynomials_sure W us basics hs fit u f))
        (split_fine (λ hs w u. test_of u) (λ w u f. test_sure W us basics u f)))))))))))
