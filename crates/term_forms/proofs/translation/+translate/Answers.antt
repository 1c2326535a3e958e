use Rattle.std.proofs.Common.{◌≡◌, List, [], length, map, refl, arith, subst, Ok, Err, ap, sym, ◌∙◌}
use Rattle.lisp_data.specs.FormView.{form_of}
use Rattle.term_forms.specs.Bindings.{stands}
use Rattle.term_forms.specs.Heads.{IsWord}
use Rattle.terms.specs.Terms.{Tm}
use Rattle.term_forms.specs.view.TranslationView.{SaysOutcome}
use Rattle.term_forms.proofs.Translated.{lists, behind, head-taken, macro-taken, macro-refused, call-taken, so_many, let-behind, in_turn-behind}
use Rattle.term_forms.specs.Bindings.{replaced_by, SaysBindings}
use Rattle.term_forms.specs.Heads.{head_of}
use Rattle.term_forms.specs.Lets.{let_outcome, after_bindings}
use Rattle.terms.specs.Substitution.{Pairs}
use Rattle.lisp_data.specs.Datum.{chain, nil_form}
use Rattle.term_forms.specs.Translation.{Outcome, and_then, limited, bad_form, translate}
use Rattle.term_forms.specs.Words.{folded}
use Rattle.term_forms.specs.declared.bindings.Binding.{Binding}
use Rattle.term_forms.specs.declared.translation.Word.{Word}
use Rattle.term_forms.proofs.Lets.{from, terms-refused, body-refused, let-taken, turn-refused, turn-taken, last-refused, last-taken}
use Rattle.term_forms.proofs.Chosen.{clause-taken}
use Rattle.term_forms.proofs.translation.+translate.Goals as goal

pub list_term-returns-in-Int : goal.list_term-returns-in-Int
list_term-returns-in-Int g t c =
    let headed : translate (g.S.Signatures.arity_of c.args.sigs.now) (stands c.args.scope.now) (chain (map form_of c.args.items.now) nil_form) ≡ bad_form {A = Tm} = grind (arith, lists) in
    subst (λ (o : Outcome Tm). SaysOutcome o c.bad_form.result) (sym headed) c.bad_form.ensures

pub named_term-returns : goal.named_term-returns
named_term-returns g t c =
    head-taken (g.S.Signatures.arity_of c.args.sigs.now) (stands c.args.scope.now) c.args.name.now c.of-word.result c.args.parts.now _ _
    c.of-word.ensures c.in_ok-check.ensures c.word_term.ensures

pub word_term-returns-in_ok-terms-in-Macro : goal.word_term-returns-in_ok-terms-in-Macro
word_term-returns-in_ok-terms-in-Macro g t c =
    macro-taken (g.S.Signatures.arity_of c.args.sigs.now) (stands c.args.scope.now) c.args.name.now c.in-Macro.word c.args.parts.now _ _ _
    (subst (IsWord c.args.name.now) c.in-Macro.is c.requires.word) c.in_ok-terms-in-Macro.ensures c.as_slice.ensures c.term.ensures

pub word_term-returns-in_err-terms-in-Macro : goal.word_term-returns-in_err-terms-in-Macro
word_term-returns-in_err-terms-in-Macro g t c =
    let f = c.args.name.now in
    let xs = c.args.parts.now in
    let takes = g.S.Signatures.arity_of c.args.sigs.now in
    let scope = stands c.args.scope.now in
    let says : SaysOutcome {A = Tm} (behind takes scope f xs) (Err c.in_err-terms-in-Macro.field-0.0) =
    macro-refused takes scope f c.in-Macro.word xs c.in_err-terms-in-Macro.field-0.0 (subst (IsWord f) c.in-Macro.is c.requires.word) c.in_err-terms-in-Macro.ensures in
    grind arith

pub word_term-returns-in_ok-share-in-Call : goal.word_term-returns-in_ok-share-in-Call
word_term-returns-in_ok-share-in-Call g t c =
    call-taken (g.S.Signatures.arity_of c.args.sigs.now) (stands c.args.scope.now) c.args.name.now _ c.args.parts.now _ _ _
    (subst (IsWord c.args.name.now) c.in-Call.is c.requires.word) c.in_ok-terms-in-Call.ensures c.as_slice-in-Call.ensures c.in_ok-share-in-Call.ensures c.call.ensures

pub clause_of-returns-in_ok-answer-in-Some : goal.clause_of-returns-in_ok-answer-in-Some
clause_of-returns-in_ok-answer-in-Some g t c =
    clause-taken (g.S.Signatures.arity_of c.args.sigs.now) (stands c.args.scope.now) (form_of c.args.clause.now) (form_of c.in-Some.test.now) (form_of c.in-Some.answer.now)
    c.in_ok-test-in-Some.test c.in_ok-answer-in-Some.answer c.is_t-is_last.result c.in-Some.ensures.items c.in_ok-test-in-Some.ensures c.in_ok-answer-in-Some.ensures c.is_t-is_last.ensures
    ∙ ap Ok (sym c.new.ensures)

pub word_term-returns-in-Let : goal.word_term-returns-in-Let
word_term-returns-in-Let g t c =
    let xs = c.args.parts.now in
    let n : length xs ≡ 2 = so_many (length xs) 2 tt (subst (λ (w : Word). head_of w (g.S.Signatures.arity_of c.args.sigs.now) c.args.name.now (length xs) ≡ Ok tt) c.in-Let.is c.requires.head) in
    let-behind (g.S.Signatures.arity_of c.args.sigs.now) (stands c.args.scope.now) c.args.name.now xs c.index-parts-0-in-Let.result c.index-parts-1.result _
    (subst (IsWord c.args.name.now) c.in-Let.is c.requires.word) n c.index-parts-0-in-Let.is c.index-parts-1.is c.let_term.ensures

pub word_term-returns-in-LetInTurn : goal.word_term-returns-in-LetInTurn
word_term-returns-in-LetInTurn g t c =
    let xs = c.args.parts.now in
    let n : length xs ≡ 2 = so_many (length xs) 2 tt (subst (λ (w : Word). head_of w (g.S.Signatures.arity_of c.args.sigs.now) c.args.name.now (length xs) ≡ Ok tt) c.in-LetInTurn.is c.requires.head) in
    in_turn-behind (g.S.Signatures.arity_of c.args.sigs.now) (stands c.args.scope.now) c.args.name.now xs c.index-parts-0-in-LetInTurn.result c.index-parts-1-in-LetInTurn.result _
    (subst (IsWord c.args.name.now) c.in-LetInTurn.is c.requires.word) n c.index-parts-0-in-LetInTurn.is c.index-parts-1-in-LetInTurn.is c.let_in_turn_term.ensures

pub let_term-returns-in_err-terms : goal.let_term-returns-in_err-terms
let_term-returns-in_err-terms g t c =
    let takes = g.S.Signatures.arity_of c.args.sigs.now in
    let scope = stands c.args.scope.now in
    let d = form_of c.args.bindings.now in
    let body = form_of c.args.body.now in
    let e = c.in_err-terms.field-0.0 in
    let read : SaysBindings d (Ok c.as_slice-bindings.result.now) = subst (λ (bs : List Binding). SaysBindings d (Ok bs)) (sym c.as_slice-bindings.ensures) c.in_ok-read.ensures.says in
    let says : SaysOutcome {A = Tm} (let_outcome takes scope d body) (Err e) =
    terms-refused takes scope d body c.as_slice-bindings.result.now read _ c.in_ok-check_distinct.ensures e c.in_err-terms.ensures in
    grind arith

pub let_term-returns-in_err-body : goal.let_term-returns-in_err-body
let_term-returns-in_err-body g t c =
    let takes = g.S.Signatures.arity_of c.args.sigs.now in
    let scope = stands c.args.scope.now in
    let d = form_of c.args.bindings.now in
    let body = form_of c.args.body.now in
    let e = c.in_err-body.field-0.0 in
    let read : SaysBindings d (Ok c.as_slice-bindings.result.now) = subst (λ (bs : List Binding). SaysBindings d (Ok bs)) (sym c.as_slice-bindings.ensures) c.in_ok-read.ensures.says in
    let says : SaysOutcome {A = Tm} (let_outcome takes scope d body) (Err e) =
    body-refused takes scope d body c.as_slice-bindings.result.now read _ c.in_ok-check_distinct.ensures _ c.in_ok-terms.ensures _ c.in_ok-inner.ensures e c.in_err-body.ensures in
    grind arith

pub let_term-returns : goal.let_term-returns
let_term-returns g t c =
    let takes = g.S.Signatures.arity_of c.args.sigs.now in
    let scope = stands c.args.scope.now in
    let d = form_of c.args.bindings.now in
    let body = form_of c.args.body.now in
    let read : SaysBindings d (Ok c.as_slice-bindings.result.now) = subst (λ (bs : List Binding). SaysBindings d (Ok bs)) (sym c.as_slice-bindings.ensures) c.in_ok-read.ensures.says in
    let-taken takes scope d body c.as_slice-bindings.result.now read _ c.in_ok-check_distinct.ensures _ c.in_ok-terms.ensures _ c.in_ok-inner.ensures
    c.in_ok-body.body c.as_slice.result.now c.replace_at_once.result c.in_ok-body.ensures c.as_slice.ensures c.replace_at_once.ensures

pub in_turn_term-loop-binding-init : goal.in_turn_term-loop-binding-init
in_turn_term-loop-binding-init g t c =
    let start : stands c.in_ok-inner.inner ≡ stands c.args.scope.now = c.in_ok-inner.ensures in
    let none : c.new-images.result ≡ [] = c.new-images.ensures in
    (λ i. from (g.S.Signatures.arity_of c.args.sigs.now) (form_of c.args.body.now) (start i) (none i) c.args.bindings.now 0)

pub in_turn_term-loop-binding-preserved : goal.in_turn_term-loop-binding-preserved
in_turn_term-loop-binding-preserved g t c =
    turn-taken (g.S.Signatures.arity_of c.args.sigs.now) (form_of c.args.body.now) (stands c.loop-binding.inner) (stands c.push-in-loop-binding.new.self)
    c.loop-binding.images c.push.new.self c.args.bindings.now c.loop-binding.binding-index c.binding-item.result _ _ _ _ _
    (omega arith) c.binding-item.is c.loop-binding.invariant c.in_ok-term.ensures c.in_ok-share.ensures c.in_ok-share-2.ensures refl c.in_ok-push.ensures.ok c.in_ok-push-2.ensures

pub in_turn_term-returns-in_err-term : goal.in_turn_term-returns-in_err-term
in_turn_term-returns-in_err-term g t c =
    let takes = g.S.Signatures.arity_of c.args.sigs.now in
    let body = form_of c.args.body.now in
    let e = c.in_err-term.field-0.0 in
    let says : SaysOutcome {A = Tm} (and_then (after_bindings takes (stands c.args.scope.now) c.args.bindings.now body) limited) (Err e) =
    turn-refused takes body (stands c.loop-binding.inner) c.loop-binding.images c.args.bindings.now c.loop-binding.binding-index c.binding-item.result _ e
    (omega arith) c.binding-item.is c.loop-binding.invariant c.in_err-term.ensures in
    grind arith

pub in_turn_term-returns-in_err-body : goal.in_turn_term-returns-in_err-body
in_turn_term-returns-in_err-body g t c =
    let takes = g.S.Signatures.arity_of c.args.sigs.now in
    let body = form_of c.args.body.now in
    let e = c.in_err-body.field-0.0 in
    let says : SaysOutcome {A = Tm} (and_then (after_bindings takes (stands c.args.scope.now) c.args.bindings.now body) limited) (Err e) =
    last-refused takes body (stands c.loop-binding.inner) c.loop-binding.images c.args.bindings.now c.loop-binding.binding-index _ e
    (omega arith) c.loop-binding.invariant c.in_err-body.ensures in
    grind arith

pub in_turn_term-returns : goal.in_turn_term-returns
in_turn_term-returns g t c =
    let takes = g.S.Signatures.arity_of c.args.sigs.now in
    let body = form_of c.args.body.now in
    last-taken takes body (stands c.loop-binding.inner) c.loop-binding.images c.args.bindings.now c.loop-binding.binding-index _ c.in_ok-body.body _
    (omega arith) c.loop-binding.invariant c.in_ok-body.ensures (subst (λ (ps : Pairs). SaysOutcome {A = Tm} (limited (folded replaced_by ps c.in_ok-body.body)) c.replace_in_turn.result) c.as_slice.ensures c.replace_in_turn.ensures)
