use Rattle.std.proofs.Common.{ℕ, ◌≡◌, ◌∷◌, ◌∙◌, ◌||◌, ◌&&◌, [], None, Some, true, sym, subst, ap, arith}
use Rattle.lisp_data.specs.Datum.{Datum}
use Rattle.lisp_data.specs.declared.code.Code.{Code}
use Rattle.lisp_data.specs.FormView.{form_of}
use Rattle.ports.proofs.Streams.{Grows-nil}
use Rattle.terms.specs.Worlds.{World}
use Rattle.terms.specs.Sound.{Sound}
use Rattle.book_cli.specs.Report.{begin, turn_lines, last_line, end_lines, report_from, report_of, world_from, accepts}
use Rattle.book_cli.proofs.ReportLemmas.{begins, begun_more, begun_end, begun_cut, begun_last_cut, begun_stays, after_turn, report_split, report_goes, report_stops, report_ends, accepts_goes, accepts_not, both_go, world_goes, world_stops, fewer, handled_more, counted_within, on_err}
use Rattle.book_cli.proofs.report.write_report.Goals as goal

pub events-init : goal.events-init
events-init g c =
    let start = begins c.in_ok-initial.field-0 c.in_ok-initial.ensures in
    record {
      begun = record {
        written = [];
        grown = Grows-nil (g.K.Sink.held c.args.out.now);
        split = ap (λ p. report_from c.args.flags p c.args.reader.now.0 c.args.reader.now.1) start;
      };
      accepted = ap (λ p. accepts p c.args.reader.now.0 c.args.reader.now.1) start;
      final = ap (λ p. world_from c.args.flags p c.args.reader.now.0) start;
      later = omega (arith);
      few = omega (arith, c.requires);
      counted = omega (arith);
    }

pub returns-in_err-accepted-in-Ok-Some-clause-cut : goal.returns-in_err-accepted-in-Ok-Some-clause-cut
returns-in_err-accepted-in-Ok-Some-clause-cut g c =
    let e : Datum × ℕ = (form_of c.in-Ok-Some.located.form, c.in-Ok-Some.located.place) in
    let first : c.events.reader ≡ (e ∷ c.next.new.self.0, c.next.new.self.1) = (rw c.in-Ok-Some.field-0-is at c.in-Ok-Some.ensures).next in
    on_err c.from_residual-in_err-accepted-in-Ok-Some.result
    (begun_cut _ (g.K.Sink.held c.events.out) _ _ (turn_lines c.args.flags c.events.progress e) (after_turn c.args.flags c.events.progress e c.next.new.self) _ c.events.invariant.begun
    (report_split c.args.flags c.events.progress e c.events.reader c.next.new.self first) c.in_err-accepted-in-Ok-Some.ensures.cut)

pub returns-then-not-goes_on-clause-written : goal.returns-then-not-goes_on-clause-written
returns-then-not-goes_on-clause-written g c =
    let e : Datum × ℕ = (form_of c.in-Ok-Some.located.form, c.in-Ok-Some.located.place) in
    let first : c.events.reader ≡ (e ∷ c.next.new.self.0, c.next.new.self.1) = (rw c.in-Ok-Some.field-0-is at c.in-Ok-Some.ensures).next in
    begun_end _ (g.K.Sink.held c.events.out) _ _ (turn_lines c.args.flags c.events.progress e) _ c.events.invariant.begun
    (report_stops c.args.flags c.events.progress c.take_event.new.progress e c.in_ok-accepted-in-Ok-Some.accepted c.in_ok-accepted-in-Ok-Some.ensures.next c.events.reader c.next.new.self first
    (sym c.goes_on.ensures ∙ c.if-not-goes_on.true))
    c.in_ok-accepted-in-Ok-Some.ensures.written

pub returns-then-not-goes_on-clause-sound : goal.returns-then-not-goes_on-clause-sound
returns-then-not-goes_on-clause-sound g c =
    let e : Datum × ℕ = (form_of c.in-Ok-Some.located.form, c.in-Ok-Some.located.place) in
    let first : c.events.reader ≡ (e ∷ c.next.new.self.0, c.next.new.self.1) = (rw c.in-Ok-Some.field-0-is at c.in-Ok-Some.ensures).next in
    subst (λ (W : World). Sound W)
    (sym (world_stops c.args.flags c.events.progress c.take_event.new.progress e c.in_ok-accepted-in-Ok-Some.accepted c.in_ok-accepted-in-Ok-Some.ensures.next c.events.reader c.next.new.self first
    (sym c.goes_on.ensures ∙ c.if-not-goes_on.true)) ∙ c.events.invariant.final)
    c.soundness.ensures

pub events-preserved : goal.events-preserved
events-preserved g c =
    let p = c.events.progress in
    let q = c.take_event.new.progress in
    let accepted = c.in_ok-accepted-in-Ok-Some.accepted in
    let next = c.in_ok-accepted-in-Ok-Some.ensures.next in
    let e : Datum × ℕ = (form_of c.in-Ok-Some.located.form, c.in-Ok-Some.located.place) in
    let first : c.events.reader ≡ (e ∷ c.next.new.self.0, c.next.new.self.1) = (rw c.in-Ok-Some.field-0-is at c.in-Ok-Some.ensures).next in
    let goes : (accepted || c.args.flags.continues) ≡ true = sym c.goes_on.ensures ∙ c.if-not-goes_on.false in
    record {
      begun = begun_more _ (g.K.Sink.held c.events.out) _ _ (turn_lines c.args.flags p e) _ _ c.events.invariant.begun
          (report_goes c.args.flags p q e accepted next c.events.reader c.next.new.self first goes) c.in_ok-accepted-in-Ok-Some.ensures.written;
      accepted = ap (λ b. b && (accepts q c.next.new.self.0 c.next.new.self.1)) c.still_all-all.ensures
          ∙ both_go c.events.all accepted (accepts p c.events.reader.0 c.events.reader.1) (accepts q c.next.new.self.0 c.next.new.self.1)
          (accepts_goes c.args.flags p q e accepted next c.events.reader c.next.new.self first) (accepts_not c.args.flags p q e accepted next c.events.reader c.next.new.self first)
          ∙ c.events.invariant.accepted;
      final = world_goes c.args.flags p q e accepted next c.events.reader c.next.new.self first goes ∙ c.events.invariant.final;
      later = omega (arith, c.events.invariant.later, c.in_ok-accepted-in-Ok-Some.ensures.later);
      few = omega (arith, c.events.invariant.few, fewer c.args.flags p q e accepted next c.events.reader c.next.new.self first, handled_more c.args.flags p q e accepted next);
      counted = counted_within c.args.flags p q e accepted next c.events.invariant.counted;
    }

pub returns-in_err-write_last-in-Ok-None-clause-cut : goal.returns-in_err-write_last-in-Ok-None-clause-cut
returns-in_err-write_last-in-Ok-None-clause-cut g c =
    let last : (c.events.reader ≡ ([], None)) × (c.next.new.self ≡ c.events.reader) = (rw c.in-Ok-None.field-0-is at c.in-Ok-None.ensures).next in
    on_err c.from_residual-in_err-write_last-in-Ok-None.result
    (begun_last_cut _ (g.K.Sink.held c.events.out) _ _ (last_line c.events.progress) _ c.events.invariant.begun
    (report_ends c.args.flags c.events.progress c.events.reader None last.0) c.in_err-write_last-in-Ok-None.ensures.cut)

pub returns-in_err-write_fault-in-Refused-clause-cut : goal.returns-in_err-write_fault-in-Refused-clause-cut
returns-in_err-write_fault-in-Refused-clause-cut g c =
    let fault : Code × ℕ = (c.in-Refused.code, c.in-Refused.place) in
    let last : (c.events.reader ≡ ([], Some fault)) × (c.next.new.self ≡ c.events.reader) = (rw c.in-Refused.is at c.in-Err.ensures).next in
    on_err c.from_residual-in_err-write_fault-in-Refused.result
    (begun_last_cut _ (g.K.Sink.held c.events.out) _ _ (end_lines c.events.progress (Some fault)) _ c.events.invariant.begun
    (report_ends c.args.flags c.events.progress c.events.reader (Some fault) last.0) c.in_err-write_fault-in-Refused.ensures.cut)

pub returns-in-Memory-clause-cut : goal.returns-in-Memory-clause-cut
returns-in-Memory-clause-cut g c =
    begun_stays _ (g.K.Sink.held c.events.out) (g.K.Sink.held c.events.out) (report_from c.args.flags c.events.progress c.events.reader.0 c.events.reader.1) (report_of c.args.flags c.args.reader.now) c.events.invariant.begun (Grows-nil (g.K.Sink.held c.events.out))
