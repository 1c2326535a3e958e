-- How a report is written piece by piece.
use Rattle.std.proofs.Common.{◌≡◌, ℕ, ◌+◌, ◌-◌, ◌≤◌, true, false, Bool, not, ◌||◌, ◌&&◌, List, [], ◌∷◌, ◌++◌, length, take, drop, get_or, Option, Some, None, Result, Ok, Err, OnErr, if◌then◌else◌, refl, ap, sym, ◌∙◌, subst, arith, append_assoc, length-append}
use Rattle.std.proofs.lemmas.List.{append-nil, take-append-le}
use Rattle.std.proofs.Math.Seq.{take-append-add, take-length}
use Rattle.lisp_data.specs.Datum.{Datum}
use Rattle.lisp_data.specs.declared.code.Code.{Code}
use Rattle.ports.specs.Streams.{Grows, GrowsByFront}
use Rattle.ports.proofs.Streams.{Grows-trans}
use Rattle.book_cli.specs.declared.progress.Progress.{Progress}
use Rattle.book_cli.specs.view.Begun.{IsBegun}
use Rattle.events.specs.Verdicts.{Verdict, Accepted, Redundant, Printed, Refused, verdict}
use Rattle.terms.specs.Worlds.{World}
use Rattle.terms.specs.Sound.{initial_world}
use Rattle.book_cli.specs.declared.words.Flags.{Flags}
use Rattle.book_cli.specs.Report.{Read, IsNext, all_lines, begin, after, is_refusal, goes_on, event_lines, turn_lines, end_lines, report_from, world_from, accepts, last_line}

module _ (a b c : Option (List ℕ)) where
  -- a piece more
  pub begun_more : (rest piece more whole : List ℕ) → IsBegun a b rest whole → rest ≡ piece ++ more → Grows b c piece → IsBegun a c more whole
  begun_more rest piece more whole it e g =
      record {
        written = it.written ++ piece;
        grown = Grows-trans a b c it.written piece it.grown g;
        split = append_assoc it.written piece more ∙ (ap (λ x. it.written ++ x) (sym e) ∙ it.split);
      }

  -- the last piece
  pub begun_end : (rest piece whole : List ℕ) → IsBegun a b rest whole → rest ≡ piece → Grows b c piece → Grows a c whole
  begun_end rest piece whole it e g =
      subst (Grows a c) (ap (λ x. it.written ++ x) (sym e) ∙ it.split) (Grows-trans a b c it.written piece it.grown g)

  -- a prefix of a piece
  pub begun_cut : (rest piece more whole : List ℕ) → IsBegun a b rest whole → rest ≡ piece ++ more → GrowsByFront b c piece → GrowsByFront a c whole
  begun_cut rest piece more whole it e g =
      let all : whole ≡ it.written ++ (piece ++ more) = sym (ap (λ x. it.written ++ x) (sym e) ∙ it.split) in
      let front : take (length it.written + g.0) whole ≡ it.written ++ take g.0 piece =
      ap (take (length it.written + g.0)) all ∙ (take-append-add it.written (piece ++ more) g.0 ∙ ap (λ x. it.written ++ x) (take-append-le g.0 piece more g.1)) in (
        length it.written + g.0,
        omega (arith, ap length all, length-append it.written (piece ++ more), length-append piece more, g.1),
        subst (Grows a c) (sym front) (Grows-trans a b c it.written (take g.0 piece) it.grown g.2),
      )

  -- a prefix of the last piece
  pub begun_last_cut : (rest piece whole : List ℕ) → IsBegun a b rest whole → rest ≡ piece → GrowsByFront b c piece → GrowsByFront a c whole
  begun_last_cut rest piece whole it e g = begun_cut rest piece [] whole it (e ∙ sym (append-nil piece)) g

  -- nothing more
  pub begun_stays : (rest whole : List ℕ) → IsBegun a b rest whole → Grows b c [] → GrowsByFront a c whole
  begun_stays rest whole it g = begun_cut rest [] rest whole it refl (0, omega arith, g)

pub on_err : {T E : Type 0} {P : Type 0} (r : Result T E) → P → OnErr r P
on_err (Ok x) p = tt
on_err (Err e) p = p

-- an event that isn't refused, or after which the run continues, and one with which it ends
goes : (continues : Bool) (v : Verdict) (accepted : Bool) → accepted ≡ not (is_refusal v) → (accepted || continues) ≡ true → goes_on continues v ≡ true
goes continues (Accepted next) accepted e h = refl
goes continues Redundant accepted e h = refl
goes continues (Printed v) accepted e h = refl
goes continues (Refused why) accepted e h = ap (λ b. b || continues) (sym e) ∙ h

stops : (continues : Bool) (v : Verdict) (accepted : Bool) → accepted ≡ not (is_refusal v) → (accepted || continues) ≡ false → goes_on continues v ≡ false
stops continues (Accepted next) accepted e h = absurd (cc)
stops continues Redundant accepted e h = absurd (cc)
stops continues (Printed v) accepted e h = absurd (cc)
stops continues (Refused why) accepted e h = ap (λ b. b || continues) (sym e) ∙ h

-- what comes after an event's lines
abbrev pub after_turn : Flags → Progress → Datum × ℕ → Read → List ℕ
after_turn flags p e rest = if goes_on flags.continues (verdict p.world e.0) then report_from flags (after p (verdict p.world e.0)) rest.0 rest.1 else []

-- where an event stands first
module _ (flags : Flags) (p : Progress) (e : Datum × ℕ) (read rest : Read) (first : read ≡ (e ∷ rest.0, rest.1)) where
  pub report_split : report_from flags p read.0 read.1 ≡ turn_lines flags p e ++ after_turn flags p e rest
  report_split =
      ap (λ (r : Read). report_from flags p r.0 r.1) first
      ∙ by_test (all_lines (event_lines flags p e)) (last_line (after p (verdict p.world e.0))) (report_from flags (after p (verdict p.world e.0)) rest.0 rest.1) (goes_on flags.continues (verdict p.world e.0))
    where
      by_test : (line last more : List ℕ) (b : Bool) → line ++ (if b then more else last) ≡ (line ++ (if b then [] else last)) ++ (if b then more else [])
      by_test line last more true = ap (λ x. x ++ more) (sym (append-nil line))
      by_test line last more false = sym (append-nil (line ++ last))

module _ (flags : Flags) (p q : Progress) (e : Datum × ℕ) (accepted : Bool) (next : IsNext (verdict p.world e.0) p q accepted) where
  pub goes_with : (accepted || flags.continues) ≡ true → goes_on flags.continues (verdict p.world e.0) ≡ true
  goes_with = goes flags.continues (verdict p.world e.0) accepted next.accepts

  pub stops_with : (accepted || flags.continues) ≡ false → goes_on flags.continues (verdict p.world e.0) ≡ false
  stops_with = stops flags.continues (verdict p.world e.0) accepted next.accepts

  pub turn_goes : (accepted || flags.continues) ≡ true → turn_lines flags p e ≡ all_lines (event_lines flags p e)
  turn_goes h =
      ap (λ b. all_lines (event_lines flags p e) ++ (if b then [] else last_line (after p (verdict p.world e.0)))) (goes_with h) ∙ append-nil (all_lines (event_lines flags p e))

  pub turn_stops : (accepted || flags.continues) ≡ false → turn_lines flags p e ≡ all_lines (event_lines flags p e) ++ last_line q
  turn_stops h =
      ap (λ b. all_lines (event_lines flags p e) ++ (if b then [] else last_line (after p (verdict p.world e.0)))) (stops_with h)
      ∙ ap (λ (r : Progress). all_lines (event_lines flags p e) ++ last_line r) (sym next.progress)

  -- where the event stands first
  module _ (read rest : Read) (first : read ≡ (e ∷ rest.0, rest.1)) where
    pub report_goes : (accepted || flags.continues) ≡ true → report_from flags p read.0 read.1 ≡ turn_lines flags p e ++ report_from flags q rest.0 rest.1
    report_goes h =
        report_split flags p e read rest first
        ∙ ap (λ b. turn_lines flags p e ++ (if b then report_from flags (after p (verdict p.world e.0)) rest.0 rest.1 else [])) (goes_with h)
        ∙ ap (λ (r : Progress). turn_lines flags p e ++ report_from flags r rest.0 rest.1) (sym next.progress)

    pub report_stops : (accepted || flags.continues) ≡ false → report_from flags p read.0 read.1 ≡ turn_lines flags p e
    report_stops h =
        report_split flags p e read rest first
        ∙ ap (λ b. turn_lines flags p e ++ (if b then report_from flags (after p (verdict p.world e.0)) rest.0 rest.1 else [])) (stops_with h)
        ∙ append-nil (turn_lines flags p e)

    accepts_first : (es : List (Datum × ℕ)) (end : Option (Code × ℕ)) → accepts p (e ∷ es) end ≡ (if is_refusal (verdict p.world e.0) then false else accepts (after p (verdict p.world e.0)) es end)
    accepts_first es None = refl
    accepts_first es (Some fault) = same (is_refusal (verdict p.world e.0))
      where
        same : (b : Bool) → false ≡ (if b then false else false)
        same true = refl
        same false = refl

    refuses : (b : Bool) → accepted ≡ b → is_refusal (verdict p.world e.0) ≡ not b
    refuses b h = by_test (is_refusal (verdict p.world e.0)) b (sym h ∙ next.accepts)
      where
        by_test : (r b : Bool) → b ≡ not r → r ≡ not b
        by_test true b k = sym (ap not k)
        by_test false b k = sym (ap not k)

    pub accepts_goes : accepted ≡ true → accepts q rest.0 rest.1 ≡ accepts p read.0 read.1
    accepts_goes h =
        sym (ap (λ (r : Read). accepts p r.0 r.1) first ∙ accepts_first rest.0 rest.1
        ∙ ap (λ b. if b then false else accepts (after p (verdict p.world e.0)) rest.0 rest.1) (refuses true h)
        ∙ ap (λ (r : Progress). accepts r rest.0 rest.1) (sym next.progress))

    pub accepts_not : accepted ≡ false → accepts p read.0 read.1 ≡ false
    accepts_not h =
        ap (λ (r : Read). accepts p r.0 r.1) first ∙ accepts_first rest.0 rest.1
        ∙ ap (λ b. if b then false else accepts (after p (verdict p.world e.0)) rest.0 rest.1) (refuses false h)

    pub world_goes : (accepted || flags.continues) ≡ true → world_from flags q rest.0 ≡ world_from flags p read.0
    world_goes h =
        sym (ap (λ (r : Read). world_from flags p r.0) first
        ∙ ap (λ b. if b then world_from flags (after p (verdict p.world e.0)) rest.0 else p.world) (goes_with h)
        ∙ ap (λ (r : Progress). world_from flags r rest.0) (sym next.progress))

    pub world_stops : (accepted || flags.continues) ≡ false → world_from flags p read.0 ≡ q.world
    world_stops h =
        ap (λ (r : Read). world_from flags p r.0) first
        ∙ ap (λ b. if b then world_from flags (after p (verdict p.world e.0)) rest.0 else p.world) (stops_with h)
        ∙ sym (ap (λ (r : Progress). r.world) next.progress ∙ kept (verdict p.world e.0) (stops_with h))
      where
        kept : (v : Verdict) → goes_on flags.continues v ≡ false → (after p v).world ≡ p.world
        kept (Accepted w) k = absurd (cc)
        kept Redundant k = absurd (cc)
        kept (Printed v) k = absurd (cc)
        kept (Refused why) k = refl

    pub fewer : length read.0 ≡ length rest.0 + 1
    fewer = ap (λ (r : Read). length r.0) first ∙ (let k : length (e ∷ rest.0) ≡ length rest.0 + 1 = omega arith in k)

  -- how many were handled and counted
  pub handled_more : q.handled ≡ p.handled + 1
  handled_more = ap (λ (r : Progress). r.handled) next.progress ∙ one (verdict p.world e.0)
    where
      one : (v : Verdict) → (after p v).handled ≡ p.handled + 1
      one (Accepted w) = refl
      one Redundant = refl
      one (Printed v) = refl
      one (Refused why) = refl

  pub counted_within : p.counted ≤ p.handled → q.counted ≤ q.handled
  counted_within h = subst (λ (r : Progress). r.counted ≤ r.handled) (sym next.progress) (within (verdict p.world e.0))
    where
      within : (v : Verdict) → (after p v).counted ≤ (after p v).handled
      within (Accepted w) = omega (arith, h)
      within Redundant = omega (arith, h)
      within (Printed v) = omega (arith, h)
      within (Refused why) = omega (arith, h)

-- all were accepted so far, and whether the next was
module _ (all accepted : Bool) (before behind : Bool) where
  pub both_go : (accepted ≡ true → behind ≡ before) → (accepted ≡ false → before ≡ false) → ((all && accepted) && behind) ≡ (all && before)
  both_go yes-case no-case = by_test all accepted refl
    where
      by_test : (a b : Bool) → accepted ≡ b → ((a && b) && behind) ≡ (a && before)
      by_test true true h = yes-case h
      by_test true false h = sym (no-case h)
      by_test false b h = refl

-- where the events end
module _ (flags : Flags) (p : Progress) (read : Read) (end : Option (Code × ℕ)) (last : read ≡ ([], end)) where
  pub report_ends : report_from flags p read.0 read.1 ≡ end_lines p end
  report_ends = ap (λ (r : Read). report_from flags p r.0 r.1) last

  pub world_ends : world_from flags p read.0 ≡ p.world
  world_ends = ap (λ (r : Read). world_from flags p r.0) last

pub accepts_end : (p : Progress) (read : Read) → read ≡ ([], None) → accepts p read.0 read.1 ≡ true
accepts_end p read last = ap (λ (r : Read). accepts p r.0 r.1) last

pub accepts_fault : (p : Progress) (read : Read) (fault : Code × ℕ) → read ≡ ([], Some fault) → accepts p read.0 read.1 ≡ false
accepts_fault p read fault last = ap (λ (r : Read). accepts p r.0 r.1) last

-- the first line, and the others, as a slice reads them
pub lines_split : (lines : List (List ℕ)) (d : List ℕ) → 1 ≤ length lines → all_lines lines ≡ get_or lines 0 d ++ all_lines (take (length lines - 1) (drop 1 lines))
lines_split [] d h = absurd (omega arith)
lines_split (line ∷ lines) d h =
    let k : length (line ∷ lines) - 1 ≡ length lines = omega arith in
    ap (λ x. line ++ x) (ap all_lines (sym (ap (λ n. take n lines) k ∙ take-length lines)))

-- where a run stands in a world, before its first event
abbrev started : World → Progress
started W = record { world = W; handled = 0; counted = 0 }

pub begins : (W : World) → W ≡ initial_world → started W ≡ begin
begins W e = ap started e
