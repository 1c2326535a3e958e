-- The book that is read, and the one word.
use Rattle.std.proofs.Common.{◌≡◌, ℕ, ◌<◌, ◌≤◌, Bool, true, false, List, [], ◌∷◌, ◌++◌, length, get_or, take, Option, Some, None, IfSome, IsTrue, nat_lt, refl, ap, sym, ◌∙◌, subst, arith, length-append}
use Rattle.std.proofs.lemmas.Bool.Decides.{nat_tests}
use Rattle.std.proofs.lemmas.List.{take-append-le, append-nil}
use Rattle.std.specs.Prelude.{if◌then◌else◌, nat_eq}
use Rattle.std.specs.Cmp.Lexicographic.{same_text, other_text}
use lib.Pointwise.{pointwise}
use Rattle.ports.specs.Streams.{Grows, GrowsByFront}
use Rattle.ports.specs.ReadAll.{IsWhole, IsCut}
use Rattle.lisp_data.specs.Datum.{Datum}
use Rattle.lisp_data.specs.declared.code.Code.{Code}
use Rattle.lisp_reader.specs.Grammar.{parse, book_of}
use Rattle.lisp_reader.proofs.Ends.{goes_on}
use Rattle.lisp_reader.specs.declared.limits.TheConstants.{MAX_BOOK}
use Rattle.book_cli.specs.declared.progress.Progress.{Progress}
use Rattle.book_cli.specs.declared.words.Flags.{Flags}
use Rattle.terms.specs.Sound.{Sound}
use Rattle.book_cli.specs.Report.{Read, accepts, accepts_all, report_of, world_made}
use Rattle.book_cli.specs.Values.{PrintedValuesAreTrue}
use Rattle.book_cli.specs.Outcomes.{IsReported, IsAcceptedRun, IsRefusedRun}
use Rattle.book_cli.proofs.ReportLemmas.{begun_cut}

pub whole_is : (bytes : List ℕ) → length bytes ≤ MAX_BOOK → book_of bytes ≡ parse false bytes
whole_is bytes h =
    let test : nat_lt MAX_BOOK (length bytes) ≡ false = grind (arith, nat_tests) in
    ap (λ b. if b then parse true (take MAX_BOOK bytes) else parse false bytes) test

front_is : (bytes : List ℕ) → MAX_BOOK < length bytes → book_of bytes ≡ parse true (take MAX_BOOK bytes)
front_is bytes h =
    let test : nat_lt MAX_BOOK (length bytes) ≡ true = grind (arith, nat_tests) in
    ap (λ b. if b then parse true (take MAX_BOOK bytes) else parse false bytes) test

-- a book that was read whole
pub whole_book : (left after : Option (List ℕ)) (all : List ℕ) → IsWhole left after MAX_BOOK all → IfSome left (λ bytes. book_of bytes ≡ parse false all)
whole_book None after all it = tt
whole_book (Some bytes) after all it =
    let e : all ≡ bytes = it.all_left in
    whole_is bytes (subst (λ (xs : List ℕ). length xs ≤ MAX_BOOK) e it.within) ∙ ap (parse false) (sym e)

-- a longer book
pub front_book : (left : Option (List ℕ)) (front : List ℕ) → IsCut left MAX_BOOK front → IfSome left (λ bytes. book_of bytes ≡ parse true front)
front_book None front it = tt
front_book (Some bytes) front it = front_is bytes it.more ∙ ap (parse true) (sym it.first)

pub if_some : (o : Option (List ℕ)) (P Q : List ℕ → Type 0) → IfSome o P → ((bytes : List ℕ) → P bytes → Q bytes) → IfSome o Q
if_some None P Q h f = tt
if_some (Some bytes) P Q h f = f bytes h

accepts_to_end : (p : Progress) (es : List (Datum × ℕ)) (end : Option (Code × ℕ)) → accepts p es end ≡ true → end ≡ None
accepts_to_end p es None h = refl
accepts_to_end p es (Some fault) h = cc

-- a longer book is never accepted
pub front_refused : (front : List ℕ) → accepts_all (parse true front) ≡ true → ⊥
front_refused front h = goes_on front (accepts_to_end _ (parse true front).0 (parse true front).1 h)

-- a prefix of a first piece, and a prefix of a second
pub front_first : (a b : Option (List ℕ)) (p q : List ℕ) → GrowsByFront a b p → GrowsByFront a b (p ++ q)
front_first a b p q g =
    (g.0, omega (arith, g.1, length-append p q), subst (Grows a b) (sym (take-append-le g.0 p q g.1)) g.2)

pub front_second : (a b c : Option (List ℕ)) (p q : List ℕ) → Grows a b p → GrowsByFront b c q → GrowsByFront a c (p ++ q)
front_second a b c p q g h = begun_cut a b c q q [] (p ++ q) (record { written = p; grown = g; split = refl }) (sym (append-nil q)) h

-- a book that was read whole and reported
pub accepted_run : PrintedValuesAreTrue → (flags : Flags) (left left_after held held_after : Option (List ℕ)) (bytes : List ℕ) → IsWhole left left_after MAX_BOOK bytes → IsReported flags held held_after (parse false bytes) true → IsAcceptedRun flags left left_after held held_after
accepted_run values flags left left_after held held_after bytes whole it =
    let same : book_of bytes ≡ parse false bytes = whole_is bytes whole.within in
    record {
      book = bytes;
      whole = whole;
      written = subst (λ (r : Read). Grows held held_after (report_of flags r)) (sym same) it.written;
      none_refused = ap accepts_all same ∙ it.accepts;
      sound = subst (λ (r : Read). Sound (world_made flags r)) (sym same) it.sound;
      values = values flags (book_of bytes);
    }

-- what was read of a book and reported, with a refused line
pub refused_run : PrintedValuesAreTrue → (flags : Flags) (left held held_after : Option (List ℕ)) (read : Read) → IfSome left (λ bytes. book_of bytes ≡ read) → IsReported flags held held_after read false → IsRefusedRun flags left held held_after
refused_run values flags left held held_after read of_book it =
    record {
      read = read;
      of_book = of_book;
      written = it.written;
      one_refused = it.accepts;
      sound = it.sound;
      values = values flags read;
    }
