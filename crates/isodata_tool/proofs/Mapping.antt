-- Mapped formals as the code goes through them.
use Rattle.std.proofs.Common.{◌≡◌, ℕ, zero, suc, ◌+◌, ◌<◌, ◌≤◌, Bool, true, false, cond, List, [], ◌∷◌, ◌++◌, length, map, get_or, take, drop, slice_get, bytes_eq, Option, Some, None, refl, sym, ap, ap₂, ◌∙◌, subst, arith}
use native.Mathlib.Numerals.{unary_clauses}
use Rattle.std.proofs.lemmas.List.{take_all, take_more, map-append}
use Rattle.lisp_data.specs.Values.{Name}
use Rattle.terms.specs.Measures.{call1}
use Rattle.terms.specs.Primitives.{lookup}
use Rattle.terms.specs.Substitution.{by_pairs, HasDistinctKeys}
use Rattle.terms.specs.Terms.{Tm, Var, Tms, Done, More, tms, substitute, substitute_all}
use Rattle.terms.proofs.Args.{depth-get_or}
use Rattle.terms.proofs.Names.{same_name, name_self}
use Rattle.reduction_proofs.specs.Trees.{Proof, Cut}
use Rattle.isodata_tool.specs.Carried.{Mapped, find_map, with_back, forth_by, all_forth, with_new_calls, all_with_new_calls}
use Rattle.isodata_tool.specs.Places.{forth_by_place}
use Rattle.isodata_tool.specs.Proofs.{backs, cut_each, undone_in, all_undone_in}
use Rattle.isodata_tool.proofs.Substituted.{backs_at}

-- ---- Arguments on the new representation, one by one
abbrev pub forth_list : List Mapped → List Name → List Tm → List Tm
forth_list ms [] ts = ts
forth_list ms (x ∷ xs) [] = []
forth_list ms (x ∷ xs) (t ∷ ts) = forth_by (find_map ms x) t ∷ forth_list ms xs ts

pub forth-all : (ms : List Mapped) (xs : List Name) (ts : List Tm) → tms (forth_list ms xs ts) ≡ all_forth ms xs (tms ts)
forth-all ms [] ts = refl
forth-all ms (x ∷ xs) [] = refl
forth-all ms (x ∷ xs) (t ∷ ts) = ap (More (forth_by (find_map ms x) t)) (forth-all ms xs ts)

pub forth-none : (ms : List Mapped) (xs : List Name) → forth_list ms xs [] ≡ []
forth-none ms [] = refl
forth-none ms (x ∷ xs) = refl

pub forth-more : (ms : List Mapped) (xs : List Name) (ts : List Tm) (i : ℕ) (t : Tm) → i < length ts → t ≡ get_or ts i t → forth_list ms xs (take (i + 1) ts) ≡ forth_list ms xs (take i ts) ++ forth_by_place ms (slice_get xs i) t ∷ []
forth-more ms xs [] i t h e = absurd (omega arith)
forth-more ms [] (u ∷ ts) zero t h e = ap (λ s. s ∷ []) (sym e)
forth-more ms (x ∷ xs) (u ∷ ts) zero t h e = ap₂ (λ s r. forth_by (find_map ms x) s ∷ r) (sym e) (forth-none ms xs)
forth-more ms [] (u ∷ ts) (suc i) t h e = simp unary_clauses (simp unary_clauses at (ap (λ r. u ∷ r) (forth-more ms [] ts i t (omega arith) e)))
forth-more ms (x ∷ xs) (u ∷ ts) (suc i) t h e = simp unary_clauses (simp unary_clauses at (ap (λ r. forth_by (find_map ms x) u ∷ r) (forth-more ms xs ts i t (omega arith) e)))

pub forth-end : (ms : List Mapped) (xs : List Name) (ts : List Tm) (i : ℕ) → length ts ≤ i → tms (forth_list ms xs (take i ts)) ≡ all_forth ms xs (tms ts)
forth-end ms xs ts i h = ap (λ r. tms (forth_list ms xs r)) (take_all i ts h) ∙ forth-all ms xs ts

pub ruleset forths = (forth-none, forth-more, forth-end)

-- ---- Keys
-- a key isn't among those before it
pub key-new : (ms : List Mapped) (i : ℕ) (e : Mapped) → HasDistinctKeys (backs ms) → i < length ms → e ≡ get_or ms i e → lookup (backs (take i ms)) e.formal ≡ None
key-new [] i e d h is = absurd (omega arith)
key-new (m ∷ ms) zero e d h is = refl
key-new (m ∷ ms) (suc i) e d h is = by_test (bytes_eq m.formal e.formal) refl (key-new ms i e d.1 (omega arith) is)
  where
    found : (es : List Mapped) (j : ℕ) → j < length es → e ≡ get_or es j e → lookup (backs es) e.formal ≡ None → ⊥
    found [] j l q n = absurd (omega arith)
    found (f ∷ es) zero l q n = here (bytes_eq f.formal e.formal) (ap (λ z. bytes_eq z.formal e.formal) (sym q) ∙ name_self e.formal) n
      where
        here : (b : Bool) → b ≡ true → cond b (Some (call1 f.iso.back (Var f.formal))) (lookup (backs es) e.formal) ≡ None → ⊥
        here true t n' = cc
        here false t n' = cc
    found (f ∷ es) (suc j) l q n = past (bytes_eq f.formal e.formal) n (found es j (omega arith) q)
      where
        past : (b : Bool) → cond b (Some (call1 f.iso.back (Var f.formal))) (lookup (backs es) e.formal) ≡ None → (lookup (backs es) e.formal ≡ None → ⊥) → ⊥
        past true n' ih = cc
        past false n' ih = ih n'

    by_test : (b : Bool) → bytes_eq m.formal e.formal ≡ b → lookup (backs (take i ms)) e.formal ≡ None → cond b (Some (call1 m.iso.back (Var m.formal))) (lookup (backs (take i ms)) e.formal) ≡ None
    by_test false q ih = ih
    by_test true q ih = absurd (found ms i (omega arith) is (subst (λ z. lookup (backs ms) z ≡ None) (same_name m.formal e.formal q) d.0))

pub ruleset keys = (key-new)

-- ---- Cuts, from the last on
pub cut-more : (ps : List Proof) (i : ℕ) (d Q : Proof) → i < length ps → cut_each (take (i + 1) ps) Q ≡ cut_each (take i ps) (Cut (get_or ps i d) Q)
cut-more [] i d Q h = absurd (omega arith)
cut-more (P ∷ ps) zero d Q h = refl
cut-more (P ∷ ps) (suc i) d Q h = simp unary_clauses (simp unary_clauses at (ap (Cut P) (cut-more ps i d Q (omega arith))))

pub cut-start : (ps : List Proof) (Q : Proof) → cut_each (take (length ps) ps) Q ≡ cut_each ps Q
cut-start ps Q = ap (λ qs. cut_each qs Q) (take_all (length ps) ps (omega arith))

pub ruleset cuts = (cut-more, cut-start)

-- ---- Images of items, one by one
pub mapped-next : {A B : Type 0} (f : A → B) (xs : List A) (i : ℕ) (x : A) (ys zs : List B) (y : B) → i < length xs → x ≡ get_or xs i x →
    ys ≡ map f (take i xs) → y ≡ f x → zs ≡ ys ++ y ∷ [] → zs ≡ map f (take (i + 1) xs)
mapped-next f xs i x ys zs y h e so_far made pushed =
    pushed ∙ ap₂ (λ us u. us ++ u ∷ []) so_far made
    ∙ sym (ap (map f) (take_more xs i x h ∙ ap (λ u. take i xs ++ u ∷ []) (sym e)) ∙ map-append f (take i xs) (x ∷ []))

-- ---- Round trips, argument by argument
pub undone-all : (ms : List Mapped) (s : Name → Tm) (ts : List Tm) → map (undone_in ms s) ts ≡ all_undone_in ms s (tms ts)
undone-all ms s [] = refl
undone-all ms s (t ∷ ts) = ap (λ r. undone_in ms s t ∷ r) (undone-all ms s ts)

pub substituted-all : (s : Name → Tm) (ts : List Tm) → tms (map (substitute s) ts) ≡ substitute_all s (tms ts)
substituted-all s [] = refl
substituted-all s (t ∷ ts) = ap (More (substitute s t)) (substituted-all s ts)

pub ruleset undoings = (undone-all, substituted-all, depth-get_or, take_all)

-- ---- Calls replaced, argument by argument
pub called-all : (f g : Name) (ms : List Mapped) (xs : List Name) (ts : List Tm) → tms (map (with_new_calls f g ms xs) ts) ≡ all_with_new_calls f g ms xs (tms ts)
called-all f g ms xs [] = refl
called-all f g ms xs (t ∷ ts) = ap (More (with_new_calls f g ms xs t)) (called-all f g ms xs ts)

pub ruleset callings = (called-all, depth-get_or, take_all)

-- the pairs of the code are what stands for the formals
pub backs-by : (ms : List Mapped) → by_pairs (backs ms) ≡ with_back ms
backs-by ms = λ i x. backs_at ms x i
