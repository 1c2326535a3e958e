-- What maps give.
use Rattle.std.proofs.Common.{◌≡◌, ◌⊎◌, inl, inr, ◌||◌, Bool, true, false, cond, List, [], ◌∷◌, ◌++◌, bytes_eq, is_some, Option, Some, None, Ok, Err, if◌then◌else◌, refl, sym, ap, ◌∙◌, subst}
use Rattle.lisp_data.specs.Values.{Name}
use Rattle.terms.specs.Primitives.{lookup}
use Rattle.terms.specs.Worlds.{World, is_in}
use Rattle.terms.specs.declared.entries.FunPair.{FunPair}
use Rattle.terms.proofs.Names.{same_name}
use Rattle.terms.specs.Records.{find_instance}
use Rattle.terms.specs.Maps.{NamePairs, or_name, image}
use Rattle.terms.specs.Refusals.{Outcome, and_then}
use Rattle.terms.specs.Pairs.{with_pairs, name_pairs}
use Rattle.terms.specs.Instances.{own_pairs, recorded, with_recorded, by_own_pairs, with_instance, with_instances, map_from}
use Rattle.soft_vars.specs.Laws.{GivesInstances, MapsGiveInstances}
use Rattle.terms.proofs.MapKeys.{lookup-before, lookup-last, lookup-other}
use Rattle.terms.proofs.Fitting.{then_ok, ok_inj, pairs_fit}

-- what one function adds to a map: nothing where it stays, else its instance
record Adds (W : World) (own : List FunPair) (m : NamePairs) (f : Name) (n : NamePairs) : Type 0 where
  stays : (x g : Name) → lookup m x ≡ Some g → lookup n x ≡ Some g
  others : (x : Name) → bytes_eq f x ≡ false → lookup n x ≡ lookup m x
  itself : lookup m f ≡ None → (g : Name) × (recorded W f own ≡ Some g) × (((g ≡ f) × (lookup n f ≡ None)) ⊎ (lookup n f ≡ Some g))

by_record : (W : World) (own : List FunPair) (m : NamePairs) (f : Name) (n : NamePairs) → lookup m f ≡ None → (o : Option Name) → recorded W f own ≡ o → with_recorded m f o ≡ Ok n → Adds W own m f n
by_record W own m f n new None r e = absurd (cc)
by_record W own m f n new (Some g) r e =
    let same = ok_inj e in
    record {
      stays = λ x h l. ap (λ k. lookup k x) (sym same) ∙ lookup-before m ((f, g) ∷ []) x h l;
      others = λ x t. ap (λ k. lookup k x) (sym same) ∙ lookup-other m f g x t;
      itself = λ l. (g, r, inr (ap (λ k. lookup k f) (sym same) ∙ lookup-last m f g new));
    }

by_own : (W : World) (own : List FunPair) (m : NamePairs) (f : Name) (n : NamePairs) → lookup m f ≡ None → by_own_pairs W m f own ≡ Ok n → Adds W own m f n
by_own W [] m f n new e =
    let same = ok_inj e in
    record {
      stays = λ x g l. ap (λ k. lookup k x) (sym same) ∙ l;
      others = λ x t. ap (λ k. lookup k x) (sym same);
      itself = λ l. (f, refl, inl (refl, ap (λ k. lookup k f) (sym same) ∙ l));
    }
by_own W (p ∷ ps) m f n new e = by_record W (p ∷ ps) m f n new (find_instance W.instances f (p ∷ ps)) refl e

adds : (W : World) (pairs : List FunPair) (m : NamePairs) (f : Name) (n : NamePairs) → with_instance W pairs m f ≡ Ok n → Adds W (own_pairs W pairs f) m f n
adds W pairs m f n e = by_lookup (lookup m f) refl e
  where
    by_lookup : (o : Option Name) → lookup m f ≡ o → ◌≡◌ {A = Outcome NamePairs} (if is_some o then Ok m else by_own_pairs W m f (own_pairs W pairs f)) (Ok n) → Adds W (own_pairs W pairs f) m f n
    by_lookup None l e' = by_own W (own_pairs W pairs f) m f n l e'
    by_lookup (Some g) l e' =
        let same = ok_inj e' in
        record {
          stays = λ x h k. ap (λ z. lookup z x) (sym same) ∙ k;
          others = λ x t. ap (λ z. lookup z x) (sym same);
          itself = λ k. absurd (cc);
        }

-- what some functions add
record AddsAll (W : World) (pairs : List FunPair) (m : NamePairs) (fs : List Name) (n : NamePairs) : Type 0 where
  stays : (x g : Name) → lookup m x ≡ Some g → lookup n x ≡ Some g
  each : (f : Name) → is_in fs f ≡ true → lookup m f ≡ None → recorded W f (own_pairs W pairs f) ≡ Some (image n f)
  others : (f : Name) → is_in fs f ≡ false → lookup m f ≡ None → lookup n f ≡ None

-- the first of some functions, and the others
first_and_rest : (W : World) (pairs : List FunPair) (m k n : NamePairs) (f : Name) (fs : List Name) → Adds W (own_pairs W pairs f) m f k → AddsAll W pairs k fs n → AddsAll W pairs m (f ∷ fs) n
first_and_rest W pairs m k n f fs one rest = record {
  stays = λ x g l. rest.stays x g (one.stays x g l);
  each = λ x i l. each_by x (bytes_eq f x) refl i l;
  others = λ x i l. others_by x (bytes_eq f x) refl i l;
}
  where
    the_first : (g : Name) → recorded W f (own_pairs W pairs f) ≡ Some g → ((g ≡ f) × (lookup k f ≡ None)) ⊎ (lookup k f ≡ Some g) → (b : Bool) → is_in fs f ≡ b → recorded W f (own_pairs W pairs f) ≡ Some (image n f)
    the_first g r (inr l) b i = r ∙ ap (λ o. Some (or_name f o)) (sym (rest.stays f g l))
    the_first g r (inl h) true i = rest.each f i h.1
    the_first g r (inl h) false i = r ∙ ap Some h.0 ∙ ap (λ o. Some (or_name f o)) (sym (rest.others f i h.1))

    each_by : (x : Name) (b : Bool) → bytes_eq f x ≡ b → (b || is_in fs x) ≡ true → lookup m x ≡ None → recorded W x (own_pairs W pairs x) ≡ Some (image n x)
    each_by x true t i l =
        let same = same_name f x t in
        let own = one.itself (subst (λ z. lookup m z ≡ None) (sym same) l) in
        subst (λ z. recorded W z (own_pairs W pairs z) ≡ Some (image n z)) same (the_first own.0 own.1 own.2 (is_in fs f) refl)
    each_by x false t i l = rest.each x i (one.others x t ∙ l)

    others_by : (x : Name) (b : Bool) → bytes_eq f x ≡ b → (b || is_in fs x) ≡ false → lookup m x ≡ None → lookup n x ≡ None
    others_by x true t i l = absurd (cc)
    others_by x false t i l = rest.others x i (one.others x t ∙ l)

adds_all : (W : World) (pairs : List FunPair) (m : NamePairs) (fs : List Name) (n : NamePairs) → with_instances W pairs m fs ≡ Ok n → AddsAll W pairs m fs n
adds_all W pairs m [] n e =
    let same = ok_inj e in
    record { stays = λ x g l. ap (λ k. lookup k x) (sym same) ∙ l; each = λ f i l. absurd (cc); others = λ f i l. ap (λ k. lookup k f) (sym same) ∙ l }
adds_all W pairs m (f ∷ fs) n e =
    let r = then_ok (with_instance W pairs m f) (λ k. with_instances W pairs k fs) n e in
    first_and_rest W pairs m r.0 n f fs (adds W pairs m f r.0 r.1) (adds_all W pairs r.0 fs n r.2)

pub maps_give_instances : MapsGiveInstances
maps_give_instances W begun pairs fs m e =
    let r = then_ok (with_pairs W begun pairs) (λ k. with_instances W pairs k fs) m e in
    let given = (pairs_fit W begun pairs r.0 r.1).as_given in
    let all = adds_all W pairs r.0 fs m r.2 in
    record {
      given = λ x g l. all.stays x g (ap (λ k. lookup k x) given ∙ l);
      instances = λ f i l. all.each f i (ap (λ k. lookup k f) given ∙ l);
      others = λ f i l. all.others f i (ap (λ k. lookup k f) given ∙ l);
    }
