-- The numbers of types in a table, and what they tell of the types that are found.
use Rattle.std.proofs.Common.{◌≡◌, ℕ, suc, zero, ◌+◌, ◌<◌, ◌≤◌, Option, Some, None, refl, sym, ap, ◌∙◌, subst, List, [], ◌∷◌, ◌++◌, length, take, get_or}
use Rattle.std.specs.Prelude.{IfSome}
use Rattle.std.specs.List.{slice_get, AllZip}
use Rattle.std.proofs.lemmas.List.{take_all}
use Rattle.std.proofs.lemmas.Option.{same_Some}
use Rattle.chw_types.specs.TypeTree.{TypeTree}
use Rattle.chw_terms.specs.TermTree.{global, con}
use Rattle.chw_terms.specs.declared.program.Def.{Def}
use Rattle.chw_terms.specs.declared.scene.Scene.{Scene}
use Rattle.chw_typing.specs.HeadTypes.{con_type}
use Rattle.chw_typing.specs.Scopes.{setting_in}
use Rattle.chw_typing.proofs.Lists.{found_in_map}
use Rattle.chw_typing.specs.Finding.{Finds, f_global, f_con}
use Rattle.chw_typing.proofs.FoundOnce.{one_found}
use Rattle.type_numbers.specs.Nodes.{Grows}
use Rattle.term_frames.specs.Numbers.{IsNumberFound, AreNumbered, IsHeadNumbered, AreHeadsNumbered}
use Rattle.term_frames.specs.Signatures.{IsSignature}
use Rattle.term_frames.specs.declared.signature.HeadType.{HeadType}
use Rattle.term_frames.specs.declared.signature.Signature.{Signature}
use Rattle.seen_types.proofs.EachItem.{next_taken}

-- two lists item by item, with one more in each
zip_last : {A B : Type 0} (R : A → B → Type 0) (xs : List A) (ys : List B) (x : A) (y : B) → AllZip R xs ys → R x y → AllZip R (xs ++ x ∷ []) (ys ++ y ∷ [])
zip_last R [] [] x y h r = (r, tt)
zip_last R (a ∷ xs) (b ∷ ys) x y h r = (h.0, zip_last R xs ys x y h.1 r)
zip_last R [] (b ∷ ys) x y h r = absurd h
zip_last R (a ∷ xs) [] x y h r = absurd h

-- what follows from what holds of two items holds of them
zip_then : {A B : Type 0} (R S : A → B → Type 0) (xs : List A) (ys : List B) → ((x : A) (y : B) → R x y → S x y) → AllZip R xs ys → AllZip S xs ys
zip_then R S [] [] f h = tt
zip_then R S (a ∷ xs) (b ∷ ys) f h = (f a b h.0, zip_then R S xs ys f h.1)
zip_then R S [] (b ∷ ys) f h = absurd h
zip_then R S (a ∷ xs) [] f h = absurd h

-- the second item at the place of a first
zip_at : {A B : Type 0} (R : A → B → Type 0) (xs : List A) (ys : List B) (i : ℕ) (x : A) → AllZip R xs ys → slice_get xs i ≡ Some x → (y : B) × (slice_get ys i ≡ Some y) × R x y
zip_at R [] [] i x h e = absurd (cc)
zip_at R (a ∷ xs) (b ∷ ys) zero x h e = (b, refl, subst (λ z. R z b) (same_Some a x e) h.0)
zip_at R (a ∷ xs) (b ∷ ys) (suc i) x h e = zip_at R xs ys i x h.1 e
zip_at R [] (b ∷ ys) i x h e = absurd h
zip_at R (a ∷ xs) [] i x h e = absurd h

-- the items so far, with the next ones
zip_next : {A B : Type 0} (R : A → B → Type 0) (xs more : List A) (ys : List B) (i : ℕ) (x : A) (y d : B) → i < length ys → y ≡ get_or ys i d → AllZip R xs (take i ys) → R x y → more ≡ xs ++ x ∷ [] → AllZip R more (take (i + 1) ys)
zip_next R xs more ys i x y d l is h r e =
    subst (λ zs. AllZip R zs (take (i + 1) ys)) (sym e) (subst (AllZip R (xs ++ x ∷ [])) (sym (next_taken ys i y d l is)) (zip_last R xs (take i ys) x y h r))

zip_all : {A B : Type 0} (R : A → B → Type 0) (xs : List A) (ys : List B) (i : ℕ) → length ys ≤ i → AllZip R xs (take i ys) → AllZip R xs ys
zip_all R xs ys i l h = subst (AllZip R xs) (take_all i ys l) h

-- numbers are kept as the table grows
pub numbered_grown : (ts us : List TypeTree) (ns : List ℕ) (ds : List Def) → Grows ts us → AreNumbered ts ns ds → AreNumbered us ns ds
numbered_grown ts us ns ds g h = zip_then (λ n d. slice_get ts n ≡ Some d.ty) (λ n d. slice_get us n ≡ Some d.ty) ns ds (λ n d e. g n d.ty e) h

head_grown : (ts us : List TypeTree) (o : Option ℕ) (h : Option HeadType) → Grows ts us → IsHeadNumbered ts o h → IsHeadNumbered us o h
head_grown ts us (Some n) (Some t) g e = g n t.ty e
head_grown ts us None (Some t) g e = tt
head_grown ts us o None g e = e

heads_grown : (ts us : List TypeTree) (os : List (Option ℕ)) (hs : List (Option HeadType)) → Grows ts us → AreHeadsNumbered ts os hs → AreHeadsNumbered us os hs
heads_grown ts us os hs g h = zip_then (λ o t. IsHeadNumbered ts o t) (λ o t. IsHeadNumbered us o t) os hs (λ o t e. head_grown ts us o t g e) h

-- one more definition, and all of them
pub definition_next : (ts us : List TypeTree) (ns more : List ℕ) (ds : List Def) (i n : ℕ) (it d : Def) → i < length ds → it ≡ get_or ds i d → AreNumbered ts ns (take i ds) → Grows ts us → slice_get us n ≡ Some it.ty → more ≡ ns ++ n ∷ [] → AreNumbered us more (take (i + 1) ds)
definition_next ts us ns more ds i n it d l is h g e new =
    zip_next (λ m d. slice_get us m ≡ Some d.ty) ns more ds i n it d l is (numbered_grown ts us ns (take i ds) g h) e new

pub definitions_all : (ts : List TypeTree) (ns : List ℕ) (ds : List Def) (i : ℕ) → length ds ≤ i → AreNumbered ts ns (take i ds) → AreNumbered ts ns ds
definitions_all ts ns ds i l h = zip_all (λ n d. slice_get ts n ≡ Some d.ty) ns ds i l h

-- one more type that is kept, and all of them
pub head_next : (ts us : List TypeTree) (os more : List (Option ℕ)) (hs : List (Option HeadType)) (i : ℕ) (o : Option ℕ) (it d : Option HeadType) → i < length hs → it ≡ get_or hs i d → AreHeadsNumbered ts os (take i hs) → Grows ts us → IsHeadNumbered us o it → more ≡ os ++ o ∷ [] → AreHeadsNumbered us more (take (i + 1) hs)
head_next ts us os more hs i o it d l is h g e new =
    zip_next (λ m t. IsHeadNumbered us m t) os more hs i o it d l is (heads_grown ts us os (take i hs) g h) e new

pub heads_all : (ts : List TypeTree) (os : List (Option ℕ)) (hs : List (Option HeadType)) (i : ℕ) → length hs ≤ i → AreHeadsNumbered ts os (take i hs) → AreHeadsNumbered ts os hs
heads_all ts os hs i l h = zip_all (λ o t. IsHeadNumbered ts o t) os hs i l h

-- the number of a definition's type
pub global_number : (scene : Scene) (s : Signature) (d : ℕ) (o : Option ℕ) → IsSignature scene.program.now s → IfSome o (λ n. slice_get s.numbering.definitions.items d ≡ Some n) → IsNumberFound (setting_in scene) s.numbering.types o (global d)
global_number scene s d None h is kinds vars t f = tt
global_number scene s d (Some n) h is kinds vars t f =
    let ts = s.numbering.types in
    let at = zip_at (λ m (it : Def). slice_get ts m ≡ Some it.ty) s.numbering.definitions.items scene.program.now.defs d n h.numbering.definitions is in
    let own : Finds (setting_in scene) kinds vars (global d) at.0.ty = f_global (found_in_map (λ (it : Def). it.ty) scene.program.now.defs d at.0 at.1) in
    subst (λ u. slice_get ts n ≡ Some u) (one_found own f refl) at.2

-- the number of a constructor's type
pub con_number : (scene : Scene) (s : Signature) (c : ℕ) (o : Option ℕ) → IsSignature scene.program.now s → IfSome o (λ n. slice_get s.numbering.constructors.items c ≡ Some (Some n)) → IsNumberFound (setting_in scene) s.numbering.types o (con c)
con_number scene s c None h is kinds vars t f = tt
con_number scene s c (Some n) h is kinds vars t f =
    let ts = s.numbering.types in
    let at = zip_at (λ o k. IsHeadNumbered ts o k) s.numbering.constructors.items s.kept.items c (Some n) h.numbering.constructors is in
    kept at.0 at.1 at.2
  where
    kept : (k : Option HeadType) → slice_get s.kept.items c ≡ Some k → IsHeadNumbered s.numbering.types (Some n) k → slice_get s.numbering.types n ≡ Some t
    kept (Some k) there e =
        let ts = s.numbering.types in
        let of = h.kept c (Some k) there in
        let own : Finds (setting_in scene) kinds vars (con c) (con_type of.0) = f_con of.1 in
        let same : k.ty ≡ t = ap (λ (x : HeadType). x.ty) of.2 ∙ one_found own f refl in
        subst (λ u. slice_get ts n ≡ Some u) same e
    kept None there e = absurd (cc)

pub no_items : {A : Type 0} (xs : List A) → length xs ≡ 0 → xs ≡ []
no_items [] e = refl
no_items (x ∷ xs) e = absurd (cc)
