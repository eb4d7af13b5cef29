-- What patterns bind.
use Rattle.std.proofs.Common.{◌≡◌, ℕ, suc, ◌+◌, ◌<◌, ◌≤◌, ◌↔◌, Bool, true, false, IsTrue, Option, arith, get_or, take, refl, sym, ap, ◌∙◌, subst, List, [], ◌∷◌, ◌++◌, map, length, reverse}
use Rattle.std.specs.Prelude.{Some, None, MatchOption}
use Rattle.std.proofs.lemmas.Bool.{false≢true}
use Rattle.std.proofs.lemmas.List.{take_all}
use Rattle.std.specs.List.{slice_get}
use Rattle.chw_base.specs.declared.index.ConId.{ConId}
use Rattle.chw_types.specs.declared.kind.Kind.{Kind}
use Rattle.chw_types.specs.declared.kind.Scalar.{Scalar}
use Rattle.chw_types.specs.declared.declarations.Data.{Data}
use Rattle.chw_types.specs.TypeTree.{TypeTree, ty_var, nat_lit, nat_sum, nat_product, domain, scalar, vector, data_of, fun, signal, for_all, TypeTrees}
use Rattle.chw_types.specs.TypeView.{tree_of, trees_of}
use Rattle.chw_types.specs.declared.ty.TyNode.{TyNode}
use Rattle.chw_types.specs.declared.ty.TyNode.TheVariants.{Var, NatLit, Sum, Times, DomOf, Unsigned, Signed, BitVector, Vec as VecNode, DataOf, Fun, Signal, Forall}
use Rattle.chw_types.specs.TypeMoves.{sub}
use Rattle.chw_types.specs.Arguments.{arguments}
use Rattle.chw_types.specs.Kinds.{IsOfTerms, KindsOf}
use Rattle.chw_types.specs.SameTypes.{SameTypes, same_scalar}
use Rattle.chw_types.proofs.SameLaws.{same_turned}
use Rattle.type_laws.proofs.Arguing.{kinds_of_arguments}
use Rattle.type_laws.proofs.SameForms.{as_scalar}
use Rattle.chw_terms.specs.declared.term.Pattern.{Pattern}
use Rattle.chw_terms.specs.declared.term.Pattern.TheVariants.{OfCon, OfLit, Default}
use Rattle.chw_terms.specs.Constructors.{Constructor, con_at}
use Rattle.chw_typing.specs.HeadTypes.{widest, literal_type, IsLookedAt, fields_at, PatternOf, of_con, of_lit, of_any}
use Rattle.chw_typing.specs.Programs.{IsSound}
use Rattle.chw_typing.specs.Scopes.{Setting, HasKind, IsTermType, AreTermTypes, AreSame}
use Rattle.chw_typing.specs.Typing.{Binds}
use Rattle.chw_typing.proofs.Kinded.{term_type, typed_at}
use Rattle.chw_typing.proofs.Lists.{found_in_map}
use Rattle.chw_typing.proofs.Patterns.{are_of_terms, fields_typed, constructor_arguments}
use Rattle.chw_typing.proofs.PutKinds.{same_kind_put}
use Rattle.chw_typing.proofs.SameScopes.{same_at}
use Rattle.chw_typing.specs.Finding.{settled}
use Rattle.term_types.specs.Binding.{BindsFound, BindsKinded, BindsNothing, IsLiteralOf, AreSettled, AreBoundSettled, NoneSettled, is_looked_at}
use Rattle.term_spines.specs.Kinding.{LacksKindUpTo, IsSettled, HaveKinds}
use Rattle.term_frames.specs.VarsView.{found_types, found_kinds}
use Rattle.seen_types.specs.declared.found.Found.{Found}
use Rattle.term_frames.specs.declared.fields.Bound.{Bound}
use Rattle.term_frames.specs.declared.fields.Bound.TheVariants.{OfFields, Settled}
use Rattle.seen_types.proofs.EachItem.{next_taken}
use Rattle.chw_typing.proofs.Settling.{same_settled, all_same_settled}
use Rattle.term_frames.proofs.VarsFound.{read_at}

pub looked_found : (t : TypeTree) → is_looked_at t ≡ true → IsLookedAt t
looked_found (scalar s w) e = tt
looked_found (data_of d ts) e = tt
looked_found (ty_var x) e = absurd (cc)
looked_found (nat_lit n) e = absurd (cc)
looked_found (nat_sum a b) e = absurd (cc)
looked_found (nat_product a b) e = absurd (cc)
looked_found (domain d) e = absurd (cc)
looked_found (vector n t) e = absurd (cc)
looked_found (fun a b) e = absurd (cc)
looked_found (signal d t) e = absurd (cc)
looked_found (for_all k t) e = absurd (cc)

pub looked_none : (t : TypeTree) → is_looked_at t ≡ false → IsLookedAt t → ⊥
looked_none (scalar s w) e h = absurd (cc)
looked_none (data_of d ts) e h = absurd (cc)
looked_none (ty_var x) e h = h
looked_none (nat_lit n) e h = h
looked_none (nat_sum a b) e h = h
looked_none (nat_product a b) e h = h
looked_none (domain d) e h = h
looked_none (vector n t) e h = h
looked_none (fun a b) e h = h
looked_none (signal d t) e h = h
looked_none (for_all k t) e h = h

-- a default is for all, and binds nothing
pub default_binds : (s : Setting) (kinds : List Kind) (u : TypeTree) → BindsFound s kinds u Default []
default_binds s kinds u = record { fields = []; pattern = of_any; are = refl; typed = tt }

pub literal_binds : (s : Setting) (kinds : List Kind) (u : TypeTree) (r : Scalar) (bits : List Bool) → IsLiteralOf u r bits → BindsFound s kinds u (OfLit r bits) []
literal_binds s kinds u r bits h =
    let at = as_scalar (same_turned h.1) in
    record { fields = []; pattern = subst (λ t. PatternOf s.datas t (OfLit r bits) []) (sym at.1) (of_lit h.0 (same_turned at.2)); are = refl; typed = tt }

literal_of : {datas : List Data} {u : TypeTree} {q : Pattern} {fs : List TypeTree} (r : Scalar) (bits : List Bool) → q ≡ OfLit r bits → PatternOf datas u q fs → IsLiteralOf u r bits
literal_of r bits e (of_lit {s = s} {w = w} {bits = b} l x) =
    let sort : s ≡ r = cc in
    let at : b ≡ bits = cc in (
      subst (λ c. length c ≤ widest) at l,
      subst (λ y. SameTypes (scalar s w) (literal_type y bits)) sort (subst (λ c. SameTypes (scalar s w) (literal_type s c)) at (same_scalar x)),
    )
literal_of r bits e (of_con it f o n) = absurd (cc)
literal_of r bits e of_any = absurd (cc)

pub literal_none : (s : Setting) (kinds : List Kind) (u : TypeTree) (r : Scalar) (bits : List Bool) → (IsLiteralOf u r bits → ⊥) → BindsNothing s kinds u (OfLit r bits)
literal_none s kinds u r bits never bound b = never (literal_of r bits refl b.pattern)

-- what a pattern of a constructor says
pub record ConParts (datas : List Data) (u : TypeTree) (c : ConId) (n : ℕ) (fs : List TypeTree) : Type 0 where
  pub it : Constructor
  pub ts : TypeTrees
  pub at : con_at datas c.number ≡ Some it
  pub is : u ≡ data_of it.of ts
  pub names : length it.decl.fields ≡ n
  pub fields : fs ≡ fields_at it ts

con_parts : {datas : List Data} {u : TypeTree} {q : Pattern} {fs : List TypeTree} (c : ConId) (n : ℕ) → q ≡ OfCon c n → PatternOf datas u q fs → ConParts datas u c n fs
con_parts {datas} c n e (of_con {d = d} {n = m} {c = b} {ts = ts} it f o l) =
    let same : b ≡ c = cc in
    let count : m ≡ n = cc in
    record { it = it; ts = ts; at = subst (λ x. con_at datas x.number ≡ Some it) same f; is = ap (λ x. data_of x ts) (sym o); names = l ∙ count; fields = refl }
con_parts c n e (of_lit l x) = absurd (cc)
con_parts c n e of_any = absurd (cc)

one_con : (datas : List Data) (c : ℕ) (a b : Constructor) → con_at datas c ≡ Some a → con_at datas c ≡ Some b → a ≡ b
one_con datas c a b e f = cc

pub con_missing : (s : Setting) (kinds : List Kind) (u : TypeTree) (c : ConId) (n : ℕ) → con_at s.datas c.number ≡ None → BindsNothing s kinds u (OfCon c n)
con_missing s kinds u c n e bound b = let p = con_parts c n refl b.pattern in let f = p.at in absurd (cc)

-- the type is none of the constructor's
pub con_other : (s : Setting) (kinds : List Kind) (u : TypeTree) (c : ConId) (n : ℕ) (it : Constructor) → con_at s.datas c.number ≡ Some it → ((ts : TypeTrees) → u ≡ data_of it.of ts → ⊥) → BindsNothing s kinds u (OfCon c n)
con_other s kinds u c n it e never bound b =
    let p = con_parts c n refl b.pattern in
    never p.ts (p.is ∙ ap (λ k. data_of k.of p.ts) (one_con s.datas c.number p.it it p.at e))

pub con_names : (s : Setting) (kinds : List Kind) (u : TypeTree) (c : ConId) (n : ℕ) (it : Constructor) → con_at s.datas c.number ≡ Some it → (length it.decl.fields ≡ n → ⊥) → BindsNothing s kinds u (OfCon c n)
con_names s kinds u c n it e never bound b =
    let p = con_parts c n refl b.pattern in
    never (ap (λ k. length k.decl.fields) (sym (one_con s.datas c.number p.it it p.at e)) ∙ p.names)

one_args : (d e : ℕ) (ts us : TypeTrees) (u : TypeTree) → u ≡ data_of d ts → u ≡ data_of e us → ts ≡ us
one_args d e ts us u a b = let f : data_of d ts ≡ data_of e us = sym a ∙ b in cc

pub con_unsettled : (s : Setting) (kinds : List Kind) (u : TypeTree) (c : ConId) (n : ℕ) (it : Constructor) (args : List TypeTree) → IsSound s → con_at s.datas c.number ≡ Some it → u ≡ data_of it.of (trees_of args) → NoneSettled s kinds it.decl.fields args → BindsNothing s kinds u (OfCon c n)
con_unsettled s kinds u c n it args h e is never bound b =
    let p = con_parts c n refl b.pattern in
    let same = one_con s.datas c.number p.it it p.at e in
    let ts = one_args p.it.of it.of p.ts (trees_of args) u p.is is in
    let fields : b.fields ≡ fields_at it (trees_of args) = p.fields ∙ (λ i. fields_at (same i) (ts i)) in
    let place = ap (λ fs. slice_get fs never.0) fields ∙ found_in_map (λ f. sub f (arguments (trees_of args))) it.decl.fields never.0 never.1 never.2 in
    let at = same_at b.fields bound never.0 (sub never.1 (arguments (trees_of args))) b.same place in
    let k = typed_at s kinds bound never.0 at.0 b.typed at.1 in
    never.3 at.0 k.kind (are_of_terms s h) at.2 k.has

settled_are : (s : Setting) (kinds : List Kind) (fs args : List TypeTree) (bound : List Found) → AreSettled s kinds fs args bound → map (λ a. settled s kinds a) (map (λ f. sub f (arguments (trees_of args))) fs) ≡ found_types bound
settled_are s kinds [] args [] h = refl
settled_are s kinds (f ∷ fs) args (r ∷ bound) h = λ i. h.0.0 i ∷ settled_are s kinds fs args bound h.1 i
settled_are s kinds [] args (r ∷ bound) h = absurd h
settled_are s kinds (f ∷ fs) args [] h = absurd h

settled_typed : (s : Setting) (kinds params : List Kind) (fs args : List TypeTree) (bound : List Found) → ((i : ℕ) (f : TypeTree) → slice_get fs i ≡ Some f → IsTermType s (reverse params) f) → KindsOf s.datas s.domains kinds (trees_of args) params → AreSettled s kinds fs args bound → AreTermTypes s kinds (found_types bound)
settled_typed s kinds params [] args [] typed d h = tt
settled_typed s kinds params (f ∷ fs) args (r ∷ bound) typed d h =
    let field = typed 0 f refl in
    let is = same_kind_put field.has (arguments (trees_of args)) kinds (kinds_of_arguments s.datas s.domains kinds params (trees_of args) d) r.ty r.kind (subst (SameTypes (sub f (arguments (trees_of args)))) h.0.0 (same_settled s kinds (sub f (arguments (trees_of args))))) h.0.1 in
    (term_type s kinds r.ty r.kind h.0.1 (subst IsOfTerms (sym is) field.of_terms), settled_typed s kinds params fs args bound (λ i g e. typed (suc i) g e) d h.1)
settled_typed s kinds params [] args (r ∷ bound) typed d h = absurd h
settled_typed s kinds params (f ∷ fs) args [] typed d h = absurd h

settled_kinds : (s : Setting) (kinds : List Kind) (fs args : List TypeTree) (bound : List Found) → AreSettled s kinds fs args bound → HaveKinds s kinds (found_types bound) (found_kinds bound)
settled_kinds s kinds [] args [] h = tt
settled_kinds s kinds (f ∷ fs) args (r ∷ bound) h = (h.0.1, settled_kinds s kinds fs args bound h.1)
settled_kinds s kinds [] args (r ∷ bound) h = absurd h
settled_kinds s kinds (f ∷ fs) args [] h = absurd h

con_binds : (s : Setting) (kinds : List Kind) (u : TypeTree) (c : ConId) (n : ℕ) (it : Constructor) (args : List TypeTree) (bound : List Found) (j : Kind) → IsSound s → HasKind s kinds u j → con_at s.datas c.number ≡ Some it → u ≡ data_of it.of (trees_of args) → length it.decl.fields ≡ n → AreSettled s kinds it.decl.fields args bound → BindsFound s kinds u (OfCon c n) (found_types bound)
con_binds s kinds u c n it args bound j h d e is names settled_each =
    let ts = trees_of args in
    let inner = constructor_arguments s kinds c.number it.of it ts j e refl (subst (λ w. HasKind s kinds w j) is d) in
    record {
      fields = fields_at it ts;
      pattern = subst (λ w. PatternOf s.datas w (OfCon c n) (fields_at it ts)) (sym is) (of_con it e refl names);
      are = settled_are s kinds it.decl.fields args bound settled_each;
      typed = settled_typed s kinds it.it.params it.decl.fields args bound (fields_typed s c.number it h e) inner settled_each;
    }

-- one more field
settled_next : (s : Setting) (kinds : List Kind) (fs args : List TypeTree) (bound : List Found) (f : TypeTree) (r : Found) → AreSettled s kinds fs args bound → IsSettled s kinds (sub f (arguments (trees_of args))) r → AreSettled s kinds (fs ++ f ∷ []) args (bound ++ r ∷ [])
settled_next s kinds [] args [] f r h is = (is, tt)
settled_next s kinds (g ∷ fs) args (u ∷ bound) f r h is = (h.0, settled_next s kinds fs args bound f r h.1 is)
settled_next s kinds [] args (u ∷ bound) f r h is = absurd h
settled_next s kinds (g ∷ fs) args [] f r h is = absurd h

pub settled_more : (s : Setting) (kinds : List Kind) (fs args : List TypeTree) (bound more : List Found) (i : ℕ) (f d u : TypeTree) (r : Found) → i < length fs → f ≡ get_or fs i d → u ≡ sub f (arguments (trees_of args)) → IsSettled s kinds u r → more ≡ bound ++ r ∷ [] → AreSettled s kinds (take i fs) args bound → AreSettled s kinds (take (i + 1) fs) args more
settled_more s kinds fs args bound more i f d u r l is put h e so_far =
    subst (λ xs. AreSettled s kinds xs args more) (sym (next_taken fs i f d l is))
    (subst (AreSettled s kinds (take i fs ++ f ∷ []) args) (sym e) (settled_next s kinds (take i fs) args bound f r so_far (subst (λ x. IsSettled s kinds x r) put h)))

pub settled_all : (s : Setting) (kinds : List Kind) (fs args : List TypeTree) (bound : List Found) (i : ℕ) → length fs ≤ i → AreSettled s kinds (take i fs) args bound → AreSettled s kinds fs args bound
settled_all s kinds fs args bound i l h = subst (λ xs. AreSettled s kinds xs args bound) (take_all i fs l) h

pub unsettled_at : (s : Setting) (kinds : List Kind) (fs args : List TypeTree) (i : ℕ) (f d u : TypeTree) → i < length fs → f ≡ get_or fs i d → u ≡ sub f (arguments (trees_of args)) → LacksKindUpTo s kinds u → NoneSettled s kinds fs args
unsettled_at s kinds fs args i f d u l is put never = (i, f, read_at fs i f d l is, subst (LacksKindUpTo s kinds) put never)

-- what is bound is a binding
pub binds : {s : Setting} {kinds : List Kind} {u : TypeTree} {q : Pattern} {bound : List TypeTree} → BindsFound s kinds u q bound → Binds s kinds u q bound
binds {s} {kinds} b = record { fields = b.fields; pattern = b.pattern; same = subst (AreSame b.fields) b.are (all_same_settled s kinds b.fields); typed = b.typed }

-- what a constructor's pattern binds, by what its fields are found to be
pub fields_told : (s : Setting) (kinds : List Kind) (u : TypeTree) (c : ConId) (n : ℕ) (it : Constructor) (args : List TypeTree) (j : Kind) (r : Option Bound) → IsSound s → HasKind s kinds u j → con_at s.datas c.number ≡ Some it → u ≡ data_of it.of (trees_of args) → length it.decl.fields ≡ n → MatchOption r (NoneSettled s kinds it.decl.fields args) (λ b. AreBoundSettled s kinds it.decl.fields args b) → MatchOption r (BindsNothing s kinds u (OfCon c n)) (λ b. BindsKinded s kinds u (OfCon c n) b)
fields_told s kinds u c n it args j (Some (Settled b)) h d e is names each = (con_binds s kinds u c n it args b.items j h d e is names each, settled_kinds s kinds it.decl.fields args b.items each)
fields_told s kinds u c n it args j (Some (OfFields p)) h d e is names each = absurd each
fields_told s kinds u c n it args j None h d e is names none = con_unsettled s kinds u c n it args h e is none

pub literal_same : (u t : TypeTree) (r : Scalar) (bits : List Bool) (b : Bool) → (length bits ≤ widest) × (t ≡ literal_type r bits) → (IsTrue b ↔ SameTypes u t) → (IsTrue b ↔ IsLiteralOf u r bits)
literal_same u t r bits b h told = (λ y. (h.0, subst (SameTypes u) h.1 (told.0 y)), λ g. told.1 (subst (SameTypes u) (sym h.1) g.1))

pub literal_wide : (u : TypeTree) (r : Scalar) (bits : List Bool) → widest < length bits → (IsTrue false ↔ IsLiteralOf u r bits)
literal_wide u r bits l = (λ y. absurd (false≢true y), λ h. absurd (omega (arith, h.0)))

-- a node that is no data type
pub no_data : (n : TyNode) (d : ℕ) (ts : TypeTrees) → ((x : _) (y : _) → n ≡ DataOf x y → ⊥) → tree_of n ≡ data_of d ts → ⊥
no_data (Var x) d ts never e = absurd (cc)
no_data (NatLit m) d ts never e = absurd (cc)
no_data (Sum a b) d ts never e = absurd (cc)
no_data (Times a b) d ts never e = absurd (cc)
no_data (DomOf x) d ts never e = absurd (cc)
no_data (Unsigned w) d ts never e = absurd (cc)
no_data (Signed w) d ts never e = absurd (cc)
no_data (BitVector w) d ts never e = absurd (cc)
no_data (VecNode n t) d ts never e = absurd (cc)
no_data (DataOf x y) d ts never e = never x y refl
no_data (Fun a b) d ts never e = absurd (cc)
no_data (Signal a b) d ts never e = absurd (cc)
no_data (Forall k t) d ts never e = absurd (cc)

-- a data type of another number
pub other_data : (t : TypeTree) (d e : ℕ) (ts : TypeTrees) → data_of d ts ≡ t → (d ≡ e → ⊥) → (us : TypeTrees) → t ≡ data_of e us → ⊥
other_data t d e ts is never us at =
    let both : data_of d ts ≡ data_of e us = is ∙ at in
    let same : d ≡ e = cc in
    never same
