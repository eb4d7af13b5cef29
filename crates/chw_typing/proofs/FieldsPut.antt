-- Fields of a data type with arguments that are the same put in: each is the same, and the first has a kind.
use Rattle.std.proofs.Common.{◌≡◌, ℕ, suc, zero, refl, ap, subst, List, [], ◌∷◌, ◌++◌, length}
use Rattle.std.specs.Prelude.{Some}
use Rattle.std.specs.List.{slice_get}
use Rattle.chw_types.specs.declared.kind.Kind.{Kind}
use Rattle.chw_types.specs.declared.declarations.ConDecl.{ConDecl}
use Rattle.chw_types.specs.declared.declarations.Data.{Data}
use Rattle.chw_types.specs.TypeTree.{TypeTree, data_of, TypeTrees}
use Rattle.chw_types.specs.TypeMoves.{Substitution, sub}
use Rattle.chw_types.specs.Arguments.{list_of, arguments, all_fields}
use Rattle.chw_types.specs.Kinds.{KindsOf}
use Rattle.chw_types.specs.SameTypes.{SameAll, same_none, same_and}
use Rattle.type_laws.specs.SameKept.{FieldsKeepSame}
use Rattle.chw_terms.specs.References.{IsField}
use Rattle.chw_typing.specs.Scopes.{Setting, HasKind}
use Rattle.chw_typing.specs.Programs.{IsSound}
use Rattle.chw_typing.proofs.FieldKinds.{field_kind}
use Rattle.chw_typing.proofs.Patterns.{are_of_terms, arguments_kinds}
use Rattle.chw_typing.specs.Alike.{AreLike}

pub same_count : {ts us : TypeTrees} → SameAll ts us → length (list_of us) ≡ length (list_of ts)
same_count same_none = refl
same_count (same_and h hs) = ap suc (same_count hs)

-- each of these types, with the one and with the other put in
abbrev pub AllLike : Setting → Substitution → Substitution → List TypeTree → Type 0
AllLike s σ τ [] = Unit {0}
AllLike s σ τ (f ∷ fs) = AreLike s (sub f σ) (sub f τ) × AllLike s σ τ fs

-- the fields of each constructor
abbrev pub ConsLike : Setting → Substitution → Substitution → List ConDecl → Type 0
ConsLike s σ τ [] = Unit {0}
ConsLike s σ τ (c ∷ cs) = AllLike s σ τ c.fields × ConsLike s σ τ cs

all_like : (s : Setting) (σ τ : Substitution) (fs : List TypeTree) → ((i : ℕ) (f : TypeTree) → slice_get fs i ≡ Some f → AreLike s (sub f σ) (sub f τ)) → AllLike s σ τ fs
all_like s σ τ [] h = tt
all_like s σ τ (f ∷ fs) h = (h 0 f refl, all_like s σ τ fs (λ i g e. h (suc i) g e))

cons_like : (s : Setting) (σ τ : Substitution) (cs : List ConDecl) → ((i : ℕ) (c : ConDecl) → slice_get cs i ≡ Some c → AllLike s σ τ c.fields) → ConsLike s σ τ cs
cons_like s σ τ [] h = tt
cons_like s σ τ (c ∷ cs) h = (h 0 c refl, cons_like s σ τ cs (λ i d e. h (suc i) d e))

pub con_like : (s : Setting) (σ τ : Substitution) (cs : List ConDecl) (i : ℕ) (c : ConDecl) → slice_get cs i ≡ Some c → ConsLike s σ τ cs → AllLike s σ τ c.fields
con_like s σ τ [] i c e h = absurd (cc)
con_like s σ τ (x ∷ cs) zero c e h = let same : x ≡ c = cc in subst (λ (y : ConDecl). AllLike s σ τ y.fields) same h.0
con_like s σ τ (x ∷ cs) (suc i) c e h = con_like s σ τ cs i c e h.1

both_like : (s : Setting) (σ τ : Substitution) (fs gs : List TypeTree) → AllLike s σ τ fs → AllLike s σ τ gs → AllLike s σ τ (fs ++ gs)
both_like s σ τ [] gs a b = b
both_like s σ τ (f ∷ fs) gs a b = (a.0, both_like s σ τ fs gs a.1 b)

pub all_fields_like : (s : Setting) (σ τ : Substitution) (cs : List ConDecl) → ConsLike s σ τ cs → AllLike s σ τ (all_fields cs)
all_fields_like s σ τ [] h = tt
all_fields_like s σ τ (c ∷ cs) h = both_like s σ τ c.fields (all_fields cs) h.0 (all_fields_like s σ τ cs h.1)

module _ (s : Setting) (sound : IsSound s) (keep : FieldsKeepSame) where
  field_like : (d : ℕ) (it : Data) (ts us : TypeTrees) (f : TypeTree) → slice_get s.datas d ≡ Some it → IsField it f → KindsOf s.datas s.domains [] ts it.params → SameAll ts us → AreLike s (sub f (arguments ts)) (sub f (arguments us))
  field_like d it ts us f known field kinds same =
      let k = field_kind s sound d it ts f known field kinds in
      record { kind = k.0; has = k.2; same = keep s.datas s.domains [] it.params f ts us k.0 (are_of_terms s sound) k.1 kinds same }

  -- the fields of a closed data type, and those with arguments that are the same
  pub fields_like : (d : ℕ) (it : Data) (ts us : TypeTrees) (k : Kind) → slice_get s.datas d ≡ Some it → HasKind s [] (data_of d ts) k → SameAll ts us → ConsLike s (arguments ts) (arguments us) it.cons
  fields_like d it ts us k known has same =
      cons_like s (arguments ts) (arguments us) it.cons
      (λ i c e. all_like s (arguments ts) (arguments us) c.fields
      (λ j f g. field_like d it ts us f known (record { con = i; of = c; is_con = e; at = j; is_field = g }) (arguments_kinds it has known) same))
