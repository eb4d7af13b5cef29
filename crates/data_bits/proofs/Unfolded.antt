-- The element of a vector, and the fields of a constructor, weigh less than the vector and the data type.
use Rattle.std.proofs.Common.{◌≡◌, ℕ, suc, zero, ◌+◌, ◌<◌, ◌≤◌, sym, ap, ◌∙◌, List, [], ◌∷◌, ◌++◌, length, get_or, map, arith}
use Rattle.std.specs.Prelude.{Some}
use Rattle.std.specs.List.{slice_get}
use Rattle.std.proofs.lemmas.List.{map-append}
use Rattle.chw_types.specs.declared.declarations.ConDecl.{ConDecl}
use Rattle.chw_types.specs.declared.declarations.Data.{Data}
use Rattle.chw_types.specs.TypeTree.{TypeTree, data_of, TypeTrees}
use Rattle.chw_types.specs.TypeMoves.{Substitution, sub}
use Rattle.chw_types.specs.Arguments.{arguments, all_fields}
use Rattle.chw_types.specs.References.{HasNoCycle}
use Rattle.chw_types.proofs.Weights.{whole, all_whole, unfolded, all_whole_append}

-- the fields of these types, with this put in
abbrev pub fields_whole : List Data → List TypeTree → Substitution → ℕ
fields_whole datas fs σ = all_whole datas (map (λ f. sub f σ) fs)

pub field_lighter : (datas : List Data) (fs : List TypeTree) (σ : Substitution) (i : ℕ) (f : TypeTree) → i < length fs → f ≡ get_or fs i f → whole datas (sub f σ) < fields_whole datas fs σ
field_lighter datas [] σ i f l e = absurd (omega arith)
field_lighter datas (g ∷ fs) σ zero f l e = let p : whole datas (sub f σ) ≡ whole datas (sub g σ) = ap (λ h. whole datas (sub h σ)) e in omega arith
field_lighter datas (g ∷ fs) σ (suc i) f l e = let w = field_lighter datas fs σ i f (omega arith) e in omega arith

fields_join : (datas : List Data) (fs gs : List TypeTree) (σ : Substitution) → fields_whole datas (fs ++ gs) σ ≡ fields_whole datas fs σ + fields_whole datas gs σ
fields_join datas fs gs σ = ap (all_whole datas) (map-append (λ f. sub f σ) fs gs) ∙ all_whole_append datas (map (λ f. sub f σ) fs) (map (λ f. sub f σ) gs)

con_lighter : (datas : List Data) (cs : List ConDecl) (σ : Substitution) (i : ℕ) (c : ConDecl) → slice_get cs i ≡ Some c → fields_whole datas c.fields σ ≤ fields_whole datas (all_fields cs) σ
con_lighter datas [] σ i c e = absurd (cc)
con_lighter datas (x ∷ cs) σ zero c e =
    let same : x ≡ c = cc in
    let p : fields_whole datas c.fields σ ≡ fields_whole datas x.fields σ = ap (λ (y : ConDecl). fields_whole datas y.fields σ) (sym same) in
    let q = fields_join datas x.fields (all_fields cs) σ in
    omega arith
con_lighter datas (x ∷ cs) σ (suc i) c e =
    let w = con_lighter datas cs σ i c e in
    let q = fields_join datas x.fields (all_fields cs) σ in
    omega arith

-- the fields of a constructor weigh less than its data type
pub constructor_lighter : (datas : List Data) → HasNoCycle datas → (d tag : ℕ) (it : Data) (c : ConDecl) (ts : TypeTrees) → slice_get datas d ≡ Some it → slice_get it.cons tag ≡ Some c → fields_whole datas c.fields (arguments ts) < whole datas (data_of d ts)
constructor_lighter datas order d tag it c ts known at =
    let p = unfolded datas order d it ts known in
    let q = con_lighter datas it.cons (arguments ts) tag c at in
    omega arith
