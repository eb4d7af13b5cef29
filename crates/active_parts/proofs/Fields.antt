-- The types of the variables that a pattern binds.
use Rattle.std.proofs.Common.{◌≡◌, ℕ, refl, sym, ap, ◌∙◌, subst, List, [], map, length, Bool, Some, None}
use Rattle.chw_base.specs.declared.index.ConId.{ConId}
use Rattle.chw_types.specs.declared.kind.Scalar.{Scalar}
use Rattle.chw_types.specs.declared.declarations.Data.{Data}
use Rattle.chw_types.specs.Arguments.{arguments}
use Rattle.chw_types.specs.TypeMoves.{sub}
use Rattle.chw_types.specs.TypeTree.{TypeTree, TypeTrees, data_of}
use Rattle.chw_terms.specs.declared.term.Pattern.TheVariants.{OfCon, OfLit}
use Rattle.chw_terms.specs.Constructors.{Constructor, con_at}
use Rattle.chw_typing.specs.HeadTypes.{fields_at, PatternOf, of_con, of_lit}
use Rattle.con_places.specs.Constructing.{constructor_of, IsConstructor}
use Rattle.con_places.specs.declared.table.Constructor.{Constructor as Reference}
use Rattle.active_parts.specs.Below.{HasFields}

-- a pattern of a constructor
record OfConstructor (datas : List Data) (u : TypeTree) (c : ConId) (n : ℕ) : Type 0 where
  it : Constructor
  is : con_at datas c.number ≡ Some it
  args : TypeTrees
  type : u ≡ data_of it.of args
  count : length it.decl.fields ≡ n

con_fields : {datas : List Data} {u : TypeTree} {c : ConId} {n : ℕ} {fields : List TypeTree} → PatternOf datas u (OfCon c n) fields → OfConstructor datas u c n
con_fields (of_con {ts = ts} it e o n) = record { it = it; is = e; args = ts; type = ap (λ d. data_of d ts) (sym o); count = n }

pub no_constructor : (datas : List Data) (u : TypeTree) (c : ConId) (n : ℕ) → HasFields datas u (OfCon c n) → con_at datas c.number ≡ None → ⊥
no_constructor datas u c n h none = let there = con_fields h.1 in let is : con_at datas c.number ≡ Some there.it = there.is in absurd cc

pub no_data : (datas : List Data) (u : TypeTree) (c : ConId) (n : ℕ) → HasFields datas u (OfCon c n) → ((d : ℕ) (ts : TypeTrees) → u ≡ data_of d ts → ⊥) → ⊥
no_data datas u c n h none = let there = con_fields h.1 in none there.it.of there.args there.type

record SameData (d e : ℕ) (ts us : TypeTrees) : Type 0 where
  number : d ≡ e
  args : ts ≡ us

same_data : (d e : ℕ) (ts us : TypeTrees) → data_of d ts ≡ data_of e us → SameData d e ts us
same_data d e ts us h = record { number = cc; args = cc }

pub same_constructor : (datas : List Data) (n : ℕ) (a b : Constructor) → con_at datas n ≡ Some a → con_at datas n ≡ Some b → a ≡ b
same_constructor datas n a b x y = cc

pub constructor_pattern : (datas : List Data) (u : TypeTree) (c : ConId) (n : ℕ) (of : Reference) (d : ℕ) (ts : TypeTrees) (fields : List TypeTree) → HasFields datas u (OfCon c n) → IsConstructor datas c.number of → u ≡ data_of d ts → fields ≡ map (λ f. sub f (arguments ts)) of.decl.now.fields → PatternOf datas u (OfCon c n) fields
constructor_pattern datas u c n of d ts fields h at is made =
    let there = con_fields h.1 in
    let it : there.it ≡ constructor_of of = same_constructor datas c.number there.it (constructor_of of) there.is at.is in
    let same = same_data there.it.of d there.args ts (sym there.type ∙ is) in
    let whole : PatternOf datas (data_of there.it.of ts) (OfCon c n) (fields_at there.it ts) = of_con there.it there.is refl there.count in
    let types : fields_at there.it ts ≡ fields = ap (λ (k : Constructor). fields_at k ts) it ∙ sym made in
    subst (λ z. PatternOf datas z (OfCon c n) fields) (ap (λ e. data_of e ts) same.number ∙ sym is)
    (subst (PatternOf datas (data_of there.it.of ts) (OfCon c n)) types whole)

-- the other patterns bind nothing
literal_binds : {datas : List Data} {u : TypeTree} {s : Scalar} {bits : List Bool} {fields : List TypeTree} → PatternOf datas u (OfLit s bits) fields → PatternOf datas u (OfLit s bits) []
literal_binds (of_lit l e) = of_lit l e

pub literal_pattern : (datas : List Data) (u : TypeTree) (s : Scalar) (bits : List Bool) → HasFields datas u (OfLit s bits) → PatternOf datas u (OfLit s bits) []
literal_pattern datas u s bits h = literal_binds h.1
