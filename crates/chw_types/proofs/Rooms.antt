-- How deep and large a type becomes when its variables are moved, or types are put for them.
use Rattle.std.proofs.Common.{◌≡◌, ℕ, suc, zero, ◌+◌, ◌<◌, ◌≤◌, max, List, [], ◌∷◌, length, get_or, drop, refl, sym, ap, subst, ◌∙◌, arith}
use Rattle.std.specs.Prelude.{reverse}
use Rattle.std.specs.List.{Contains}
use Rattle.std.proofs.lemmas.List.{drop_more, drop_all}
use Rattle.chw_types.specs.declared.kind.Kind.{Kind}
use Rattle.chw_types.specs.TypeTree.{TypeTree, ty_var, nat_lit, nat_sum, nat_product, domain, scalar, vector, data_of, fun, signal, for_all, TypeTrees, no_types, type_and}
use Rattle.chw_types.specs.TypeView.{trees_of}
use Rattle.chw_types.specs.TypeSize.{tree_size, trees_size}
use Rattle.chw_types.specs.Arguments.{given}
use Rattle.chw_types.specs.TypeMoves.{Renaming, lift, rename, rename_all, shift, raised, Substitution, up_by, sub, sub_all}
use Rattle.chw_types.specs.SmallTypes.{depth_of, deepest_of, parts_of, all_parts_of, Takes}
use Rattle.chw_types.proofs.TypeLaws.{sub_ids}
use Rattle.chw_types.proofs.Filled.{fill_for_all}

mutual
  unfolding rename depth_of

  pub rename_keeps_depth : (t : TypeTree) (ρ : Renaming) → depth_of (rename t ρ) ≡ depth_of t
  rename_keeps_depth (ty_var x) ρ = refl
  rename_keeps_depth (nat_lit n) ρ = refl
  rename_keeps_depth (nat_sum a b) ρ = λ i. max (rename_keeps_depth a ρ i) (rename_keeps_depth b ρ i) + 1
  rename_keeps_depth (nat_product a b) ρ = λ i. max (rename_keeps_depth a ρ i) (rename_keeps_depth b ρ i) + 1
  rename_keeps_depth (domain d) ρ = refl
  rename_keeps_depth (scalar s w) ρ = λ i. rename_keeps_depth w ρ i + 1
  rename_keeps_depth (vector n t) ρ = λ i. max (rename_keeps_depth n ρ i) (rename_keeps_depth t ρ i) + 1
  rename_keeps_depth (data_of d ts) ρ = λ i. rename_keeps_deepest ts ρ i + 1
  rename_keeps_depth (fun a b) ρ = λ i. max (rename_keeps_depth a ρ i) (rename_keeps_depth b ρ i) + 1
  rename_keeps_depth (signal d t) ρ = λ i. max (rename_keeps_depth d ρ i) (rename_keeps_depth t ρ i) + 1
  rename_keeps_depth (for_all k t) ρ = λ i. rename_keeps_depth t (lift ρ) i + 1

  rename_keeps_deepest : (ts : TypeTrees) (ρ : Renaming) → deepest_of (rename_all ts ρ) ≡ deepest_of ts
  rename_keeps_deepest no_types ρ = refl
  rename_keeps_deepest (type_and t ts) ρ = λ i. max (rename_keeps_depth t ρ i) (rename_keeps_deepest ts ρ i)

mutual
  unfolding rename parts_of

  pub rename_keeps_parts : (t : TypeTree) (ρ : Renaming) → parts_of (rename t ρ) ≡ parts_of t
  rename_keeps_parts (ty_var x) ρ = refl
  rename_keeps_parts (nat_lit n) ρ = refl
  rename_keeps_parts (nat_sum a b) ρ = λ i. rename_keeps_parts a ρ i + rename_keeps_parts b ρ i + 1
  rename_keeps_parts (nat_product a b) ρ = λ i. rename_keeps_parts a ρ i + rename_keeps_parts b ρ i + 1
  rename_keeps_parts (domain d) ρ = refl
  rename_keeps_parts (scalar s w) ρ = λ i. rename_keeps_parts w ρ i + 1
  rename_keeps_parts (vector n t) ρ = λ i. rename_keeps_parts n ρ i + rename_keeps_parts t ρ i + 1
  rename_keeps_parts (data_of d ts) ρ = λ i. rename_keeps_all_parts ts ρ i + 1
  rename_keeps_parts (fun a b) ρ = λ i. rename_keeps_parts a ρ i + rename_keeps_parts b ρ i + 1
  rename_keeps_parts (signal d t) ρ = λ i. rename_keeps_parts d ρ i + rename_keeps_parts t ρ i + 1
  rename_keeps_parts (for_all k t) ρ = λ i. rename_keeps_parts t (lift ρ) i + 1

  rename_keeps_all_parts : (ts : TypeTrees) (ρ : Renaming) → all_parts_of (rename_all ts ρ) ≡ all_parts_of ts
  rename_keeps_all_parts no_types ρ = refl
  rename_keeps_all_parts (type_and t ts) ρ = λ i. rename_keeps_parts t ρ i + rename_keeps_all_parts ts ρ i

-- an argument, measured with nothing put into it, takes as much room as the variable that it is put for
pub variable_takes : (a : TypeTree) (σ : Substitution) (x c depth parts left : ℕ) → shift a 0 c ≡ σ x → Takes (sub a (up_by 0 (given (reverse [])))) depth parts left → Takes (sub (ty_var x) σ) depth parts left
unfolding sub up_by
variable_takes a σ x c depth parts left e takes =
    let same = sub_ids a in
    let d = rename_keeps_depth a (raised 0 c) ∙ ap depth_of (sym same) in
    let p = rename_keeps_parts a (raised 0 c) ∙ ap parts_of (sym same) in
    subst (λ t. Takes t depth parts left) e (record { shallow = rw d takes.shallow; few = rw p takes.few })

pub for_all_takes : (k : Kind) (t : TypeTree) (σ : Substitution) (c depth parts within of left : ℕ) → within + 1 ≡ depth → of + 1 ≡ parts → Takes (sub t (up_by (c + 1) σ)) within of left → Takes (sub (for_all k t) (up_by c σ)) depth parts left
unfolding depth_of parts_of
for_all_takes k t σ c depth parts within of left e f takes =
    let inside = sub t (up_by (c + 1) σ) in
    let whole : Takes (for_all k inside) depth parts left = record { shallow = omega (arith, takes.shallow); few = omega (arith, takes.few) } in
    subst (λ u. Takes u depth parts left) (fill_for_all c σ k t inside refl) whole

size_among : (ts : List TypeTree) (k : ℕ) (t : TypeTree) → k < length ts → get_or ts k t ≡ t → tree_size t ≤ trees_size (trees_of ts)
size_among [] k t l e = absurd (omega arith)
size_among (u ∷ ts) zero t l e = let f = ap tree_size e in omega arith
size_among (u ∷ ts) (suc k) t l e = let f = size_among ts k t (omega arith) e in omega arith

pub size_of_argument : (ts : List TypeTree) (t : TypeTree) → Contains ts t → tree_size t ≤ trees_size (trees_of ts)
size_of_argument ts t within = size_among ts within.0 t within.1 within.2

-- what the loop over the arguments of a data type keeps: of all arguments, these are left
pub record Passed (all rest : TypeTrees) (depth parts left : ℕ) : Type 0 where
  pub shallow : deepest_of rest ≤ depth → deepest_of all ≤ depth
  pub few : all_parts_of all + left ≡ all_parts_of rest + parts

pub passed_none : (ts : TypeTrees) (depth parts : ℕ) → Passed ts ts depth parts parts
passed_none ts depth parts = record { shallow = λ h. h; few = refl }

pub passed_more : (ts : List TypeTree) (all : TypeTrees) (σ : Substitution) (i : ℕ) (t : TypeTree) (depth parts left less : ℕ) → i < length ts → t ≡ get_or ts i t → Passed all (sub_all (trees_of (drop i ts)) σ) depth parts left → Takes (sub t σ) depth left less → Passed all (sub_all (trees_of (drop (i + 1) ts)) σ) depth parts less
unfolding sub depth_of parts_of
passed_more ts all σ i t depth parts left less l e passed takes =
    let split = drop_more ts i t l ∙ ap (λ u. u ∷ drop (i + 1) ts) (sym e) in
    let now = subst (λ us. Passed all (sub_all (trees_of us) σ) depth parts left) split passed in
    record {
      shallow = λ h. now.shallow (omega (arith, h, takes.shallow));
      few = omega (arith, now.few, takes.few);
    }

pub data_takes : (ts : List TypeTree) (d : ℕ) (σ : Substitution) (i depth parts left within of : ℕ) → length ts ≤ i → within + 1 ≡ depth → of + 1 ≡ parts → Passed (sub_all (trees_of ts) σ) (sub_all (trees_of (drop i ts)) σ) within of left → Takes (sub (data_of d (trees_of ts)) σ) depth parts left
unfolding sub depth_of parts_of
data_takes ts d σ i depth parts left within of l e f passed =
    let now = subst (λ us. Passed (sub_all (trees_of ts) σ) (sub_all (trees_of us) σ) within of left) (drop_all i ts l) passed in
    record { shallow = let h = now.shallow (omega arith) in omega arith; few = omega (arith, now.few) }
