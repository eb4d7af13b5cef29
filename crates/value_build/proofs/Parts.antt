-- Letrecs by their parts, and what a case tests.
use Rattle.std.proofs.Common.{◌≡◌, ◌∙◌, sym, ap, refl, subst, ℕ, List, ◌++◌, reverse}
use Rattle.std.proofs.lemmas.List.{reverse-append}
use Rattle.chw_base.specs.declared.index.WireId.{WireId}
use Rattle.chw_types.specs.declared.declarations.Data.{Data}
use Rattle.chw_types.specs.TypeTree.{TypeTree, ty_var, nat_lit, nat_sum, nat_product, domain, scalar, vector, data_of, fun, signal, for_all}
use Rattle.chw_terms.specs.declared.scene.Sort.{Sort}
use Rattle.chw_terms.specs.declared.term.Binding.{Binding}
use Rattle.chw_terms.specs.TermTree.{var, letrec}
use Rattle.chw_terms.specs.TermView.{group_of}
use Rattle.net_built.specs.Bodies.{BlockBuilt, block_letrec, GroupBuilt}
use Rattle.net_built.specs.Circuits.{Ground}
use Rattle.net_built.specs.Data.{tested_of}
use Rattle.net_built.specs.Terms.{Variable, wires_at}
use Rattle.net_built.specs.Wires.{Piece}
use Rattle.value_build.specs.Added.{Adds, next}
use Rattle.value_build.specs.Groups.{bound_of}
use Rattle.value_build.specs.Tests.{first_of}

-- the number of the first constructor is the one that a case has
pub first_is : (datas : List Data) (t : TypeTree) (w n : ℕ) (a : List WireId) → first_of datas t ≡ (tested_of datas t w n a).first
first_is datas (ty_var x) w n a = refl
first_is datas (nat_lit k) w n a = refl
first_is datas (nat_sum t u) w n a = refl
first_is datas (nat_product t u) w n a = refl
first_is datas (domain d) w n a = refl
first_is datas (scalar s t) w n a = refl
first_is datas (vector t u) w n a = refl
first_is datas (data_of d ts) w n a = refl
first_is datas (fun t u) w n a = refl
first_is datas (signal t u) w n a = refl
first_is datas (for_all k t) w n a = refl

-- a letrec that gives a variable
pub letrec_made : (ground : Ground) (sort : Sort) (bs : List Binding) (x : ℕ) (expected found : List (List WireId)) (result : List WireId)
    (outer inner : List Variable) (s t : Piece)
    → inner ≡ outer ++ bound_of bs expected → expected ≡ found → result ≡ wires_at (reverse inner) x
    → Adds (λ p. GroupBuilt ground sort (reverse inner) (next s) (group_of bs) p (bound_of bs found)) s t
    → Adds (λ p. BlockBuilt ground sort (reverse outer) (next s) (letrec (group_of bs) (var x)) p result) s t
letrec_made ground sort bs x expected found result outer inner s t entered same is group =
    let bound : List Variable = bound_of bs found in
    let scope : reverse inner ≡ reverse bound ++ reverse outer =
    ap reverse (entered ∙ ap (λ ws. outer ++ bound_of bs ws) same) ∙ reverse-append outer bound in
    let built = subst (λ vs. GroupBuilt ground sort vs (next s) (group_of bs) group.piece bound) scope group.holds in
    record {
      piece = group.piece;
      is = group.is;
      holds = subst (λ ws. BlockBuilt ground sort (reverse outer) (next s) (letrec (group_of bs) (var x)) group.piece ws)
          (sym (is ∙ ap (λ vs. wires_at vs x) scope)) (block_letrec bound built);
    }
