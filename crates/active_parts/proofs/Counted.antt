-- How many arguments a constructor asks for.
use Rattle.std.proofs.Common.{◌≡◌, ◌∙◌, refl, ap, ℕ, suc, ◌+◌, List, [], ◌∷◌, length, arith}
use Rattle.chw_types.specs.declared.kind.Kind.{Kind}
use Rattle.chw_types.specs.TypeTree.{TypeTree, data_of, TypeTrees}
use Rattle.chw_terms.specs.Constructors.{Constructor}
use Rattle.chw_typing.specs.HeadTypes.{for_each, from_each, con_type, variables}
use Rattle.rewriting.specs.Spots.{asked_for}

by_fields : (ts : List TypeTree) (d : ℕ) (us : TypeTrees)
    → asked_for (from_each ts (data_of d us)) ≡ length ts
by_fields [] d us = refl
by_fields (t ∷ ts) d us = ap suc (by_fields ts d us)

by_parameters : (ks : List Kind) (t : TypeTree)
    → asked_for (for_each ks t) ≡ length ks + asked_for t
by_parameters [] t = omega arith
by_parameters (k ∷ ks) t = omega (arith, by_parameters ks t)

pub constructor_asks : (it : Constructor)
    → asked_for (con_type it) ≡ length it.it.params + length it.decl.fields
constructor_asks it =
    let types = it.it.params in
    let fields = it.decl.fields in
    by_parameters types (from_each fields (data_of it.of (variables (length types))))
    ∙ ap (λ n. length types + n) (by_fields fields it.of (variables (length types)))
