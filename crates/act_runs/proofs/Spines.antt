-- The core of a spine, as a place of the spine.
use Rattle.std.proofs.Common.{◌≡◌, ℕ, List, [], ◌∷◌, refl}
use Rattle.chw_types.specs.declared.kind.Kind.{Kind}
use Rattle.chw_types.specs.TypeTree.{TypeTree}
use Rattle.chw_terms.specs.declared.term.Arg.{Arg}
use Rattle.chw_terms.specs.declared.term.Arg.TheVariants.{OfTerm, OfType}
use Rattle.chw_terms.specs.TermTree.{TermTree, app, ty_app}
use Rattle.chw_terms.specs.TermView.{applied}
use Rattle.chw_typing.specs.Scopes.{Setting}
use Rattle.chw_typing.specs.Paths.{with_part}
use Rattle.chw_typing.specs.Around.{Around, in_function, in_ty_app}

-- the path to a place of the core
abbrev pub behind : List Arg → List ℕ → List ℕ
behind [] q = q
behind (a ∷ rest) q = behind rest (0 ∷ q)

pub around_core : {s : Setting} {kinds ks : List Kind} {vars vs : List TypeTree} (rest : List Arg) {e x : TermTree} {q : List ℕ} → Around s kinds vars e q ks vs x → Around s kinds vars (applied e rest) (behind rest q) ks vs x
around_core [] r = r
around_core (OfTerm a ∷ rest) r = around_core rest (in_function r)
around_core (OfType t ∷ rest) r = around_core rest (in_ty_app r)

pub core_with_part : (rest : List Arg) (e y : TermTree) (q : List ℕ) → with_part (applied e rest) (behind rest q) y ≡ applied (with_part e q y) rest
core_with_part [] e y q = refl
core_with_part (OfTerm a ∷ rest) e y q = core_with_part rest (app e a) y (0 ∷ q)
core_with_part (OfType t ∷ rest) e y q = core_with_part rest (ty_app e t) y (0 ∷ q)
