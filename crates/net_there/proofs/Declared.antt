-- What a term declares itself, and what its parts declare.
use Rattle.std.proofs.Common.{◌≡◌, ℕ, List, [], ◌∷◌, Some, refl, option_map, option_and_then}
use Rattle.std.specs.List.{AllByRecursion}
use Rattle.chw_types.specs.TypeTree.{TypeTree}
use Rattle.chw_terms.specs.TermTree.{TermTree, lam, Group, Alts}
use Rattle.chw_typing.specs.Paths.{part_of_group, Branch, branch_at, part_at}
use Rattle.rewriting.specs.Named.{UnderLambdas, under_none, under_one}
use Rattle.normal_forms.specs.Parts.{declared_by, EachDeclared}

-- this holds of all types that are declared in the right sides of a group
abbrev pub SidesDeclare : (TypeTree → Type 0) → Group → TermTree → Type 0
SidesDeclare P g b =
    (i : ℕ) (path : List ℕ) (x : TermTree) → option_and_then (λ c. part_at c path) (part_of_group g b i) ≡ Some x → AllByRecursion P (declared_by x)

-- and in alternatives
abbrev pub AltsDeclare : (TypeTree → Type 0) → Alts → Type 0
AltsDeclare P alts =
    (i : ℕ) (path : List ℕ) (x : TermTree) → option_and_then (λ c. part_at c path) (option_map (λ (b : Branch). b.body) (branch_at alts i)) ≡ Some x → AllByRecursion P (declared_by x)

-- of leading lambdas, and of what is below them
pub under_declares : (P : TypeTree → Type 0) {vars vs : List TypeTree} {e x : TermTree} {t : TypeTree} {p : List ℕ} → UnderLambdas vars e t p vs x → EachDeclared P e → AllByRecursion P vars → AllByRecursion P vs × EachDeclared P x
under_declares P (under_none asks) all h = (h, all)
under_declares P (under_one {a = a} {e = e} same under) all h = under_declares P under (λ path x is. all (0 ∷ path) x is) ((all [] (lam a e) refl).0, h)

-- what holds of the variables below lambdas holds of those before them
pub under_keeps : (P : TypeTree → Type 0) {vars vs : List TypeTree} {e x : TermTree} {t : TypeTree} {p : List ℕ} → UnderLambdas vars e t p vs x → AllByRecursion P vs → AllByRecursion P vars
under_keeps P (under_none asks) h = h
under_keeps P (under_one same under) h = (under_keeps P under h).1
