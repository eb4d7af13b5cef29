-- Lists, groups and alternatives with another item in one place.
use Rattle.std.proofs.Common.{◌≡◌, ◌≢◌, ◌∙◌, ℕ, zero, suc, refl, sym, ap}
use Rattle.std.proofs.Common.{List, [], ◌∷◌, length, set, Option, Some}
use Rattle.std.specs.List.{slice_get}
use Rattle.std.specs.Prelude.{if◌then◌else◌, option_map}
use Rattle.chw_types.specs.declared.declarations.Data.{Data}
use Rattle.chw_types.specs.TypeTree.{TypeTree}
use Rattle.chw_terms.specs.declared.scene.Mode.{Mode}
use Rattle.chw_terms.specs.declared.scene.Mode.TheVariants.{V, C, HV, HC, K}
use Rattle.chw_terms.specs.declared.term.Pattern.{Pattern}
use Rattle.chw_terms.specs.declared.term.Pattern.TheVariants.{OfCon, OfLit, Default}
use Rattle.chw_terms.specs.TermTree.{TermTree, Group, no_bindings, bind, size_of}
use Rattle.chw_terms.specs.TermTree.{Alts, no_alts, alt}
use Rattle.chw_typing.proofs.Renamed.{declared_length}
use Rattle.chw_typing.specs.Scopes.{declared}
use Rattle.chw_typing.specs.Groups.{binding_at, patterns}
use Rattle.chw_typing.specs.Paths.{part_of_group, with_side, Branch, branch_at, with_branch}
use Rattle.rewriting.specs.Spots.{is_of_values, scrutinee_mode}

-- an item where another was written, and elsewhere
pub get_written : {X : Type 0} (xs : List X) (n : ℕ) (x y : X)
    → slice_get xs n ≡ Some x → slice_get (set xs n y) n ≡ Some y
get_written [] n x y h = absurd cc
get_written (z ∷ zs) zero x y h = refl
get_written (z ∷ zs) (suc n) x y h = get_written zs n x y h

pub get_other : {X : Type 0} (xs : List X) (n d : ℕ) (y : X)
    → d ≢ n → slice_get (set xs n y) d ≡ slice_get xs d
get_other [] n d y h = refl
get_other (z ∷ zs) zero zero y h = absurd (h refl)
get_other (z ∷ zs) zero (suc d) y h = refl
get_other (z ∷ zs) (suc n) zero y h = refl
get_other (z ∷ zs) (suc n) (suc d) y h = get_other zs n d y (λ e. h (ap suc e))

-- another right side changes no declared type
pub declared_with_side : (g : Group) (i : ℕ) (y : TermTree)
    → declared (with_side g i y) ≡ declared g
declared_with_side no_bindings i y = refl
declared_with_side (bind t e g) zero y = refl
declared_with_side (bind t e g) (suc i) y = ap (λ ts. t ∷ ts) (declared_with_side g i y)

pub size_declared : (g h : Group) → declared h ≡ declared g → size_of h ≡ size_of g
size_declared g h d = sym (declared_length h) ∙ ap length d ∙ declared_length g

-- the binding in a group of the same declared types
pub binding_of : (g h : Group) (f y : TermTree) (i : ℕ) (b : TypeTree × TermTree)
    → declared h ≡ declared g → binding_at g i ≡ Some b → part_of_group h f i ≡ Some y
    → binding_at h i ≡ Some (b.0, y)
binding_of no_bindings h f y i b d at part = absurd cc
binding_of (bind t e g) no_bindings f y i b d at part = absurd cc
binding_of (bind t e g) (bind u x h) f y zero b d at part =
    let is : (t, e) ≡ b = cc in
    let type : u ≡ t = cc in
    let side : x ≡ y = cc in
    λ k. Some ((type ∙ ap (λ (c : TypeTree × TermTree). c.0) is) k, side k)
binding_of (bind t e g) (bind u x h) f y (suc i) b d at part =
    let rest : declared h ≡ declared g = cc in binding_of g h f y i b rest at part

-- the body of an alternative
abbrev pub branch_body : Alts → ℕ → Option TermTree
branch_body alts i = option_map (λ (b : Branch). b.body) (branch_at alts i)

-- another body changes no pattern
pub patterns_with_branch : (alts : Alts) (i : ℕ) (y : TermTree)
    → patterns (with_branch alts i y) ≡ patterns alts
patterns_with_branch no_alts i y = refl
patterns_with_branch (alt q e more) zero y = refl
patterns_with_branch (alt q e more) (suc i) y = ap (λ qs. q ∷ qs) (patterns_with_branch more i y)

-- the alternative among alternatives of the same patterns
pub branch_of : (alts more : Alts) (i : ℕ) (a : Branch) (y : TermTree)
    → patterns more ≡ patterns alts → branch_at alts i ≡ Some a → branch_body more i ≡ Some y
    → branch_at more i ≡ Some (record { pattern = a.pattern; body = y })
branch_of no_alts more i a y d at part = absurd cc
branch_of (alt q e alts) no_alts i a y d at part = absurd cc
branch_of (alt q e alts) (alt r f more) zero a y d at part =
    let is : record { pattern = q; body = e } ≡ a = cc in
    let first : r ≡ q = cc in
    let body : f ≡ y = cc in
    λ k. Some (record { pattern = (first ∙ ap (λ (b : Branch). b.pattern) is) k; body = body k })
branch_of (alt q e alts) (alt r f more) (suc i) a y d at part =
    let rest : patterns more ≡ patterns alts = cc in branch_of alts more i a y rest at part

by_first : (datas : List Data) (q : Pattern) (e f : TermTree) (alts more : Alts)
    → is_of_values datas (alt q f more) ≡ is_of_values datas (alt q e alts)
by_first datas (OfCon c n) e f alts more = refl
by_first datas (OfLit s bits) e f alts more = refl
by_first datas Default e f alts more = refl

by_patterns : (datas : List Data) (alts more : Alts)
    → patterns more ≡ patterns alts → is_of_values datas more ≡ is_of_values datas alts
by_patterns datas no_alts no_alts d = refl
by_patterns datas no_alts (alt r f more) d = absurd cc
by_patterns datas (alt q e alts) no_alts d = absurd cc
by_patterns datas (alt q e alts) (alt r f more) d =
    let first : r ≡ q = cc in
    ap (λ p. is_of_values datas (alt p f more)) first ∙ by_first datas q e f alts more

-- the mode of a scrutinee hangs on the patterns alone
pub mode_of_patterns : (datas : List Data) (m : Mode) (alts more : Alts)
    → patterns more ≡ patterns alts → scrutinee_mode datas m more ≡ scrutinee_mode datas m alts
mode_of_patterns datas C alts more d =
    ap (λ b. if b then K else HC) (by_patterns datas alts more d)
mode_of_patterns datas HC alts more d =
    ap (λ b. if b then K else HC) (by_patterns datas alts more d)
mode_of_patterns datas V alts more d = refl
mode_of_patterns datas HV alts more d = refl
mode_of_patterns datas K alts more d = refl
